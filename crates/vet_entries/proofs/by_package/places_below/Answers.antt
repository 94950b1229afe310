use Rattle.std.proofs.Common.{ap, sym, ◌∙◌, ◌++◌, ◌∷◌, []}
use Rattle.vet_entries.proofs.SortedPlaces.{one_more}
use Rattle.vet_entries.proofs.by_package.places_below.Goals as goal

pub loop-place-preserved : goal.loop-place-preserved
loop-place-preserved c = c.in_ok-push.ensures.items ∙ ap (λ places. places ++ c.loop-place.place ∷ [])
    c.loop-place.invariant ∙ sym (one_more c.loop-place.place)
