use Rattle.std.proofs.Common.{◌<◌, ◌||◌, ◌∷◌, [], length, get_or, take, sym, ap, ◌∙◌}
use Rattle.std.specs.List.{list_any}
use Rattle.std.specs.Option.{option_copied}
use Rattle.std.proofs.lemmas.List.{get_or_default}
use Rattle.std.proofs.lemmas.List.Folds.{list_any-append}
use Rattle.vet_base.specs.Criteria.{leads_to}
use Rattle.vet_entries.specs.Condemned.{condemns}
use Rattle.vet_entries.specs.Source.{sourced_at}
use Rattle.vet_entries.specs.Step.{SourcedEntry}
use Rattle.vet_entries.proofs.Sourcing.{sourced_upto}
use Rattle.vet_entries.proofs.Violations.{or_in_turn, or_last}
use Rattle.vet_entries.proofs.condemned.with_all_violated.Goals as goal

pub loop-place-preserved : goal.loop-place-preserved
loop-place-preserved c k =
    let peer = option_copied c.args.source.now.peer in
    let entries = c.args.source.now.entries.now in
    let places = c.args.source.now.places.now in
    let i = c.loop-place.place-index in
    let within : get_or places i 0 < length entries = c.requires i 0 c.loop-place-test.true in
    let x = get_or entries (get_or places i 0) c.index-source-place.result in
    let is = get_or_default entries (get_or places i 0) c.index-source-place.result x within in
    let e : SourcedEntry = record { peer = peer; held = x } in
    let test = condemns c.args.criteria.now c.args.version.now k in
    let before = leads_to c.args.criteria.now c.args.violated k in
    let so_far = sourced_at peer entries (take i places) in
    c.with_violated-violated.ensures k
    ∙ ap (λ b. b || test e) (c.loop-place.invariant k)
    ∙ or_in_turn before (list_any test so_far) (test e)
    ∙ ap (λ b. before || b)
    (ap (λ b. list_any test so_far || b) (sym (or_last (test e)))
    ∙ sym (list_any-append test so_far (e ∷ []))
    ∙ ap (list_any test) (sym (sourced_upto peer entries places i x c.loop-place-test.true within is)))
