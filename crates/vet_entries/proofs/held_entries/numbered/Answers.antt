use Rattle.std.proofs.Common.{◌+◌, ◌++◌, ◌∷◌, [], ap, sym, ◌∙◌, arith}
use Rattle.std.proofs.lemmas.List.{length_push}
use Rattle.vet_entries.proofs.Numbers.{numbered_push}
use Rattle.vet_entries.proofs.held_entries.numbered.Goals as goal

pub loop-entry-preserved : goal.loop-entry-preserved
loop-entry-preserved c =
    let so_far = c.loop-entry.yielded in
    let entry = c.in-Some.entry in
    let pushed = numbered_push 1 (c.loop-entry.number + 1) so_far entry (omega arith) in (
      tt,
      tt,
      c.in_ok-push.ensures.items
          ∙ ap (λ held. held ++ (record { number = c.loop-entry.number + 1; entry = entry }) ∷ [])
          c.loop-entry.invariant.2 ∙ sym pushed,
      omega (arith, length_push so_far entry),
    )
