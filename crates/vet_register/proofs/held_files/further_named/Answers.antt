use Rattle.std.proofs.Common.{◌∙◌, ◌++◌, [], ◌∷◌, Some, None, ap, sym, arith}
use Rattle.std.specs.Option.{option_copied}
use Rattle.std.proofs.lemmas.List.{append-nil}
use Rattle.vet_register.specs.HeldFiles.{further_at}
use Rattle.vet_register.proofs.FurtherCriteria.{found_further}
use Rattle.vet_register.proofs.held_files.further_named.Goals as goal
use Rattle.vet_register.proofs.held_files.further_named.Goals.{in-Some+in_ok-clone+in_ok-push, in_default}

pub names-preserved : goal.names-preserved
names-preserved c =
    let onward = found_further (further_at c.args.table.now) c.args.names.now c.names.name-index c.name-item.result
    (omega (arith, c.names-test.true)) c.name-item.is in
    elim c.match-further_at.branch [
      | in-Some+in_ok-clone+in_ok-push w ↦ rw w.copies-is
          (w.in_ok-push.ensures.items ∙ (λ i. c.names.invariant i ++ w.in_ok-clone.ensures.cases i ∷ [])
          ∙ onward (Some w.in-Some.criterion.now) (ap option_copied (sym w.in-Some.is) ∙ c.further_at.ensures))
      | in_default w ↦ rw w.copies-is
          (c.names.invariant ∙ sym (append-nil _) ∙ onward None
          (ap option_copied (sym w.in_default.is) ∙ c.further_at.ensures))
    ]
