use Rattle.std.proofs.Common.{◌≡◌, ◌∷◌, ap, sym, ◌∙◌, ◌++◌}
use Rattle.std.specs.Vec.Iter.{into_iter_items}
use Rattle.vet_base.proofs.DefinedTables.{next_fits}
use Rattle.vet_base.proofs.definitions.Definitions.with_built_in.Goals as goal

pub set-requires : goal.set-requires
set-requires c =
    let at = c.criteria in
    let x = c.in-Some.criterion in
    let steps : into_iter_items at.criterion-iterator ≡ x ∷ into_iter_items c.next.new.self =
    c.in-Some.ensures.steps.0 in
    let all = ap (λ xs. at.yielded ++ xs) (sym steps) ∙ at.invariant.3 in
    record {
      room = rw at.invariant.2
          (next_fits at.yielded (into_iter_items c.next.new.self) c.args.criteria.items x all c.requires.few);
    }
