use Rattle.std.proofs.Common.{ap, sym, ◌∙◌}
use Rattle.std.specs.FinSet as set
use Rattle.vet_base.proofs.Tables.{placed-empty, placed-insert_held, placed-insert_missing}
use Rattle.vet_entries.proofs.local_criteria.itself.Goals as goal

pub returns-in-Some : goal.returns-in-Some
returns-in-Some c =
    let table = c.args.criteria.now in
    c.with.ensures
    ∙ ap (λ s. set.insert s c.in-Some.place) (c.empty.ensures ∙ sym (placed-empty table))
    ∙ sym (placed-insert_held table set.empty c.args.name.now c.in-Some.place
    (sym c.place.ensures.value ∙ c.in-Some.is))

pub returns-in-None : goal.returns-in-None
returns-in-None c =
    let table = c.args.criteria.now in
    c.empty-in-None.ensures
    ∙ sym (placed-insert_missing table set.empty c.args.name.now (sym c.place.ensures.value ∙ c.in-None.is)
    ∙ placed-empty table)
