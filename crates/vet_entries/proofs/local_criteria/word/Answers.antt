use Rattle.std.proofs.Common.{ap, sym, ◌∙◌}
use Rattle.std.specs.Option.{option_copied}
use Rattle.vet_base.specs.Criteria.{placed}
use Rattle.vet_base.proofs.Tables.{placed-empty}
use Rattle.vet_entries.proofs.MappedNames.{unlisted_nothing}
use Rattle.vet_entries.proofs.local_criteria.word.Goals as goal

pub returns-then-not-is_built_in : goal.returns-then-not-is_built_in
returns-then-not-is_built_in c =
    let table = c.args.criteria.now in
    let none = sym c.get.ensures ∙ ap option_copied c.in_default.is in
    c.empty.ensures
    ∙ sym (ap (placed table)
    (unlisted_nothing c.args.map.now c.args.name.now none (sym c.is_built_in.ensures ∙ c.if-not-is_built_in.true))
    ∙ placed-empty table)
