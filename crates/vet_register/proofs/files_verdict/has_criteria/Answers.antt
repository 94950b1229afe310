use Rattle.std.proofs.Common.{◌∙◌, ◌&&◌, ℕ, List, not, filter, length, ap, sym, arith}
use Rattle.std.specs.FinMap as map
use Rattle.std.specs.List.{list_all}
use Rattle.std.proofs.lemmas.Bool.{eq-eqb}
use Rattle.vet_base.specs.CriteriaChanges.{is_built_in}
use Rattle.vet_register.specs.Already.{is_held}
use Rattle.vet_register.proofs.files_verdict.has_criteria.Goals as goal

pub returns : goal.returns
returns c =
    let table = c.args.table.now in
    let count : List (List ℕ) → ℕ = (λ names. length (filter (λ n. not (is_built_in n)) names)) in
    let counted = eq-eqb (length c.args.criteria.now) (count (map.keys table))
    (omega (arith, c.if-criteria-further_count.false, c.further_count.ensures ∙ ap count c.names.ensures.names)) in
    c.are_held.ensures ∙ sym (ap (λ b. b && list_all (is_held table) c.args.criteria.now) counted)
