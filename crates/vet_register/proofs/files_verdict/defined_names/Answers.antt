use Rattle.std.proofs.Common.{◌≡◌, ◌∙◌, map as mapped, ap, sym, arith, inl}
use Rattle.std.specs.FinMap as map
use Rattle.std.proofs.lemmas.Result.{err_from_is_err_and}
use Rattle.vet_base.specs.declared.limits.TheConstants.{MOST_CRITERIA}
use Rattle.vet_base.specs.Defined.{defined, table_told}
use Rattle.vet_register.specs.NamesOfFiles.{named_alone}
use Rattle.vet_register.proofs.FilesAccepted.{memory_wants, not_more}
use Rattle.vet_register.proofs.UnknownNames.{alone_has, alone_table}
use Rattle.vet_register.proofs.files_verdict.defined_names.Goals as goal

pub returns-in_err-table-clause-told : goal.returns-in_err-table-clause-told
returns-in_err-table-clause-told c =
    let criteria = c.args.criteria.now in
    let few = not_more MOST_CRITERIA (map.len (defined criteria))
    (omega (arith, c.if-len-gt-MOST_CRITERIA.false, c.len.ensures, c.in_ok-names.ensures.len)) in
    let told = ap table_told c.in_ok-without_implied.ensures ∙ alone_table criteria few c.requires in
    let passed = err_from_is_err_and c.from_residual-in_err-table.result c.from_residual-in_err-table.ensures.1 in
    rw (passed.1, passed.2) (inl (memory_wants _ _ _ told c.in_err-table.ensures.told))

pub returns-clause-table : goal.returns-clause-table
returns-clause-table c n =
    let criteria = c.args.criteria.now in
    let few = not_more MOST_CRITERIA (map.len (defined criteria))
    (omega (arith, c.if-len-gt-MOST_CRITERIA.false, c.len.ensures, c.in_ok-names.ensures.len)) in
    let told = ap table_told c.in_ok-without_implied.ensures ∙ alone_table criteria few c.requires in
    let made : c.in_ok-table.table ≡ defined (mapped named_alone criteria) = cc
    (sym c.in_ok-table.ensures.told ∙ told) in
    ap (λ t. map.contains_key t n) made ∙ alone_has criteria n
