use Rattle.std.proofs.Common.{sym, ◌∙◌}
use Rattle.std.proofs.lemmas.Bool.{false≢true}
use Rattle.vet_files.specs.Tables.{list_data}
use Rattle.vet_files.proofs.ConfigRead.{empty_set_out, other_set_in}
use Rattle.vet_files.proofs.write.config_records.some_packages.Goals as goal

pub returns-then-is_empty-clause-written : goal.returns-then-is_empty-clause-written
returns-then-is_empty-clause-written c =
    let s = c.args.packages.now in
    empty_set_out s (list_data s) (c.is_empty.ensures.0 c.if-is_empty.true)

pub returns-clause-written : goal.returns-clause-written
returns-clause-written c =
    let s = c.args.packages.now in
    other_set_in s (list_data s) (λ none. false≢true (sym c.if-is_empty.false ∙ c.is_empty.ensures.1 none))
