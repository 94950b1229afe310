use Rattle.std.proofs.Common.{sym, ◌∙◌}
use Rattle.vet_files.proofs.ConfigRead.{edges_in}
use Rattle.vet_files.proofs.write.config_records.some_dependencies.Goals as goal

pub returns-clause-written : goal.returns-clause-written
returns-clause-written c = edges_in c.args.criteria.now (sym c.is_empty.ensures ∙ c.if-is_empty.false)
