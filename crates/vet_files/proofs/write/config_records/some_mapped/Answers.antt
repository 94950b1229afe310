use Rattle.std.proofs.Common.{sym, ◌∙◌}
use Rattle.std.proofs.lemmas.Bool.{false≢true}
use Rattle.vet_files.proofs.ConfigRead.{empty_map_out, other_map_in}
use Rattle.vet_files.proofs.write.config_records.some_mapped.Goals as goal

pub returns-then-is_empty-clause-written : goal.returns-then-is_empty-clause-written
returns-then-is_empty-clause-written c = empty_map_out c.args.map.now (c.is_empty.ensures.0 c.if-is_empty.true)

pub returns-clause-written : goal.returns-clause-written
returns-clause-written c =
    other_map_in c.args.map.now (λ none. false≢true (sym c.if-is_empty.false ∙ c.is_empty.ensures.1 none))
