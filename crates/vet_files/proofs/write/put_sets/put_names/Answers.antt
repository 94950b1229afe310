use Rattle.std.proofs.Common.{◌∙◌, sym, ap}
use Rattle.std.proofs.lemmas.Bool.{false≢true}
use Rattle.toml.specs.View.{table_view}
use Rattle.vet_files.specs.Tables.{with_key}
use Rattle.vet_files.proofs.PutSets.{empty_names_read, left_out, not_left_out}
use Rattle.vet_files.proofs.write.put_sets.put_names.Goals as goal

pub returns-then-is_empty-clause-put : goal.returns-then-is_empty-clause-put
returns-then-is_empty-clause-put c = ap (with_key (table_view c.args.table.now) c.args.key.now)
    (sym (left_out c.args.value.now (c.is_empty.ensures.0 c.if-is_empty.true)))

pub returns-then-is_empty-clause-read : goal.returns-then-is_empty-clause-read
returns-then-is_empty-clause-read c = empty_names_read c.args.value.now (c.is_empty.ensures.0 c.if-is_empty.true)

pub returns-clause-put : goal.returns-clause-put
returns-clause-put c =
    rw (not_left_out c.args.value.now (λ none. false≢true (sym c.if-is_empty.false ∙ c.is_empty.ensures.1 none)))
    c.put.ensures.put
