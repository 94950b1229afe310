use Rattle.std.proofs.Common.{◌∙◌, sym}
use Rattle.vet_demand.proofs.ReadingLemmas.{text_marked, text_unmarked}
use Rattle.vet_demand.proofs.table_reader.text_len.Goals as goal

pub returns-then-starts_with-clause-value : goal.returns-then-starts_with-clause-value
returns-then-starts_with-clause-value c =
    text_marked c.args.bytes.now (sym c.starts_with.ensures.value ∙ c.if-starts_with.true)

pub returns-else-starts_with-clause-value : goal.returns-else-starts_with-clause-value
returns-else-starts_with-clause-value c =
    text_unmarked c.args.bytes.now (sym c.starts_with.ensures.value ∙ c.if-starts_with.false)
