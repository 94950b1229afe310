use Rattle.csv.specs.Records.{fields_of}
use Rattle.vet_demand.proofs.ReadingLemmas.{row_read}
use Rattle.vet_demand.proofs.table_reader.next_row.Goals as goal

pub returns-in-Ok-clause-first : goal.returns-in-Ok-clause-first
returns-in-Ok-clause-first c =
    row_read c.args.reader.now c.read_byte_record.new.self c.in-Ok.found (fields_of c.read_byte_record.new.row)
    c.in-Ok.ensures.reads c.in-Ok.ensures.ready c.in-Ok.ensures.flexible
