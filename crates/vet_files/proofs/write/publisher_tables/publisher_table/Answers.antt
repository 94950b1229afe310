use Rattle.vet_files.proofs.PublishersRead.{publisher_read}
use Rattle.vet_files.proofs.write.publisher_tables.publisher_table.Goals as goal

pub returns-clause-read : goal.returns-clause-read
returns-clause-read c =
    let login = rw c.as_ref.ensures.value at c.in_ok-put_some.ensures.read in
    let name = rw c.as_ref-2.ensures.value at c.in_ok-put_some-2.ensures.read in
    record {
      read = publisher_read c.args.publisher.now c.in_ok-put.ensures.read login name c.in_ok-put-2.ensures.read
          c.in_ok-put-3.ensures.read;
    }
