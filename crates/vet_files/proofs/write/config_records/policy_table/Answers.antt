use Rattle.vet_files.proofs.ConfigRead.{policy_read}
use Rattle.vet_files.proofs.write.config_records.policy_table.Goals as goal

pub returns-clause-read : goal.returns-clause-read
returns-clause-read c =
    let edges = c.some_dependencies-dependencies.ensures in
    let flag = rw c.as_ref.ensures.value at c.in_ok-put_some.ensures.read in
    let criteria = rw c.as_ref-2.ensures.value at c.in_ok-put_some-2.ensures.read in
    let dev = rw c.as_ref-3.ensures.value at c.in_ok-put_some-4.ensures.read in
    let notes = rw c.as_ref-4.ensures.value at c.in_ok-put_some-5.ensures.read in
    record {
      keyed = c.key_text_reads_back.ensures;
      read = policy_read c.args.policy.now.policy _ edges.written edges.value flag criteria
          c.in_ok-put_some-3.ensures.read dev notes;
    }
