use Rattle.vet_files.proofs.ConfigRead.{peer_read}
use Rattle.vet_files.proofs.write.config_records.peer_table.Goals as goal

pub returns-clause-read : goal.returns-clause-read
returns-clause-read c =
    let map = c.some_mapped.ensures in
    let exclude = c.some_packages.ensures in
    record {
      named = c.as_str.ensures.name;
      read = peer_read c.args.peer.now _ _ map.written map.value exclude.written exclude.value
          c.in_ok-put_some.ensures.read c.in_ok-put_some-2.ensures.read c.in_ok-put.ensures.read;
    }
