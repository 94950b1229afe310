use Rattle.std.proofs.lemmas.Result.{IfOk-at_ok}
use Rattle.std.specs.Prelude.{codes, []}
use Rattle.toml.specs.View.{table_view}
use Rattle.vet_files.specs.Imports.{peer_file_told}
use Rattle.vet_files.proofs.Rising.{Rising}
use Rattle.vet_files.proofs.RisingTables.{file-rises}
use Rattle.vet_files.proofs.Stands.{PeerStands, answered, peer-stands}
use Rattle.vet_files.proofs.imports_file.read_peer.Goals as goal

pub returns-clause-stands : goal.returns-clause-stands
returns-clause-stands c =
    let ms = table_view c.in_ok-file.file in
    answered PeerStands (peer_file_told (codes "top") [] ms) c.read_peer_file.result
    (peer-stands (codes "top") [] ms (IfOk-at_ok Rising c.in_ok-file.ensures (file-rises c.args.bytes.now)))
    c.read_peer_file.ensures
