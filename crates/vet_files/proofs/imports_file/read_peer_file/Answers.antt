use Rattle.vet_files.proofs.PeerStanding.{is-content}
use Rattle.vet_files.proofs.imports_file.read_peer_file.Goals as goal

pub of-requires : goal.of-requires
of-requires c =
    let found = c.in_ok-found.found.content in
    rw (c.into_vec.ensures, c.into_vec-2.ensures) (is-content found.criteria found.entries c.in_ok-found.ensures.stands)
