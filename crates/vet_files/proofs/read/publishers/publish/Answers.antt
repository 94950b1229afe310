use Rattle.std.proofs.Common.{◌≡◌, ◌≤◌, List, length, ap, arith}
use Rattle.vet_entries.specs.declared.publisher.Publisher.{Publisher}
use Rattle.vet_files.specs.Publishers.{in_order}
use Rattle.vet_files.proofs.Ordered.{in_order-length}
use Rattle.vet_files.proofs.read.publishers.publish.Goals as goal

no_more : (given taken sorted : List Publisher) → taken ≡ given → sorted ≡ in_order taken → length sorted ≤ length given
no_more given taken sorted all is = omega (arith, in_order-length taken, ap length is, ap length all)

pub overflow_sub-read : goal.overflow_sub-read
overflow_sub-read c =
    let fewer = no_more _ _ _ c.into_vec.ensures c.in_ok-publishers.ensures.value in
    omega (arith, c.len.ensures, c.len-read.ensures)
