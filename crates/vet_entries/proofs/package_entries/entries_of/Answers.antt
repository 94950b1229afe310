use Rattle.std.proofs.Common.{◌<◌, None, length, ap, arith}
use Rattle.vet_entries.specs.Step.{sourced, taken_from}
use Rattle.vet_entries.specs.Taken.{all_sourced}
use Rattle.vet_entries.proofs.Sourcing.{one_more_given}
use Rattle.vet_entries.proofs.package_entries.entries_of.Goals as goal

pub loop-place-preserved : goal.loop-place-preserved
loop-place-preserved c =
    let content = c.args.facts.now.content in
    let name = c.args.«package».now in
    let place = c.loop-place.place in
    let within : place < length content.peers =
    omega (arith, c.loop-place-test.true, ap length c.peers-place-end.ensures.value) in
    record {
      entries = one_more_given (taken_from name) content.peers place (sourced None name content.entries)
          (all_sourced content.peers c.loop-place.taken.items) (all_sourced content.peers c.add_of_peer.new.taken.items)
          within c.in_ok-add_of_peer.ensures.entries c.loop-place.invariant.entries;
      there = c.in_ok-add_of_peer.ensures.peers;
    }
