use Rattle.std.proofs.Common.{None, get_or, refl}
use Rattle.vet_entries.specs.Taken.{HasPeer, all_sourced}
use Rattle.vet_entries.proofs.NumberAmong.{within_same}
use Rattle.vet_entries.proofs.Sourcing.{All-push, one_more_sourced}
use Rattle.vet_entries.proofs.package_entries.add_own.Goals as goal

pub loop-place-preserved : goal.loop-place-preserved
loop-place-preserved c =
    let content = c.args.facts.now.content in
    let entries = c.entries-entries.result.now in
    let places = c.places_of-place-items.result.now in
    let i = c.loop-place.place-index in
    let x = c.index-entries-place.result in
    let within = within_same (get_or places i 0) entries _
    (c.places_of-place-items.ensures.within i 0 c.loop-place-test.true) c.entries-entries.ensures.value in
    record {
      entries = one_more_sourced content.peers None entries places i x
          (all_sourced content.peers c.args.taken.now.items) c.loop-place.taken.items c.push.new.self.items _
          c.loop-place-test.true within c.index-entries-place.is c.in_ok-push.ensures.items refl refl
          c.loop-place.invariant.entries;
      there = All-push (HasPeer content.peers) c.loop-place.taken.items c.push.new.self.items _
          c.in_ok-push.ensures.items c.loop-place.invariant.there tt;
    }
