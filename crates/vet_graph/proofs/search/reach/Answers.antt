use Rattle.std.proofs.Common.{◌<◌, ap, length, arith, None, Some}
use Rattle.std.proofs.lemmas.List.{length-take}
use Rattle.vet_graph.specs.Search.{is_open, version_at, versions_at}
use Rattle.vet_graph.proofs.Reach.{IsDone-next, closed-from_done, length-le_from_places, reached-iff}
use Rattle.vet_graph.proofs.ReachedHeads.{IsDone-start, LeadsFrom-filed, filed-stands, filed_at, stands_at}
use Rattle.vet_graph.proofs.search.reach.Goals as goal

pub versions-init : goal.versions-init
versions-init c =
    let steps = c.args.steps.now in
    let reached = c.extend_by.new.reached.places.items in
    record {
      reaching = c.in_ok-extend_by.ensures.reaching;
      in_range = omega arith;
      done = IsDone-start steps (is_open c.args.terms.now) (versions_at steps reached)
          (LeadsFrom-filed steps c.args.terms.now reached c.args.links.now.first.items None
          c.requires.filed.from_nothing (rw c.as_slice.ensures.value at c.in_ok-extend_by.ensures.taken));
    }

pub extend_by-requires-in-versions-clause-stands : goal.extend_by-requires-in-versions-clause-stands
extend_by-requires-in-versions-clause-stands c =
    let steps = c.args.steps.now in
    let reached = c.versions.reached.places.items in
    let next = c.versions.next in
    let from = c.index-from.result.now in
    let low : c.versions.next < length c.versions.reached.places.items = omega
    (arith, c.versions.reached.places.ok, c.versions-test.true, c.len.ensures) in
    filed-stands steps reached (Some (version_at steps from)) c.as_slice-places.result.now
    (filed_at steps c.args.links.now c.args.terms.now reached c.versions.reached.seen.items next from c.index.result.now
    c.as_slice-places.result.now c.requires c.versions.invariant.reaching low c.index-from.ensures c.index.ensures
    c.as_slice-places.ensures.value)
    (stands_at steps reached next from low c.index-from.ensures)

pub versions-smaller : goal.versions-smaller
versions-smaller c =
    let h = length-le_from_places c.args.steps.now (is_open c.args.terms.now) c.versions.reached.places.items
    c.versions.invariant.reaching.sound in
    omega (arith, h, c.versions.reached.places.ok, c.versions-test.true, c.len.ensures)

pub versions-preserved : goal.versions-preserved
versions-preserved c =
    let steps = c.args.steps.now in
    let old = c.versions.reached.places.items in
    let new = c.extend_by-in-versions.new.reached.places.items in
    let next = c.versions.next in
    let from = c.index-from.result.now in
    let low : c.versions.next < length c.versions.reached.places.items = omega
    (arith, c.versions.reached.places.ok, c.versions-test.true, c.len.ensures) in
    record {
      reaching = c.in_ok-extend_by-2.ensures.reaching;
      in_range = omega (
        arith,
        c.versions.reached.places.ok,
        c.versions-test.true,
        c.len.ensures,
        length-take
            (length old) new,
        ap length c.in_ok-extend_by-2.ensures.kept,
      );
      done = IsDone-next steps (is_open c.args.terms.now) old new next from low c.index-from.ensures
          c.in_ok-extend_by-2.ensures.kept c.versions.invariant.done
          (LeadsFrom-filed steps c.args.terms.now new c.as_slice-places.result.now (Some (version_at steps from))
          (filed_at steps c.args.links.now c.args.terms.now old c.versions.reached.seen.items next from
          c.index.result.now c.as_slice-places.result.now c.requires c.versions.invariant.reaching low
          c.index-from.ensures c.index.ensures c.as_slice-places.ensures.value)
          c.in_ok-extend_by-2.ensures.taken);
    }

pub returns-clause-reached : goal.returns-clause-reached
returns-clause-reached c =
    reached-iff c.args.steps.now c.args.terms.now (versions_at c.args.steps.now c.versions.reached.places.items)
    c.versions.invariant.reaching.sound
    (closed-from_done c.args.steps.now (is_open c.args.terms.now) c.versions.reached.places.items c.versions.next
    (omega (arith, c.versions.reached.places.ok, c.versions-test.false, c.len.ensures)) c.versions.invariant.done)
