use Rattle.std.proofs.Common.{◌≡◌, ℕ, ◌<◌, [], length, get_or, refl, subst, sym, ap, ◌∙◌, arith}
use Rattle.std.specs.FinMap as map
use Rattle.std.specs.FinSet as set
use Rattle.std.proofs.lemmas.List.{length-set}
use Rattle.vet_base.specs.Closures.{AreClosures}
use Rattle.vet_base.specs.Criteria.{Criteria, placed}
use Rattle.vet_base.proofs.Closing.{alone}
use Rattle.vet_base.proofs.Tables.{at_place, held_at, place_at, placed-empty, placed-insert_held}
use Rattle.vet_entries.specs.LocalCriteria.{direct, stands_for}
use Rattle.vet_entries.proofs.JoinedWords.{set_below}
use Rattle.vet_entries.proofs.PeerWords.{words_joined}
use Rattle.vet_entries.proofs.local_criteria.PeerWords.of.Goals as goal

pub loop-place-preserved : goal.loop-place-preserved
loop-place-preserved c =
    let table = c.args.criteria.now in
    let peer = c.args.peer.now in
    let defined = peer.content.table in
    let m = peer.settings.map in
    let place = c.loop-place.place in
    let n = get_or (map.keys defined) place [] in
    let is = c.definitions-definitions.ensures in
    let words = c.direct_words-direct.result in
    let count : length c.names-count.result.now ≡ length (map.keys defined) = ap length c.names-count.ensures.names
    ∙ ap (λ t. length (map.keys t)) is in
    let low : place < length (map.keys defined) = omega (arith, c.loop-place-test.true, count) in
    let at = place_at defined n place low refl in
    let held = held_at defined n place at in
    let are = subst (λ (t : Criteria). (r : ℕ) → r < length (map.keys t)
    → get_or words r set.empty ≡ placed table (direct t m (get_or (map.keys t) r []))) is
    c.direct_words-direct.ensures in
    let closures = subst (λ (t : Criteria). AreClosures t c.closures-closures.result) is c.closures-closures.ensures in
    let itself = c.with.ensures ∙ ap (λ s. set.insert s place) (c.empty.ensures ∙ sym (placed-empty defined))
    ∙ sym (placed-insert_held defined set.empty n place at) in
    let reached = c.close-reached.ensures.closure defined (alone n) closures itself in
    let within : place < length c.loop-place.stands =
    omega (arith, c.loop-place.invariant.long, c.names-count.ensures.few, c.loop-place-test.true) in
    record {
      long = length-set c.loop-place.stands place c.union_at.result ∙ c.loop-place.invariant.long;
      below = set_below c.loop-place.stands place c.union_at.result
          (λ p. stands_for table peer (get_or (map.keys defined) p [])) within
          (words_joined defined m n held table words c.close-reached.result c.union_at.result are reached
          c.union_at.ensures)
          c.loop-place.invariant.below;
    }

pub returns : goal.returns
returns c name p at =
    let keys = map.keys c.args.peer.now.content.table in
    let many : length c.names-count.result.now ≡ length keys = ap length c.names-count.ensures.names
    ∙ ap (λ t. length (map.keys t)) c.definitions-definitions.ensures in
    let a = at_place c.args.peer.now.content.table name p at in
    ap (λ sets. get_or sets p set.empty) c.in_ok-new.ensures.ok
    ∙ c.loop-place.invariant.below p (omega (arith, a.0, many, c.loop-place-test.false))
    ∙ ap (stands_for c.args.criteria.now c.args.peer.now) a.1
