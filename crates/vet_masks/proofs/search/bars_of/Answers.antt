use Rattle.std.proofs.Common.{◌≡◌, ◌<◌, ℕ, Bool, ◌-◌, Some, None, sym, ap, ◌∙◌, get_or, length, set as setn, take}
use Rattle.std.proofs.Common.{arith}
use Rattle.std.proofs.Common.{Vec, Global}
use Rattle.std.specs.BTreeMap.{get}
use Rattle.std.specs.FinSet as set
use Rattle.std.specs.Ordering.{nat_cmp}
use Rattle.std.proofs.lemmas.List.{get_or_default, length-replicate, length-set}
use Rattle.vet_base.proofs.ListLemmas.{all_alike}
use Rattle.vet_base.specs.CriteriaSet.{has}
use Rattle.vet_base.specs.declared.criteria_set.CriteriaSet.{CriteriaSet}
use Rattle.vet_base.specs.Version.{VersionValue}
use Rattle.vet_base.specs.VersionOrder.{version_cmp}
use Rattle.vet_masks.specs.Vouched.{barred_by}
use Rattle.vet_masks.proofs.Barring.{barred-more, bars-put, bars-stay}
use Rattle.vet_masks.proofs.search.bars_of.Goals as goal
use Rattle.vet_masks.proofs.search.bars_of.Goals.{in-Some, in_default}

pub barred-init : goal.barred-init
barred-init c = record {
  count = omega (
    arith,
    ap length c.in_ok-bars.ensures.ok ∙ length-replicate (c.len.result - 0) set.empty,
    c.len.ensures,
    c.args.index.now.after.ok,
  );
  bars = λ v n q e. ap (λ xs. has q (get_or xs n set.empty)) c.in_ok-bars.ensures.ok
      ∙ ap (has q) (all_alike set.empty (c.len.result - 0) n) ∙ set.contains-empty nat_cmp q;
}

pub barred-preserved : goal.barred-preserved
barred-preserved c =
    let index = c.args.index.now in
    let numbers = get version_cmp index.numbers in
    let bars = c.barred.bars.items in
    let barred = c.args.barred.now in
    let i = c.barred.one-index in
    let b = c.one-item.result in
    let inv = c.barred.invariant in
    let looked = sym c.get.ensures.value ∙ sym c.copied.ensures in
    let so_far : ℕ → VersionValue → Bool = λ q v. barred_by (take i barred) q v in
    elim c.match-copied.branch [
      | in-Some w ↦ (let k = w.in-Some.number in
          let known : numbers b.version ≡ Some k = looked ∙ w.in-Some.is in
          let low : k < length bars = rw inv.count (c.requires.below b.version k known) in
          let here : get_or bars k set.empty ≡ w.index.result.now =
          get_or_default bars k set.empty w.index.result.now low ∙ sym w.index.ensures in
          let is : c.match-copied.bars.items ≡ setn bars k (set.union (get_or bars k set.empty) b.criteria) =
          ap (λ (x : Vec CriteriaSet Global). x.items) w.bars-is
          ∙ ap (setn bars k) (w.union.ensures ∙ ap (λ s. set.union s b.criteria) (sym here)) in
          record {
            count = ap length is ∙ length-set bars k (set.union (get_or bars k set.empty) b.criteria) ∙ inv.count;
            bars = λ v n q e. ap (λ xs. has q (get_or xs n set.empty)) is
                ∙ bars-put numbers (length index.after.items) c.requires bars b so_far inv.bars k known low v n q e
                ∙ sym (barred-more barred i b c.barred-test.true c.one-item.is q v);
          })
      | in_default w ↦ (let none : numbers b.version ≡ None = looked ∙ w.in_default.is in record {
        count = ap (λ (x : Vec CriteriaSet Global). length x.items) w.bars-is ∙ inv.count;
        bars = λ v n q e. ap (λ (x : Vec CriteriaSet Global). has q (get_or x.items n set.empty)) w.bars-is
            ∙ bars-stay numbers (length index.after.items) c.requires bars b so_far inv.bars none v n q e
            ∙ sym (barred-more barred i b c.barred-test.true c.one-item.is q v);
      })
    ]
