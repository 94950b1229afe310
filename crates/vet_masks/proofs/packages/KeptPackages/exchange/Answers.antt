use Rattle.std.proofs.Common.{◌≡◌, IfSome, is_some, true, refl, sym, ap, subst, ◌∙◌}
use Rattle.std.specs.BTreeMap.{get}
use Rattle.std.specs.Cmp.Lexicographic.{slice_cmp}
use Rattle.std.specs.Ordering.{eq_by_cmp, nat_cmp}
use Rattle.std.proofs.lemmas.List.{nil_from_length}
use Rattle.std.proofs.lemmas.List.Elements.{All-head, All-tail, All-weaker}
use Rattle.vet_masks.specs.declared.packages.KeptChange.{KeptChange}
use Rattle.vet_masks.specs.Packages.{IsKeptOf, has_kept_slot, in_slot, is_changed, kept_at, put_at}
use Rattle.vet_masks.proofs.Keeping.{kept-next, slot-put, slot-stays}
use Rattle.vet_masks.proofs.packages.KeptPackages.exchange.Goals as goal

pub packages-init : goal.packages-init
packages-init c =
    let all = c.into_iter-one-iterator.ensures.into_iter_gives.0 in
    record {
      next = tt;
      finite = tt;
      slots = rw all c.requires;
      at = λ name. rw all refl;
      kept = λ facts own others. rw all (own, others);
    }

pub put-requires : goal.put-requires
put-requires c = All-head (λ (d : KeptChange). has_kept_slot c.packages.self d.«package» ≡ true) c.in-Some.one
    c.next.new.self.rest.items (rw c.in-Some.ensures.steps.0 at c.packages.invariant.slots)

pub packages-preserved : goal.packages-preserved
packages-preserved c =
    let one = c.in-Some.one in
    let rest = c.next.new.self.rest.items in
    let steps = c.in-Some.ensures.steps.0 in
    let old = get (slice_cmp nat_cmp) c.packages.self.packages in
    let HasSlot = λ (d : KeptChange). has_kept_slot c.packages.self d.«package» ≡ true in
    let HasNow = λ (d : KeptChange). is_some (get (slice_cmp nat_cmp) c.put.new.packages d.«package») ≡ true in
    record {
      next = tt;
      finite = tt;
      slots = All-weaker HasSlot HasNow (λ d h. ap is_some (c.put.ensures d.«package») ∙ slot-stays _ _ _ h) rest
          (All-tail HasSlot one rest (rw steps at c.packages.invariant.slots));
      at = λ name. ap (put_at rest name) (ap in_slot (c.put.ensures name)
          ∙ slot-put (old name) one.kept (eq_by_cmp (slice_cmp nat_cmp) one.«package» name))
          ∙ (rw steps at c.packages.invariant.at name);
      kept = λ facts own others. (let IsOwn = λ (d : KeptChange). IsKeptOf facts d.«package» d.kept in
          let so_far = rw steps at (c.packages.invariant.kept facts own others) in (
            All-tail IsOwn one rest so_far.0,
            λ name other. subst (λ o. IfSome (in_slot o) (IsKeptOf facts name)) (sym (c.put.ensures name))
                (kept-next facts one rest old (All-head IsOwn one rest so_far.0) so_far.1 name other),
          ));
    }

pub returns : goal.returns
returns c = record {
  at = λ name. (let none = nil_from_length c.packages.one-iterator.rest.items
      (sym c.packages.one-iterator.rest.ok.0 ∙ c.in-None.ensures.steps.0) in
      sym (ap (λ rest. put_at rest name (kept_at c.packages.self name)) none) ∙ c.packages.invariant.at name);
  kept = λ facts own others name. (let none = nil_from_length c.packages.one-iterator.rest.items
      (sym c.packages.one-iterator.rest.ok.0 ∙ c.in-None.ensures.steps.0) in
      (c.packages.invariant.kept facts own others).1 name (ap (λ rest. is_changed rest name) none));
}
