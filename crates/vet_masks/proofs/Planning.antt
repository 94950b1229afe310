-- What is planned of some packages, and what more room leaves.
use Rattle.std.proofs.Common.{◌≡◌, ◌||◌, Bool, true, false, cond, List, [], ◌∷◌, map, refl, sym, ap, subst}
use Rattle.std.proofs.Common.{◌∙◌, ◌++◌, ◌+◌, ◌-◌, ◌^◌, ℕ, IfOk, IfSome, IsSomeAnd, None, Some, Option, Ok, Err}
use Rattle.std.proofs.Common.{Result, arith, min}
use Rattle.std.specs.Option.{option_or}
use Rattle.std.specs.Cmp.Lexicographic.{nat_list_cmp_total, slice_cmp}
use Rattle.std.specs.FinSet as set
use Rattle.std.specs.List.{All, sum_by}
use Rattle.std.specs.Ordering.{eq_by_cmp, nat_cmp}
use Rattle.std.proofs.lemmas.List.Elements.{All-cons, All-head, All-map, All-nil, All-push}
use Rattle.std.proofs.lemmas.List.Elements.{All-weaker}
use Rattle.std.proofs.lemmas.List.Sums.{sum_by-append, sum_by-cons}
use Rattle.std.proofs.lemmas.Grind.{flat_map-append}
use Rattle.std.proofs.lemmas.List.{append-nil, map-append}
use Rattle.vet_base.specs.Criteria.{Criteria}
use Rattle.vet_base.specs.Names.{IsRising, NameSet, members}
use Rattle.vet_base.specs.declared.refusal.Refusal.{Refusal}
use Rattle.vet_base.specs.Words.{Name}
use Rattle.vet_demand.specs.declared.pair.Pair.{Pair}
use Rattle.vet_demand.specs.Pair.{IsInOrder}
use Rattle.vet_entries.specs.Facts.{Facts}
use Rattle.vet_entries.specs.Step.{steps_of}
use Rattle.vet_graph.specs.declared.moves.Move.{Move}
use Rattle.vet_graph.specs.declared.standing.Counts.{Counts}
use Rattle.vet_graph.specs.declared.touched.Touched.{Touched}
use Rattle.vet_graph.specs.declared.touched.Touched.TheVariants as variant
use Rattle.vet_graph.specs.Moves.{moves_between}
use Rattle.vet_graph.specs.Standing.{counts_of}
use Rattle.vet_graph.specs.StandingOf.{condemned_of, standing_of}
use Rattle.vet_masks.specs.declared.changes.Changes.{Changes}
use Rattle.vet_masks.specs.declared.keeper.MaskKeeper.{MaskKeeper}
use Rattle.vet_masks.specs.declared.keeper.MaskUpdate.{MaskUpdate}
use Rattle.vet_masks.specs.declared.kept.KeptPackage.{KeptPackage}
use Rattle.vet_masks.specs.declared.packages.KeptChange.{KeptChange}
use Rattle.vet_masks.specs.declared.standing.Changed.{Changed}
use Rattle.vet_masks.specs.Keeper.{AreChanges, HasGrown, Holds, HoldsAt, IsAmongTouched, IsOfTouched, IsPlanned}
use Rattle.vet_masks.specs.Keeper.{IsSameWithRoom, IsSpent, Spends, looks_of, stands_of}
use Rattle.vet_masks.specs.Kept.{IsGrown}
use Rattle.vet_masks.specs.Packages.{IsKeptOf, has_kept_slot, is_among, is_changed, put_at}
use Rattle.vet_masks.specs.Standings.{AreByPackage, AreOfPackage, PackageStands, all_stands, changes_in, has_slot}
use Rattle.vet_masks.specs.Standings.{moves_of_packages, stands_at, with_all}
use Rattle.vet_masks.proofs.PackageMoves.{HaveSlots, package-moves}
use Rattle.vet_masks.proofs.Parts.{all-back}
use Rattle.vet_masks.proofs.Touching.{change-named, changes-by_package, slot-named, standing-after}
use Rattle.vet_masks.proofs.Standings.{by_package-tail}

-- ---- what was planned

-- a package that changes, with its stands
abbrev in_change : Changed → PackageStands
in_change c = record { «package» = c.«package»; stands = c.stands.items }

-- what changes is the packages' own
pub changes-own : (changed : List Changed) → AreByPackage (changes_in changed)
    → All (λ c. AreOfPackage c.«package» c.stands.items) changed
changes-own [] h = All-nil (λ (c : Changed). AreOfPackage c.«package» c.stands.items)
changes-own (c ∷ rest) h = All-cons (λ (d : Changed). AreOfPackage d.«package» d.stands.items) c rest
    (All-head (λ (p : PackageStands). AreOfPackage p.«package» p.stands) (in_change c) (changes_in rest) h.each)
    (changes-own rest (by_package-tail (in_change c) (changes_in rest) h))

-- the standing after a planned update is that of these facts and this demand
pub planned-standing : (k : MaskKeeper) (u : MaskUpdate) (facts : Facts) (demand : List Pair)
    → AreByPackage k.standing → IsPlanned k u facts demand
    → all_stands (with_all k.standing (changes_in u.changes.stands.items)) ≡ standing_of facts demand
planned-standing k u facts demand h p = standing-after facts demand k.standing
    (changes_in u.changes.stands.items) h p.by_package
    (All-map (λ (q : PackageStands). has_slot k.standing q.«package» ≡ true) in_change u.changes.stands.items
    p.room.standing)
    p.in_order
    (All-map (λ (q : PackageStands). q.stands ≡ stands_of facts demand q.«package») in_change u.changes.stands.items
    p.stands)
    p.stands_beside

-- ---- more room changes nothing

slots-still : (old new : MaskKeeper) → IsSameWithRoom old new → (changed : List Changed)
    → All (λ c. has_slot old.standing c.«package» ≡ true) changed
    → All (λ c. has_slot new.standing c.«package» ≡ true) changed
slots-still old new same changed = All-weaker (λ (c : Changed). has_slot old.standing c.«package» ≡ true)
    (λ (c : Changed). has_slot new.standing c.«package» ≡ true) (λ c h. same.slots c.«package» h) changed

kept_slots-still : (old new : MaskKeeper) → IsSameWithRoom old new → (changed : List KeptChange)
    → All (λ c. has_kept_slot old.packages c.«package» ≡ true) changed
    → All (λ c. has_kept_slot new.packages c.«package» ≡ true) changed
kept_slots-still old new same changed = All-weaker (λ (c : KeptChange). has_kept_slot old.packages c.«package» ≡ true)
    (λ (c : KeptChange). has_kept_slot new.packages c.«package» ≡ true) (λ c h. same.kept_slots c.«package» h) changed

pub holds-still : (old new : MaskKeeper) (facts : Facts) (demand : List Pair) → IsSameWithRoom old new
    → Holds old facts demand → Holds new facts demand
holds-still old new facts demand same h = record {
  standing = same.standing ∙ h.standing;
  criteria = subst (λ o. IfSome o (λ table. table ≡ facts.criteria)) (sym same.criteria) h.criteria;
  steps = λ name none. h.steps name (sym (same.kept name) ∙ none);
  kept = λ name. subst (λ o. IfSome o (IsKeptOf facts name)) (sym (same.kept name)) (h.kept name);
}

pub held-still : (old new : MaskKeeper) (facts : Facts) (demand : List Pair) (name : Name) → IsSameWithRoom old new
    → HoldsAt old facts demand name → HoldsAt new facts demand name
held-still old new facts demand name same h = record {
  stands = same.stands name ∙ h.stands;
  kept = subst (λ o. IfSome o (IsKeptOf facts name)) (sym (same.kept name)) h.kept;
  steps = λ none. h.steps (sym (same.kept name) ∙ none);
}

pub planned-still : (old new : MaskKeeper) (u : MaskUpdate) (facts : Facts) (demand : List Pair)
    → IsSameWithRoom old new → IsPlanned old u facts demand → IsPlanned new u facts demand
planned-still old new u facts demand same p = record {
  in_order = p.in_order;
  room = record {
    standing = slots-still old new same u.changes.stands.items p.room.standing;
    kept = kept_slots-still old new same u.changes.kept.items p.room.kept;
  };
  by_package = p.by_package;
  stands = p.stands;
  stands_beside = λ name none. same.stands name ∙ p.stands_beside name none;
  kept = p.kept;
  kept_beside = λ name none. subst (λ o. IfSome o (IsKeptOf facts name)) (sym (same.kept name))
      (p.kept_beside name none);
  steps_beside = λ name none gone. p.steps_beside name none (sym (same.kept name) ∙ gone);
  criteria = ap (option_or u.criteria) same.criteria ∙ p.criteria;
  looks = p.looks;
  counts = p.counts;
}

-- what is spent is the same of a keeper with more room
pub spent-still : (old new : MaskKeeper) (facts : Facts) (changed : List KeptChange) → IsSameWithRoom old new
    → All (IsSpent new facts) changed → All (IsSpent old facts) changed
spent-still old new facts changed same = All-weaker (IsSpent new facts) (IsSpent old facts) (λ c h. record {
  grown = λ g. ap (λ o. looks_of o + c.looks) (sym (same.kept c.«package»)) ∙ h.grown (there c.«package» g);
  anew = λ n. h.anew (λ g. n (back c.«package» g));
}) changed
  where
    there : (name : Name) → HasGrown old facts name → HasGrown new facts name
    there name g = (
      same.criteria ∙ g.0,
      subst (λ o. IsSomeAnd o (IsGrown (steps_of facts name)
          (condemned_of facts name))) (sym (same.kept name)) g.1,
    )

    back : (name : Name) → HasGrown new facts name → HasGrown old facts name
    back name g = (
      sym same.criteria ∙ g.0,
      subst (λ o. IsSomeAnd o (IsGrown (steps_of facts name)
          (condemned_of facts name))) (same.kept name) g.1,
    )

-- ---- what changes of packages

packages-of : (changed : List Changed)
    → map (λ (p : PackageStands). p.«package») (changes_in changed) ≡ map (λ (c : Changed). c.«package») changed
packages-of [] = refl
packages-of (c ∷ rest) = ap (λ names. c.«package» ∷ names) (packages-of rest)

-- the end of the type is reached once and for all
capped : (a b m : ℕ) → min (min a m + b) m ≡ min (a + b) m
capped a b m = omega arith

summed : (xs : List KeptChange) (x : KeptChange)
    → sum_by (λ (c : KeptChange). c.looks) (xs ++ x ∷ []) ≡ sum_by (λ (c : KeptChange). c.looks) xs + x.looks
summed xs x = omega (
  arith,
  sum_by-append (λ (c : KeptChange). c.looks) xs (x ∷ []),
  sum_by-cons (λ (c : KeptChange). c.looks) x [],
)

-- one package more
pub changes-more : (k : MaskKeeper) (facts : Facts) (demand : List Pair) (names : List Name) (old new : Changes)
    (one : Changed) (more : KeptChange) → AreChanges k facts demand names old
    → one.«package» ≡ more.«package»
    → new.stands.items ≡ old.stands.items ++ one ∷ [] → new.kept.items ≡ old.kept.items ++ more ∷ []
    → new.moves.items ≡ old.moves.items ++ moves_between (stands_at k.standing one.«package») one.stands.items
    → new.looks ≡ min (old.looks + more.looks) (2 ^ 128 - 1)
    → one.stands.items ≡ stands_of facts demand one.«package» → IsKeptOf facts more.«package» more.kept
    → IsSpent k facts more → AreChanges k facts demand (names ++ one.«package» ∷ []) new
changes-more k facts demand names old new one more are same s e m l is own spent =
    let moves_at : PackageStands → List Move =
    λ c. moves_between (stands_at k.standing c.«package») c.stands in
    record {
      named = ap (map (λ (c : Changed). c.«package»)) s
          ∙ map-append (λ (c : Changed). c.«package») old.stands.items (one ∷ [])
          ∙ ap (λ ns. ns ++ one.«package» ∷ []) are.named;
      stands = subst (All (λ (c : Changed). c.stands.items ≡ stands_of facts demand c.«package»)) (sym s)
          (All-push (λ (c : Changed). c.stands.items ≡ stands_of facts demand c.«package») old.stands.items one
          are.stands is);
      kept_named = ap (map (λ (c : KeptChange). c.«package»)) e
          ∙ map-append (λ (c : KeptChange). c.«package») old.kept.items (more ∷ [])
          ∙ (λ i. are.kept_named i ++ sym same i ∷ []);
      kept = subst (All (λ (c : KeptChange). IsKeptOf facts c.«package» c.kept)) (sym e)
          (All-push (λ (c : KeptChange). IsKeptOf facts c.«package» c.kept) old.kept.items more are.kept own);
      spent = subst (All (IsSpent k facts)) (sym e) (All-push (IsSpent k facts) old.kept.items more are.spent spent);
      looks = l ∙ ap (λ n. min (n + more.looks) (2 ^ 128 - 1)) are.looks
          ∙ capped (sum_by (λ (c : KeptChange). c.looks) old.kept.items) more.looks (2 ^ 128 - 1)
          ∙ ap (λ n. min n (2 ^ 128 - 1)) (sym (ap (sum_by (λ (c : KeptChange). c.looks)) e
          ∙ summed old.kept.items more));
      moves = m ∙ ap (λ ms. ms ++ moves_between (stands_at k.standing one.«package») one.stands.items) are.moves
          ∙ sym (ap (λ cs. moves_of_packages k.standing (changes_in cs)) s
          ∙ ap (moves_of_packages k.standing) (map-append in_change old.stands.items (one ∷ []))
          ∙ flat_map-append moves_at (changes_in old.stands.items) (in_change one ∷ [])
          ∙ ap (λ ms. moves_of_packages k.standing (changes_in old.stands.items) ++ ms)
          (append-nil (moves_between (stands_at k.standing one.«package») one.stands.items)));
    }

-- changes of packages in rising order that have slots, where what is held of all others is right
module _ (k : MaskKeeper) (facts : Facts) (demand : List Pair) (names : List Name) (changes : Changes)
    (h : AreByPackage k.standing) (order : IsInOrder demand) (rising : IsRising names)
    (are : AreChanges k facts demand names changes)
    (slots : All (λ name. has_slot k.standing name ≡ true) names)
    (others : (name : Name) → is_among name names ≡ false → HoldsAt k facts demand name) where
  named : map (λ (p : PackageStands). p.«package») (changes_in changes.stands.items) ≡ names
  named = packages-of changes.stands.items ∙ are.named

  stands : All (λ c. c.stands ≡ stands_of facts demand c.«package») (changes_in changes.stands.items)
  stands = All-map (λ (q : PackageStands). q.stands ≡ stands_of facts demand q.«package») in_change
      changes.stands.items are.stands

  by_package : AreByPackage (changes_in changes.stands.items)
  by_package = changes-by_package facts demand (changes_in changes.stands.items) order
      (subst IsRising (sym named) rising) stands

  have : HaveSlots k.standing (changes_in changes.stands.items)
  have = all-back (λ name. has_slot k.standing name ≡ true) (λ (p : PackageStands). p.«package»)
      (changes_in changes.stands.items) (subst (All (λ name. has_slot k.standing name ≡ true)) (sym named) slots)

  beside : (name : Name) → has_slot (changes_in changes.stands.items) name ≡ false
      → stands_at k.standing name ≡ stands_of facts demand name
  beside name none = (others name (ap (is_among name) (sym named)
      ∙ sym (slot-named (changes_in changes.stands.items) name) ∙ none)).stands

  pub changes-standing : all_stands (with_all k.standing (changes_in changes.stands.items)) ≡ standing_of facts demand
  changes-standing = standing-after facts demand k.standing (changes_in changes.stands.items) h by_package have order
      stands beside

  pub changes-moves : changes.moves.items ≡ moves_between (all_stands k.standing) (standing_of facts demand)
  changes-moves = are.moves ∙ sym (package-moves k.standing (changes_in changes.stands.items) h by_package have)
      ∙ ap (moves_between (all_stands k.standing)) changes-standing

  pub changes-planned : All (λ name. has_kept_slot k.packages name ≡ true) names → (counts : Counts)
      (criteria : Option Criteria) (touched : Touched) → counts ≡ counts_of (standing_of facts demand)
      → option_or criteria k.criteria ≡ Some facts.criteria
      → IsPlanned k (record { changes = changes; counts = counts; criteria = criteria; touched = touched }) facts demand
  changes-planned kept_slots counts criteria touched e table = record {
    in_order = order;
    room = record {
      standing = all-back (λ name. has_slot k.standing name ≡ true) (λ (c : Changed). c.«package»)
          changes.stands.items (subst (All (λ name. has_slot k.standing name ≡ true)) (sym are.named) slots);
      kept = all-back (λ name. has_kept_slot k.packages name ≡ true) (λ (c : KeptChange). c.«package»)
          changes.kept.items
          (subst (All (λ name. has_kept_slot k.packages name ≡ true)) (sym are.kept_named) kept_slots);
    };
    by_package = by_package;
    stands = are.stands;
    stands_beside = beside;
    kept = are.kept;
    kept_beside = λ name none. (others name (ap (is_among name) (sym are.kept_named)
        ∙ sym (change-named changes.kept.items name) ∙ none)).kept;
    steps_beside = λ name none. (others name (ap (is_among name) (sym are.kept_named)
        ∙ sym (change-named changes.kept.items name) ∙ none)).steps;
    criteria = table;
    looks = are.looks;
    counts = e;
  }

-- what isn't kept after changes was not changed, and wasn't kept before
pub put-none : (changed : List KeptChange) (name : Name) (o : Option KeptPackage) → put_at changed name o ≡ None
    → (is_changed changed name ≡ false) × (o ≡ None)
put-none [] name o e = (refl, e)
put-none (c ∷ rest) name o e = by (eq_by_cmp (slice_cmp nat_cmp) c.«package» name) (put-none rest name _ e)
  where
    by : (b : Bool) → (is_changed rest name ≡ false) × (cond b (Some c.kept) o ≡ None)
        → ((b || is_changed rest name) ≡ false) × (o ≡ None)
    by true h = absurd (let both = h.1 in cc both)
    by false h = h

-- what an update spends, where it changes packages of these names
pub spends : (old new : MaskKeeper) (facts : Facts) (touched : Touched) (names : NameSet) (slice : List Name)
    (r : Result MaskUpdate Refusal) → IsSameWithRoom old new → IsOfTouched touched names → IsRising slice
    → slice ≡ members names → names ≡ set.from_list slice
    → IfOk r (λ u. All (IsSpent new facts) u.changes.kept.items)
    → IfOk r (λ u. map (λ c. c.«package») u.changes.kept.items ≡ members names)
    → IfOk r (λ u. Spends old u facts touched)
spends old new facts touched names slice (Ok u) same of rising is from spent packages = record {
  each = spent-still old new facts u.changes.kept.items same spent;
  once = subst IsRising (is ∙ sym packages) rising;
  among = λ name. by touched of name;
}
  where
    has : (name : Name) → is_changed u.changes.kept.items name ≡ set.contains names name
    has name = change-named u.changes.kept.items name ∙ ap (is_among name) (packages ∙ sym is)
        ∙ sym (ap (λ (s : NameSet). set.contains s name) from
        ∙ set.contains-from_list nat_list_cmp_total slice name)

    by : (t : Touched) → IsOfTouched t names → (name : Name)
        → IsAmongTouched t name (is_changed u.changes.kept.items name)
    by variant.All h name = tt
    by (variant.Packages some) h name = has name ∙ ap (λ (s : NameSet). set.contains s name) h
spends old new facts touched names slice (Err e) same of rising is from spent packages = tt
