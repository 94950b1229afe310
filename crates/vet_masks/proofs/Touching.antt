-- What changes of some packages make of the standing, and what is as it was beside them.
use Rattle.std.proofs.Common.{◌≡◌, ◌||◌, Bool, true, false, cond, List, [], ◌∷◌, map, refl, sym, ap, subst}
use Rattle.std.proofs.Common.{◌∙◌, IfSome, None, Option}
use Rattle.std.specs.Cmp.Lexicographic.{nat_list_cmp_total, slice_cmp}
use Rattle.std.specs.BTreeMap.{is_at}
use Rattle.std.specs.List.{All, AllByRecursion, flat_map}
use Rattle.std.specs.List.Sorted.{IsStrictlySortedBy}
use Rattle.std.specs.Ordering.{eq_by_cmp, is_eq, nat_cmp, ordering_reverse}
use Rattle.std.specs.Str.{bytes_eq}
use Rattle.std.specs.declared.cmp.Ordering.{Ordering}
use Rattle.std.specs.declared.cmp.Ordering.TheVariants.{Less, Equal, Greater}
use Rattle.std.proofs.lemmas.Bool.{false≢true}
use Rattle.std.proofs.lemmas.List.Elements.{All-cons, All-head, All-nil, All-tail}
use Rattle.std.proofs.lemmas.List.Kept.{AllPairs-filter}
use Rattle.std.proofs.lemmas.Slice.Eq.{bytes_eq-Decides}
use Rattle.vet_base.proofs.ItemLemmas.{pairs_head, pairs_tail}
use Rattle.vet_base.specs.Names.{IsRising}
use Rattle.vet_base.specs.Words.{Name}
use Rattle.vet_demand.specs.declared.pair.Pair.{Pair}
use Rattle.vet_demand.specs.Pair.{IsInOrder, pair_cmp}
use Rattle.vet_entries.specs.Facts.{Facts}
use Rattle.vet_entries.specs.PublisherRecords.{records_of}
use Rattle.vet_entries.specs.Step.{SourcedEntry, by_number, entries_of, entry_steps, steps_of}
use Rattle.vet_entries.specs.declared.step.Step.{Step}
use Rattle.vet_graph.proofs.Standings.{standing_in_order}
use Rattle.vet_graph.specs.Chain.{Condemned}
use Rattle.vet_graph.specs.declared.standing.Stand.{Stand}
use Rattle.vet_graph.specs.StandingOf.{class_by, class_of_pair, condemned_of, standing_of}
use Rattle.vet_graph.specs.Touched.{IsSameAt, pairs_at}
use Rattle.vet_masks.specs.declared.keeper.MaskKeeper.{MaskKeeper}
use Rattle.vet_masks.specs.declared.kept.KeptPackage.{KeptPackage}
use Rattle.vet_masks.specs.declared.packages.KeptChange.{KeptChange}
use Rattle.vet_masks.specs.Keeper.{Holds, HoldsAt, stands_of}
use Rattle.vet_masks.specs.Kept.{IsKept, stands_by}
use Rattle.vet_masks.specs.Packages.{IsKeptOf, is_among, is_changed, kept_at}
use Rattle.vet_masks.specs.Standings.{AreByPackage, AreOfPackage, PackageStands, all_stands, has_slot}
use Rattle.vet_masks.specs.Standings.{stands_at, with_all, with_stands}
use Rattle.vet_masks.proofs.PackageMoves.{HaveSlots, all-by_package, slot-behind}
use Rattle.vet_masks.proofs.Parts.{part, part-all, part-classes, same-by_parts}
use Rattle.vet_masks.proofs.Standings.{all-in_order, at-with, by_package-head, by_package-tail, same_name, stands-none}

-- ---- names

-- whether a package has a slot by the names alone
pub slot-named : (packages : List PackageStands) (name : Name)
    → has_slot packages name ≡ is_among name (map (λ (p : PackageStands). p.«package») packages)
slot-named [] name = refl
slot-named (q ∷ rest) name = ap (λ b. is_at (slice_cmp nat_cmp name) q.«package» || b) (slot-named rest name)

reversed : (o : Ordering) → is_eq (ordering_reverse o) ≡ is_eq o
reversed Less = refl
reversed Equal = refl
reversed Greater = refl

turned : (a b : Name) → eq_by_cmp (slice_cmp nat_cmp) a b ≡ eq_by_cmp (slice_cmp nat_cmp) b a
turned a b = ap is_eq (nat_list_cmp_total.antisymm a b) ∙ reversed (slice_cmp nat_cmp b a)

pub change-named : (changed : List KeptChange) (name : Name)
    → is_changed changed name ≡ is_among name (map (λ (c : KeptChange). c.«package») changed)
change-named [] name = refl
change-named (c ∷ rest) name = λ i. turned c.«package» name i || change-named rest name i

-- ---- the part of a standing that is of a package

pub stands-part : (facts : Facts) (demand : List Pair) (name : Name)
    → part name (standing_of facts demand) ≡ stands_of facts demand name
stands-part facts demand name =
    part-classes (λ p. record { pair = p; class = class_of_pair facts p }) (λ p. refl) demand name ∙ named demand
  where
    at : Name → Pair → Stand
    at n p = record { pair = p; class = class_by facts.criteria (steps_of facts n) (condemned_of facts n) p }

    by : (p : Pair) (rest : List Pair) (b : Bool) → bytes_eq p.«package» name ≡ b
        → map (λ q. at q.«package» q) (pairs_at name rest) ≡ map (at name) (pairs_at name rest)
        → map (λ q. at q.«package» q) (cond b (p ∷ pairs_at name rest) (pairs_at name rest))
        ≡ map (at name) (cond b (p ∷ pairs_at name rest) (pairs_at name rest))
    by p rest true is later = λ i. at ((bytes_eq-Decides p.«package» name).0 is i) p ∷ later i
    by p rest false is later = later

    named : (pairs : List Pair)
        → map (λ q. at q.«package» q) (pairs_at name pairs) ≡ map (at name) (pairs_at name pairs)
    named [] = refl
    named (p ∷ rest) = by p rest (bytes_eq p.«package» name) refl (named rest)

pairs-back : (f : Pair → Stand) → ((p : Pair) → (f p).pair ≡ p) → (pairs : List Pair)
    → map (λ (s : Stand). s.pair) (map f pairs) ≡ pairs
pairs-back f own [] = refl
pairs-back f own (p ∷ rest) = λ i. own p i ∷ pairs-back f own rest i

-- they are the package's own
pub stands-own_part : (facts : Facts) (demand : List Pair) (name : Name) → IsInOrder demand
    → AreOfPackage name (stands_of facts demand name)
stands-own_part facts demand name order = record {
  named = named demand;
  in_order = subst IsInOrder (sym (pairs-back (at name) (λ p. refl) (pairs_at name demand)))
      (AllPairs-filter (λ p q. pair_cmp p q ≡ Less) (λ (p : Pair). bytes_eq p.«package» name) demand order);
}
  where
    at : Name → Pair → Stand
    at n p = record { pair = p; class = class_by facts.criteria (steps_of facts n) (condemned_of facts n) p }

    by : (p : Pair) (rest : List Pair) (b : Bool) → bytes_eq p.«package» name ≡ b
        → All (λ (s : Stand). s.pair.«package» ≡ name) (map (at name) (pairs_at name rest))
        → All (λ (s : Stand). s.pair.«package» ≡ name)
        (map (at name) (cond b (p ∷ pairs_at name rest) (pairs_at name rest)))
    by p rest true is later = All-cons (λ (s : Stand). s.pair.«package» ≡ name) (at name p)
        (map (at name) (pairs_at name rest)) ((bytes_eq-Decides p.«package» name).0 is) later
    by p rest false is later = later

    named : (pairs : List Pair) → All (λ (s : Stand). s.pair.«package» ≡ name) (map (at name) (pairs_at name pairs))
    named [] = All-nil (λ (s : Stand). s.pair.«package» ≡ name)
    named (p ∷ rest) = by p rest (bytes_eq p.«package» name) refl (named rest)

-- ---- the standing after changes

-- the stands of a package are those of its change, and without one those from before
pub at-all : (packages changed : List PackageStands) (name : Name) → AreByPackage changed
    → stands_at (with_all packages changed) name
    ≡ cond (has_slot changed name) (stands_at changed name) (stands_at packages name)
at-all packages [] name h = refl
at-all packages (c ∷ rest) name h =
    at-all (with_stands packages c.«package» c.stands) rest name (by_package-tail c rest h)
    ∙ by (is_at (slice_cmp nat_cmp name) c.«package») refl
  where
    by : (b : Bool) → is_at (slice_cmp nat_cmp name) c.«package» ≡ b
        → cond (has_slot rest name) (stands_at rest name) (stands_at (with_stands packages c.«package» c.stands) name)
        ≡ cond (b || has_slot rest name) (cond b c.stands (stands_at rest name)) (stands_at packages name)
    by true is =
        let none : has_slot rest name ≡ false = ap (has_slot rest) (same_name name c.«package» is)
        ∙ slot-behind rest c.«package» (by_package-head c rest h) in
        ap (λ x. cond x (stands_at rest name) (stands_at (with_stands packages c.«package» c.stands) name)) none
        ∙ at-with packages c.«package» c.stands name ∙ ap (λ x. cond x c.stands (stands_at packages name)) is
    by false is = ap (cond (has_slot rest name) (stands_at rest name))
        (at-with packages c.«package» c.stands name ∙ ap (λ x. cond x c.stands (stands_at packages name)) is)

-- a package that changes stands as its change says
at-changed : (facts : Facts) (demand : List Pair) (changed : List PackageStands) (name : Name)
    → All (λ c. c.stands ≡ stands_of facts demand c.«package») changed → has_slot changed name ≡ true
    → stands_at changed name ≡ stands_of facts demand name
at-changed facts demand [] name stands has = absurd (false≢true has)
at-changed facts demand (c ∷ rest) name stands has = by (is_at (slice_cmp nat_cmp name) c.«package») refl has
    (at-changed facts demand rest name
    (All-tail (λ (p : PackageStands). p.stands ≡ stands_of facts demand p.«package») c rest stands))
  where
    by : (b : Bool) → is_at (slice_cmp nat_cmp name) c.«package» ≡ b → (b || has_slot rest name) ≡ true
        → (has_slot rest name ≡ true → stands_at rest name ≡ stands_of facts demand name)
        → cond b c.stands (stands_at rest name) ≡ stands_of facts demand name
    by true is h later =
        All-head (λ (p : PackageStands). p.stands ≡ stands_of facts demand p.«package») c rest stands
        ∙ ap (stands_of facts demand) (sym (same_name name c.«package» is))
    by false is h later = later h

-- where each package that changes stands as these facts and this demand give it, and each other does so already, the
-- standing is theirs
pub standing-after : (facts : Facts) (demand : List Pair) (packages changed : List PackageStands)
    → AreByPackage packages → AreByPackage changed → HaveSlots packages changed → IsInOrder demand
    → All (λ c. c.stands ≡ stands_of facts demand c.«package») changed
    → ((name : Name) → has_slot changed name ≡ false → stands_at packages name ≡ stands_of facts demand name)
    → all_stands (with_all packages changed) ≡ standing_of facts demand
standing-after facts demand packages changed h g slots order stands beside =
    let after = all-by_package packages changed h g slots in
    same-by_parts (all_stands (with_all packages changed)) (standing_of facts demand)
    (all-in_order (with_all packages changed) after) (standing_in_order facts demand order)
    (λ name. part-all (with_all packages changed) name after ∙ at-all packages changed name g
    ∙ by name (has_slot changed name) refl ∙ sym (stands-part facts demand name))
  where
    by : (name : Name) (b : Bool) → has_slot changed name ≡ b
        → cond b (stands_at changed name) (stands_at packages name) ≡ stands_of facts demand name
    by name true is = at-changed facts demand changed name stands is
    by name false is = beside name is

-- changes of packages in rising order are by package
pub changes-by_package : (facts : Facts) (demand : List Pair) (changed : List PackageStands) → IsInOrder demand
    → IsRising (map (λ (c : PackageStands). c.«package») changed)
    → All (λ c. c.stands ≡ stands_of facts demand c.«package») changed → AreByPackage changed
unfolding IsStrictlySortedBy
changes-by_package facts demand changed order rising stands = record {
  rising = sorted (map (λ (c : PackageStands). c.«package») changed) rising;
  each = each changed stands;
}
  where
    recursive : (x : Name) (names : List Name) → All (λ y. slice_cmp nat_cmp x y ≡ Less) names
        → AllByRecursion (λ y. slice_cmp nat_cmp x y ≡ Less) names
    recursive x [] h = tt
    recursive x (y ∷ rest) h = (
      All-head (λ z. slice_cmp nat_cmp x z ≡ Less) y rest h,
      recursive x rest (All-tail (λ z. slice_cmp nat_cmp x z ≡ Less) y rest h),
    )

    sorted : (names : List Name) → IsRising names → IsStrictlySortedBy (slice_cmp nat_cmp) names
    sorted [] h = tt
    sorted (x ∷ rest) h = (
      recursive x rest (pairs_head (λ a b. slice_cmp nat_cmp a b ≡ Less) x rest h),
      sorted rest (pairs_tail (λ a b. slice_cmp nat_cmp a b ≡ Less) x rest h),
    )

    each : (some : List PackageStands) → All (λ c. c.stands ≡ stands_of facts demand c.«package») some
        → All (λ p. AreOfPackage p.«package» p.stands) some
    each [] h = All-nil (λ (p : PackageStands). AreOfPackage p.«package» p.stands)
    each (c ∷ rest) h = All-cons (λ (p : PackageStands). AreOfPackage p.«package» p.stands) c rest
        (subst (AreOfPackage c.«package»)
        (sym (All-head (λ (p : PackageStands). p.stands ≡ stands_of facts demand p.«package») c rest h))
        (stands-own_part facts demand c.«package» order))
        (each rest (All-tail (λ (p : PackageStands). p.stands ≡ stands_of facts demand p.«package») c rest h))

-- ---- packages that aren't touched

still-kept : (o : Option KeptPackage) (old new : List Step × Condemned) → old ≡ new
    → IfSome o (IsKept old.0 old.1) → IfSome o (IsKept new.0 new.1)
still-kept o old new same h = subst (λ (x : List Step × Condemned). IfSome o (IsKept x.0 x.1)) same h

-- where a package is the same, what is held of it is right still
pub held-outside : (k : MaskKeeper) (old_facts : Facts) (old_demand : List Pair) (facts : Facts) (demand : List Pair)
    (name : Name) → AreByPackage k.standing → Holds k old_facts old_demand → old_facts.criteria ≡ facts.criteria
    → IsSameAt name old_facts old_demand facts demand → HoldsAt k facts demand name
held-outside k old_facts old_demand facts demand name h holds criteria same = record {
  stands = sym (part-all k.standing name h) ∙ ap (part name) holds.standing ∙ stands-part old_facts old_demand name
      ∙ (λ i. stands_by (criteria i) (same.steps i) (λ c v. same.condemned c v i) (same.pairs i));
  kept = still-kept (kept_at k.packages name) (steps_of old_facts name, condemned_of old_facts name)
      (steps_of facts name, condemned_of facts name) (λ i. (same.steps i, λ c v. same.condemned c v i))
      (holds.kept name);
  steps = λ none. sym same.steps ∙ holds.steps name none;
}

-- where a package has no slot, no demanded pair and no entry, nothing is held of it
pub held-nowhere : (k : MaskKeeper) (facts : Facts) (demand : List Pair) (name : Name)
    → has_slot k.standing name ≡ false → kept_at k.packages name ≡ None → pairs_at name demand ≡ []
    → entries_of facts name ≡ [] → HoldsAt k facts demand name
held-nowhere k facts demand name none kept pairs entries = record {
  stands = stands-none k.standing name none
      ∙ sym (ap (stands_by facts.criteria (steps_of facts name) (condemned_of facts name)) pairs);
  kept = subst (λ o. IfSome o (IsKeptOf facts name)) (sym kept) tt;
  steps = λ _. ap (λ l. flat_map (entry_steps facts.today facts.criteria (records_of facts.publishers name))
      (by_number (λ (e : SourcedEntry). e.held.number) l)) entries;
}
