-- The standing by package is in the order of pairs.
use Rattle.std.proofs.Common.{◌≡◌, ◌≢◌, ◌++◌, Bool, true, false, cond, List, [], ◌∷◌, Some, None, map}
use Rattle.std.proofs.Common.{◌||◌, is_some, unwrap_or, option_map, Vec, Global, refl, sym, ap, subst, ◌∙◌, arith}
use Rattle.std.proofs.Common.{inl, inr}
use Rattle.std.specs.BTreeMap.{insert_entry, is_at}
use Rattle.std.specs.Map.{keys_of, lookup, values_of}
use Rattle.std.specs.Cmp.{tied_itself, Equal-is}
use Rattle.std.specs.Cmp.Lexicographic.{nat_list_cmp_total, slice_cmp}
use Rattle.std.specs.FinMap.{nat_cmp-IsAntisymmetric, slice_cmp-IsAntisymmetric}
use Rattle.std.specs.List.{All, AllPairs, AllByRecursion, flat_map}
use Rattle.std.specs.List.Sorted.{IsStrictlySortedBy}
use Rattle.std.specs.Ordering.{is_eq, match_ordering, nat_cmp, ordering_then}
use Rattle.std.specs.declared.cmp.Ordering.{Ordering}
use Rattle.std.specs.declared.cmp.Ordering.TheVariants.{Less, Equal, Greater}
use Rattle.std.proofs.lemmas.Bool.{cases_Bool, false≢true}
use Rattle.std.proofs.lemmas.List.{map-append}
use Rattle.std.proofs.lemmas.List.Elements.{All-append, All-cons, All-head, All-map, All-nil, All-tail, All-weaker}
use Rattle.std.proofs.lemmas.List.Kept.{AllPairs-cons}
use Rattle.vet_base.specs.Words.{Name}
use Rattle.vet_base.proofs.ItemLemmas.{pairs_head, pairs_tail}
use Rattle.vet_demand.specs.declared.pair.Pair.{Pair}
use Rattle.vet_demand.specs.Pair.{pair_cmp, pair_eq}
use Rattle.vet_demand.specs.PairLaws.{pair_eq-Decides}
use Rattle.vet_graph.specs.declared.standing.Stand.{Stand}
use Rattle.vet_graph.specs.Standing.{IsStanding, class_in, pairs_of}
use Rattle.vet_masks.specs.Standings.{AreByPackage, AreOfPackage, PackageStands, all_stands, has_slot}
use Rattle.vet_masks.specs.Standings.{stands_at, with_stands}

pub same_name : (a b : Name) → is_at (slice_cmp nat_cmp a) b ≡ true → a ≡ b
same_name a b e = slice_cmp-IsAntisymmetric nat_cmp-IsAntisymmetric a b ((Equal-is (slice_cmp nat_cmp a b)).0 e)

-- ---- the class of a pair

-- stands of other pairs say nothing of one
class_in-others : (xs ys : List Stand) (p : Pair) → All (λ s. pair_eq s.pair p ≡ false) xs
    → class_in (xs ++ ys) p ≡ class_in ys p
class_in-others [] ys p h = refl
class_in-others (x ∷ xs) ys p h =
    ap (λ b. cond b (Some x.class) (class_in (xs ++ ys) p)) (All-head (λ s. pair_eq s.pair p ≡ false) x xs h)
    ∙ class_in-others xs ys p (All-tail (λ s. pair_eq s.pair p ≡ false) x xs h)

class_in-before : (xs ys : List Stand) (p : Pair) → class_in ys p ≡ None → class_in (xs ++ ys) p ≡ class_in xs p
class_in-before [] ys p h = h
class_in-before (x ∷ xs) ys p h = ap (cond (pair_eq x.pair p) (Some x.class)) (class_in-before xs ys p h)

class_in-none : (xs : List Stand) (p : Pair) → All (λ s. pair_eq s.pair p ≡ false) xs → class_in xs p ≡ None
class_in-none [] p h = refl
class_in-none (x ∷ xs) p h =
    ap (λ b. cond b (Some x.class) (class_in xs p)) (All-head (λ s. pair_eq s.pair p ≡ false) x xs h)
    ∙ class_in-none xs p (All-tail (λ s. pair_eq s.pair p ≡ false) x xs h)

-- a stand of another package is of another pair
other-package : (s : Stand) (p : Pair) (name : Name) → s.pair.«package» ≡ name → name ≢ p.«package»
    → pair_eq s.pair p ≡ false
other-package s p name e differ = elim (cases_Bool (pair_eq s.pair p)) [
  | inl tied ↦ absurd (differ (sym e ∙ ap (λ (q : Pair). q.«package») ((pair_eq-Decides s.pair p).0 tied)))
  | inr other ↦ other
]

-- each package of some comes behind a name
abbrev pub AreBehind : Name → List PackageStands → Type 0
AreBehind name packages = All (λ p. slice_cmp nat_cmp name p.«package» ≡ Less) packages

behind_by : (name : Name) (packages : List PackageStands)
    → AllByRecursion (λ y. slice_cmp nat_cmp name y ≡ Less) (map (λ (p : PackageStands). p.«package») packages)
    → AreBehind name packages
behind_by name [] h = All-nil (λ (p : PackageStands). slice_cmp nat_cmp name p.«package» ≡ Less)
behind_by name (p ∷ rest) h =
    All-cons (λ (q : PackageStands). slice_cmp nat_cmp name q.«package» ≡ Less) p rest h.0 (behind_by name rest h.1)

-- the first package comes before the others, and these are by package
pub by_package-head : (p : PackageStands) (rest : List PackageStands) → AreByPackage (p ∷ rest)
    → AreBehind p.«package» rest
unfolding IsStrictlySortedBy
by_package-head p rest h = behind_by p.«package» rest h.rising.0

pub by_package-tail : (p : PackageStands) (rest : List PackageStands) → AreByPackage (p ∷ rest) → AreByPackage rest
unfolding IsStrictlySortedBy
by_package-tail p rest h = record {
  rising = h.rising.1;
  each = All-tail (λ (q : PackageStands). AreOfPackage q.«package» q.stands) p rest h.each;
}

pub behind-differ : (a b : Name) → slice_cmp nat_cmp a b ≡ Less → a ≢ b
behind-differ a b l e = (let tied : slice_cmp nat_cmp a b ≡ Equal =
    ap (slice_cmp nat_cmp a) (sym e) ∙ tied_itself nat_list_cmp_total a in cc (sym tied ∙ l))

-- the stands behind a package are of other pairs than its own
rest-others : (rest : List PackageStands) (p : Pair) → AreByPackage rest → AreBehind p.«package» rest
    → All (λ s. pair_eq s.pair p ≡ false) (all_stands rest)
rest-others [] p h b = All-nil (λ (s : Stand). pair_eq s.pair p ≡ false)
rest-others (q ∷ rest) p h b =
    let own = All-head (λ (r : PackageStands). AreOfPackage r.«package» r.stands) q rest h.each in
    let differ = λ (e : q.«package» ≡ p.«package»). behind-differ p.«package» q.«package»
    (All-head (λ (r : PackageStands). slice_cmp nat_cmp p.«package» r.«package» ≡ Less) q rest b) (sym e) in
    All-append (λ (s : Stand). pair_eq s.pair p ≡ false) q.stands (all_stands rest)
    (All-weaker (λ (s : Stand). s.pair.«package» ≡ q.«package») (λ (s : Stand). pair_eq s.pair p ≡ false)
    (λ s e. other-package s p q.«package» e differ) q.stands own.named)
    (rest-others rest p (by_package-tail q rest h)
    (All-tail (λ (r : PackageStands). slice_cmp nat_cmp p.«package» r.«package» ≡ Less) q rest b))

class-step : (q : PackageStands) (rest : List PackageStands) (p : Pair) → AreByPackage (q ∷ rest)
    → class_in (all_stands rest) p ≡ class_in (stands_at rest p.«package») p
    → (b : Bool) → is_at (slice_cmp nat_cmp p.«package») q.«package» ≡ b
    → class_in (q.stands ++ all_stands rest) p ≡ class_in (cond b q.stands (stands_at rest p.«package»)) p
class-step q rest p h later true is =
    let name : p.«package» ≡ q.«package» = same_name p.«package» q.«package» is in
    class_in-before q.stands (all_stands rest) p (class_in-none (all_stands rest) p
    (rest-others rest p (by_package-tail q rest h)
    (subst (λ n. AreBehind n rest) (sym name) (by_package-head q rest h))))
class-step q rest p h later false is =
    let own = All-head (λ (r : PackageStands). AreOfPackage r.«package» r.stands) q rest h.each in
    let differ = λ (e : q.«package» ≡ p.«package»). false≢true (sym is
    ∙ ap (λ n. is_at (slice_cmp nat_cmp p.«package») n) e
    ∙ (Equal-is _).1 (tied_itself nat_list_cmp_total p.«package»)) in
    class_in-others q.stands (all_stands rest) p
    (All-weaker (λ (s : Stand). s.pair.«package» ≡ q.«package») (λ (s : Stand). pair_eq s.pair p ≡ false)
    (λ s e. other-package s p q.«package» e differ) q.stands own.named) ∙ later

-- a pair's class stands with its package
pub class-by_package : (packages : List PackageStands) (p : Pair) → AreByPackage packages
    → class_in (all_stands packages) p ≡ class_in (stands_at packages p.«package») p
class-by_package [] p h = refl
class-by_package (q ∷ rest) p h = class-step q rest p h (class-by_package rest p (by_package-tail q rest h))
    (is_at (slice_cmp nat_cmp p.«package») q.«package») refl

-- ---- the order of pairs

module _ {X : Type 0} (R : X → X → Type 0) where
  pairs_nil : AllPairs R []
  pairs_nil i j d l m = absurd (omega (arith, m))

  -- some in order, and others that each come behind all of them
  pairs_append : (xs ys : List X) → AllPairs R xs → AllPairs R ys → All (λ x. All (R x) ys) xs → AllPairs R (xs ++ ys)
  pairs_append [] ys h g across = g
  pairs_append (x ∷ xs) ys h g across = AllPairs-cons R x (xs ++ ys)
      (All-append (R x) xs ys (pairs_head R x xs h) (All-head (λ z. All (R z) ys) x xs across))
      (pairs_append xs ys (pairs_tail R x xs h) g (All-tail (λ z. All (R z) ys) x xs across))

then_less : (o s : Ordering) → o ≡ Less → ordering_then o s ≡ Less
then_less o s e = ap (λ x. ordering_then x s) e

-- a pair of a package comes before those of the packages behind it
pub package-first : (p r : Pair) → slice_cmp nat_cmp p.«package» r.«package» ≡ Less → pair_cmp p r ≡ Less
package-first p r e = then_less (slice_cmp nat_cmp p.«package» r.«package») _ e

pub rest-behind : (name : Name) (rest : List PackageStands) → AreByPackage rest → AreBehind name rest
    → All (λ s. slice_cmp nat_cmp name s.pair.«package» ≡ Less) (all_stands rest)
rest-behind name [] h b = All-nil (λ (s : Stand). slice_cmp nat_cmp name s.pair.«package» ≡ Less)
rest-behind name (q ∷ rest) h b =
    let own = All-head (λ (r : PackageStands). AreOfPackage r.«package» r.stands) q rest h.each in
    let here = All-head (λ (r : PackageStands). slice_cmp nat_cmp name r.«package» ≡ Less) q rest b in
    All-append (λ (s : Stand). slice_cmp nat_cmp name s.pair.«package» ≡ Less) q.stands (all_stands rest)
    (All-weaker (λ (s : Stand). s.pair.«package» ≡ q.«package»)
    (λ (s : Stand). slice_cmp nat_cmp name s.pair.«package» ≡ Less)
    (λ s e. ap (slice_cmp nat_cmp name) e ∙ here) q.stands own.named)
    (rest-behind name rest (by_package-tail q rest h)
    (All-tail (λ (r : PackageStands). slice_cmp nat_cmp name r.«package» ≡ Less) q rest b))

-- the stands of all packages are in the order of pairs
pub all-in_order : (packages : List PackageStands) → AreByPackage packages → IsStanding (all_stands packages)
all-in_order [] h = pairs_nil (λ p q. pair_cmp p q ≡ Less)
all-in_order (q ∷ rest) h =
    let own = All-head (λ (r : PackageStands). AreOfPackage r.«package» r.stands) q rest h.each in
    let behind = rest-behind q.«package» rest (by_package-tail q rest h) (by_package-head q rest h) in
    subst (AllPairs (λ p r. pair_cmp p r ≡ Less)) (sym (map-append (λ (s : Stand). s.pair) q.stands (all_stands rest)))
    (pairs_append (λ p r. pair_cmp p r ≡ Less) (pairs_of q.stands) (pairs_of (all_stands rest)) own.in_order
    (all-in_order rest (by_package-tail q rest h))
    (All-map (λ p. All (λ r. pair_cmp p r ≡ Less) (pairs_of (all_stands rest))) (λ (s : Stand). s.pair) q.stands
    (All-weaker (λ (s : Stand). s.pair.«package» ≡ q.«package»)
    (λ (s : Stand). All (λ r. pair_cmp s.pair r ≡ Less) (pairs_of (all_stands rest)))
    (λ s e. All-map (λ r. pair_cmp s.pair r ≡ Less) (λ (t : Stand). t.pair) (all_stands rest)
    (All-weaker (λ (t : Stand). slice_cmp nat_cmp q.«package» t.pair.«package» ≡ Less)
    (λ (t : Stand). pair_cmp s.pair t.pair ≡ Less)
    (λ t l. package-first s.pair t.pair (ap (λ n. slice_cmp nat_cmp n t.pair.«package») e ∙ l)) (all_stands rest)
    behind))
    q.stands own.named)))

-- ---- the slots of a map

pub stands-of_slots : (entries : List (Name × Vec Stand Global)) (name : Name)
    → stands_at (map (λ e. record { «package» = e.0; stands = e.1.items }) entries) name
    ≡ unwrap_or (option_map (λ (v : Vec Stand Global). v.items) (lookup (is_at (slice_cmp nat_cmp name)) entries)) []
stands-of_slots [] name = refl
stands-of_slots (e ∷ rest) name = by (is_at (slice_cmp nat_cmp name) e.0) (stands-of_slots rest name)
  where
    by : (b : Bool) → stands_at (map (λ e. record { «package» = e.0; stands = e.1.items }) rest) name
        ≡ unwrap_or (option_map (λ (v : Vec Stand Global). v.items) (lookup (is_at (slice_cmp nat_cmp name)) rest)) []
        → cond b e.1.items (stands_at (map (λ e. record { «package» = e.0; stands = e.1.items }) rest) name)
        ≡ unwrap_or (option_map (λ (v : Vec Stand Global). v.items)
        (cond b (Some e.1) (lookup (is_at (slice_cmp nat_cmp name)) rest))) []
    by true h = refl
    by false h = h

-- a package's stands are its own
pub stands-own : (packages : List PackageStands) (name : Name) → AreByPackage packages
    → AreOfPackage name (stands_at packages name)
stands-own [] name h = record {
  named = All-nil (λ (s : Stand). s.pair.«package» ≡ name);
  in_order = pairs_nil (λ p q. pair_cmp p q ≡ Less);
}
stands-own (q ∷ rest) name h = by (is_at (slice_cmp nat_cmp name) q.«package») refl
    (stands-own rest name (by_package-tail q rest h))
  where
    by : (b : Bool) → is_at (slice_cmp nat_cmp name) q.«package» ≡ b → AreOfPackage name (stands_at rest name)
        → AreOfPackage name (cond b q.stands (stands_at rest name))
    by true is later = subst (λ n. AreOfPackage n q.stands) (sym (same_name name q.«package» is))
        (All-head (λ (r : PackageStands). AreOfPackage r.«package» r.stands) q rest h.each)
    by false is later = later

-- ---- stands in place of others

abbrev pub in_slots : List (Name × Vec Stand Global) → List PackageStands
in_slots entries = map (λ e. record { «package» = e.0; stands = e.1.items }) entries

map_by : {X Y : Type 0} (f : X → Y) (o : Ordering) (a b c : List X)
    → map f (match_ordering o a b c) ≡ match_ordering o (map f a) (map f b) (map f c)
map_by f Less a b c = refl
map_by f Equal a b c = refl
map_by f Greater a b c = refl

-- what the map does, the standing does
pub values-in_slots : (entries : List (Name × Vec Stand Global))
    → flat_map (λ (v : Vec Stand Global). v.items) (values_of entries) ≡ all_stands (in_slots entries)
values-in_slots [] = refl
values-in_slots (e ∷ rest) = ap (λ l. e.1.items ++ l) (values-in_slots rest)

pub put-in_slots : (entries : List (Name × Vec Stand Global)) (name : Name) (v : Vec Stand Global)
    → in_slots (insert_entry (slice_cmp nat_cmp) entries name v) ≡ with_stands (in_slots entries) name v.items
put-in_slots [] name v = refl
put-in_slots (e ∷ rest) name v =
    let f : (Name × Vec Stand Global) → PackageStands = λ d. record { «package» = d.0; stands = d.1.items } in
    map_by f (slice_cmp nat_cmp name e.0) ((name, v) ∷ e ∷ rest) ((e.0, v) ∷ rest)
    (e ∷ insert_entry (slice_cmp nat_cmp) rest name v)
    ∙ ap (λ l. match_ordering (slice_cmp nat_cmp name e.0) (f (name, v) ∷ f e ∷ in_slots rest)
    (f (e.0, v) ∷ in_slots rest) (f e ∷ l)) (put-in_slots rest name v)

-- a name has a slot where the map has it
pub has-in_slots : (entries : List (Name × Vec Stand Global)) (name : Name)
    → has_slot (in_slots entries) name ≡ is_some (lookup (is_at (slice_cmp nat_cmp name)) entries)
has-in_slots [] name = refl
has-in_slots (e ∷ rest) name = by (is_at (slice_cmp nat_cmp name) e.0) (has-in_slots rest name)
  where
    by : (b : Bool) → has_slot (in_slots rest) name ≡ is_some (lookup (is_at (slice_cmp nat_cmp name)) rest)
        → (b || has_slot (in_slots rest) name)
        ≡ is_some (cond b (Some e.1) (lookup (is_at (slice_cmp nat_cmp name)) rest))
    by true h = refl
    by false h = h

pub packages-in : (entries : List (Name × Vec Stand Global))
    → map (λ (p : PackageStands). p.«package») (in_slots entries) ≡ keys_of entries
packages-in [] = refl
packages-in (e ∷ rest) = ap (λ ks. e.0 ∷ ks) (packages-in rest)

tied-is : (name : Name) (p : Name) (o : Ordering) → slice_cmp nat_cmp name p ≡ o
    → is_at (slice_cmp nat_cmp name) p ≡ is_eq o
tied-is name p o e = ap is_eq e

abbrev pub Own : PackageStands → Type 0
Own p = AreOfPackage p.«package» p.stands

pub each-with : (packages : List PackageStands) (name : Name) (stands : List Stand)
    → All (λ p. AreOfPackage p.«package» p.stands) packages → AreOfPackage name stands
    → All (λ p. AreOfPackage p.«package» p.stands) (with_stands packages name stands)
each-with [] name stands h own = All-cons (λ (p : PackageStands). AreOfPackage p.«package» p.stands)
    (record { «package» = name; stands = stands }) [] own
    (All-nil (λ (p : PackageStands). AreOfPackage p.«package» p.stands))
each-with (q ∷ rest) name stands h own = by (slice_cmp nat_cmp name q.«package») refl
    (each-with rest name stands (All-tail Own q rest h) own)
  where
    by : (o : Ordering) → slice_cmp nat_cmp name q.«package» ≡ o → All Own (with_stands rest name stands)
        → All Own (match_ordering o (record { «package» = name; stands = stands } ∷ q ∷ rest)
        (record { «package» = q.«package»; stands = stands } ∷ rest) (q ∷ with_stands rest name stands))
    by Less is later = All-cons Own (record { «package» = name; stands = stands }) (q ∷ rest) own h
    by Equal is later = All-cons Own (record { «package» = q.«package»; stands = stands }) rest
        (subst (λ n. AreOfPackage n stands) (same_name name q.«package» (ap is_eq is)) own) (All-tail Own q rest h)
    by Greater is later = All-cons Own q (with_stands rest name stands) (All-head Own q rest h) later

-- the map stays in order, and so do packages
pub by_package-with : (old new : List (Name × Vec Stand Global)) (name : Name) (v : Vec Stand Global)
    → new ≡ insert_entry (slice_cmp nat_cmp) old name v → IsStrictlySortedBy (slice_cmp nat_cmp) (keys_of new)
    → AreByPackage (in_slots old) → AreOfPackage name v.items → AreByPackage (in_slots new)
by_package-with old new name v is rising h own = record {
  rising = subst (IsStrictlySortedBy (slice_cmp nat_cmp)) (sym (packages-in new)) rising;
  each = subst (All (λ (p : PackageStands). AreOfPackage p.«package» p.stands))
      (sym (ap in_slots is ∙ put-in_slots old name v)) (each-with (in_slots old) name v.items h.each own);
}

-- a slot more holds nothing
pub all-with_none : (packages : List PackageStands) (name : Name) → has_slot packages name ≡ false
    → all_stands (with_stands packages name []) ≡ all_stands packages
all-with_none [] name h = refl
all-with_none (q ∷ rest) name h = by (slice_cmp nat_cmp name q.«package») refl
    (λ e. all-with_none rest name (or-false (is_at (slice_cmp nat_cmp name) q.«package») (has_slot rest name) h).1)
  where
    or-false : (a b : Bool) → (a || b) ≡ false → (a ≡ false) × (b ≡ false)
    or-false true b e = absurd (false≢true (sym e))
    or-false false b e = (refl, e)

    by : (o : Ordering) → slice_cmp nat_cmp name q.«package» ≡ o
        → (Unit {0} → all_stands (with_stands rest name []) ≡ all_stands rest)
        → all_stands (match_ordering o (record { «package» = name; stands = [] } ∷ q ∷ rest)
        (record { «package» = q.«package»; stands = [] } ∷ rest) (q ∷ with_stands rest name []))
        ≡ q.stands ++ all_stands rest
    by Less is later = refl
    by Equal is later = absurd (false≢true (sym (or-false (is_at (slice_cmp nat_cmp name) q.«package»)
        (has_slot rest name) h).0 ∙ ap is_eq is))
    by Greater is later = ap (λ l. q.stands ++ l) (later tt)

-- a package's stands are those that were put there, and the others keep theirs
pub at-with : (packages : List PackageStands) (name : Name) (stands : List Stand) (m : Name)
    → stands_at (with_stands packages name stands) m
    ≡ cond (is_at (slice_cmp nat_cmp m) name) stands (stands_at packages m)
at-with [] name stands m = refl
at-with (q ∷ rest) name stands m = by (slice_cmp nat_cmp name q.«package») refl (at-with rest name stands m)
  where
    both : (o : Ordering) → slice_cmp nat_cmp name q.«package» ≡ o → is_eq o ≡ false → (a b : Bool)
        → is_at (slice_cmp nat_cmp m) name ≡ a → is_at (slice_cmp nat_cmp m) q.«package» ≡ b
        → cond b q.stands (cond a stands (stands_at rest m)) ≡ cond a stands (cond b q.stands (stands_at rest m))
    both o is other true true x y = absurd (false≢true (sym other ∙ sym (ap is_eq is)
        ∙ ap (λ n. is_at (slice_cmp nat_cmp n) q.«package») (sym (same_name m name x)) ∙ y))
    both o is other true false x y = refl
    both o is other false true x y = refl
    both o is other false false x y = refl

    by : (o : Ordering) → slice_cmp nat_cmp name q.«package» ≡ o
        → stands_at (with_stands rest name stands) m
        ≡ cond (is_at (slice_cmp nat_cmp m) name) stands (stands_at rest m)
        → stands_at (match_ordering o (record { «package» = name; stands = stands } ∷ q ∷ rest)
        (record { «package» = q.«package»; stands = stands } ∷ rest) (q ∷ with_stands rest name stands)) m
        ≡ cond (is_at (slice_cmp nat_cmp m) name) stands
        (cond (is_at (slice_cmp nat_cmp m) q.«package») q.stands (stands_at rest m))
    by Less is later = refl
    by Equal is later =
        let same : name ≡ q.«package» = same_name name q.«package» (ap is_eq is) in
        ap (λ n. cond (is_at (slice_cmp nat_cmp m) n) stands (stands_at rest m)) (sym same)
        ∙ again (is_at (slice_cmp nat_cmp m) name) (is_at (slice_cmp nat_cmp m) q.«package»)
        (ap (is_at (slice_cmp nat_cmp m)) same)
      where
        again : (a b : Bool) → a ≡ b
            → cond a stands (stands_at rest m) ≡ cond a stands (cond b q.stands (stands_at rest m))
        again true b e = refl
        again false true e = absurd (false≢true e)
        again false false e = refl
    by Greater is later = ap (cond (is_at (slice_cmp nat_cmp m) q.«package») q.stands) later
        ∙ both Greater is refl (is_at (slice_cmp nat_cmp m) name) (is_at (slice_cmp nat_cmp m) q.«package») refl refl

-- it has a slot, and the others keep theirs
slot-at : (packages : List PackageStands) (name : Name) (stands : List Stand) (m : Name)
    → has_slot (with_stands packages name stands) m ≡ (is_at (slice_cmp nat_cmp m) name || has_slot packages m)
slot-at [] name stands m = refl
slot-at (q ∷ rest) name stands m = by (slice_cmp nat_cmp name q.«package») refl (slot-at rest name stands m)
  where
    twice : (a b : Bool) → (a || b) ≡ (a || (a || b))
    twice true b = refl
    twice false b = refl

    turned : (a b c : Bool) → (a || (b || c)) ≡ (b || (a || c))
    turned true true c = refl
    turned true false c = refl
    turned false b c = refl

    by : (o : Ordering) → slice_cmp nat_cmp name q.«package» ≡ o
        → has_slot (with_stands rest name stands) m ≡ (is_at (slice_cmp nat_cmp m) name || has_slot rest m)
        → has_slot (match_ordering o (record { «package» = name; stands = stands } ∷ q ∷ rest)
        (record { «package» = q.«package»; stands = stands } ∷ rest) (q ∷ with_stands rest name stands)) m
        ≡ (is_at (slice_cmp nat_cmp m) name || (is_at (slice_cmp nat_cmp m) q.«package» || has_slot rest m))
    by Less is later = refl
    by Equal is later =
        let same : name ≡ q.«package» = same_name name q.«package» (ap is_eq is) in
        twice (is_at (slice_cmp nat_cmp m) q.«package») (has_slot rest m)
        ∙ ap (λ n. is_at (slice_cmp nat_cmp m) n || (is_at (slice_cmp nat_cmp m) q.«package» || has_slot rest m))
        (sym same)
    by Greater is later = ap (λ b. is_at (slice_cmp nat_cmp m) q.«package» || b) later
        ∙ turned (is_at (slice_cmp nat_cmp m) q.«package») (is_at (slice_cmp nat_cmp m) name) (has_slot rest m)

pub slot-with : (packages : List PackageStands) (name : Name) (stands : List Stand)
    → has_slot (with_stands packages name stands) name ≡ true
slot-with packages name stands = slot-at packages name stands name
    ∙ ap (λ b. b || has_slot packages name) ((Equal-is _).1 (tied_itself nat_list_cmp_total name))

pub slot-kept : (packages : List PackageStands) (name : Name) (stands : List Stand) (m : Name)
    → has_slot packages m ≡ true → has_slot (with_stands packages name stands) m ≡ true
slot-kept packages name stands m h = slot-at packages name stands m
    ∙ by (is_at (slice_cmp nat_cmp m) name) (has_slot packages m) h
  where
    by : (a b : Bool) → b ≡ true → (a || b) ≡ true
    by true b e = refl
    by false b e = e

-- a package without a slot has no stands
pub stands-none : (packages : List PackageStands) (name : Name) → has_slot packages name ≡ false
    → stands_at packages name ≡ []
stands-none [] name h = refl
stands-none (q ∷ rest) name h = by (is_at (slice_cmp nat_cmp name) q.«package») h (stands-none rest name)
  where
    by : (b : Bool) → (b || has_slot rest name) ≡ false → (has_slot rest name ≡ false → stands_at rest name ≡ [])
        → cond b q.stands (stands_at rest name) ≡ []
    by true e later = absurd (false≢true (sym e))
    by false e later = later e

-- so a slot more changes no package's stands
pub at-with_none : (packages : List PackageStands) (name m : Name) → has_slot packages name ≡ false
    → stands_at (with_stands packages name []) m ≡ stands_at packages m
at-with_none packages name m h = at-with packages name [] m
    ∙ by (is_at (slice_cmp nat_cmp m) name) refl
  where
    by : (b : Bool) → is_at (slice_cmp nat_cmp m) name ≡ b → cond b [] (stands_at packages m) ≡ stands_at packages m
    by true e = sym (ap (stands_at packages) (same_name m name e) ∙ stands-none packages name h)
    by false e = refl

pub none-own : (name : Name) → AreOfPackage name []
none-own name = record {
  named = All-nil (λ (s : Stand). s.pair.«package» ≡ name);
  in_order = pairs_nil (λ p q. pair_cmp p q ≡ Less);
}

-- a slot that the map makes
module _ (old new : List (Name × Vec Stand Global)) (name : Name) (v : Vec Stand Global) (empty : v.items ≡ [])
    (is : new ≡ insert_entry (slice_cmp nat_cmp) old name v) (none : has_slot (in_slots old) name ≡ false) where
  made : in_slots new ≡ with_stands (in_slots old) name []
  made = ap in_slots is ∙ put-in_slots old name v ∙ ap (with_stands (in_slots old) name) empty

  pub made-by_package : IsStrictlySortedBy (slice_cmp nat_cmp) (keys_of new) → AreByPackage (in_slots old)
      → AreByPackage (in_slots new)
  made-by_package rising h =
      by_package-with old new name v is rising h (subst (AreOfPackage name) (sym empty) (none-own name))

  pub made-all : all_stands (in_slots new) ≡ all_stands (in_slots old)
  made-all = ap all_stands made ∙ all-with_none (in_slots old) name none

  pub made-at : (m : Name) → stands_at (in_slots new) m ≡ stands_at (in_slots old) m
  made-at m = ap (λ packages. stands_at packages m) made ∙ at-with_none (in_slots old) name m none

  pub made-kept : (m : Name) → has_slot (in_slots old) m ≡ true → has_slot (in_slots new) m ≡ true
  made-kept m h = ap (λ packages. has_slot packages m) made ∙ slot-kept (in_slots old) name [] m h

  pub made-slot : has_slot (in_slots new) name ≡ true
  made-slot = ap (λ packages. has_slot packages name) made ∙ slot-with (in_slots old) name []
