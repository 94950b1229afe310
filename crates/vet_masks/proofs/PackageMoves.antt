-- The moves of a change of packages, one package after the other.
use Rattle.std.proofs.Common.{◌≡◌, ◌++◌, ◌||◌, List, [], ◌∷◌, Some, true, false, cond, get_or, map, refl, sym, ap}
use Rattle.std.proofs.Common.{subst, ◌∙◌}
use Rattle.std.specs.Cmp.{tied_itself}
use Rattle.std.specs.Cmp.Lexicographic.{nat_list_cmp_total, slice_cmp}
use Rattle.std.specs.List.{All}
use Rattle.std.specs.List.Sorted.{IsStrictlySortedBy}
use Rattle.std.specs.declared.cmp.Ordering.{Ordering}
use Rattle.std.specs.declared.cmp.Ordering.TheVariants.{Less, Equal, Greater}
use Rattle.std.specs.Ordering.{is_eq, match_ordering, nat_cmp, ordering_reverse}
use Rattle.std.proofs.lemmas.Bool.{false≢true}
use Rattle.std.proofs.lemmas.List.{append_assoc, map-append}
use Rattle.std.proofs.lemmas.List.Elements.{All-cons, All-head, All-map, All-nil, All-tail, All-weaker}
use Rattle.vet_base.specs.Words.{Name}
use Rattle.vet_demand.specs.Pair.{pair_cmp}
use Rattle.vet_demand.specs.PairLaws.{pair_total}
use Rattle.vet_graph.specs.declared.class.Class.{Class}
use Rattle.vet_graph.specs.declared.class.Class.TheVariants.{Conflicting, Full, Partial, Exempted, Unvetted}
use Rattle.vet_graph.specs.declared.moves.Move.{Move}
use Rattle.vet_graph.specs.declared.standing.Stand.{Stand}
use Rattle.vet_graph.specs.Moves.{changes, comes, leaves, moves_between, moves_by, moves_past}
use Rattle.vet_graph.specs.Standing.{same_class}
use Rattle.vet_masks.specs.Standings.{AreByPackage, AreOfPackage, PackageStands, all_stands, has_slot}
use Rattle.vet_masks.specs.Standings.{moves_of_packages, stands_at, with_all, with_stands}
use Rattle.vet_masks.proofs.Standings.{AreBehind, by_package-head, by_package-tail, each-with, package-first}
use Rattle.vet_masks.proofs.Standings.{rest-behind, same_name, slot-kept}

-- each of some stands comes before each of others
abbrev pub AreBefore : List Stand → List Stand → Type 0
AreBefore xs ys = All (λ x. All (λ y. pair_cmp x.pair y.pair ≡ Less) ys) xs

before-head : (x : Stand) (xs ys : List Stand) → AreBefore (x ∷ xs) ys → All (λ y. pair_cmp x.pair y.pair ≡ Less) ys
before-head x xs ys h = All-head (λ z. All (λ y. pair_cmp z.pair y.pair ≡ Less) ys) x xs h

before-tail : (x : Stand) (xs ys : List Stand) → AreBefore (x ∷ xs) ys → AreBefore xs ys
before-tail x xs ys h = All-tail (λ z. All (λ y. pair_cmp z.pair y.pair ≡ Less) ys) x xs h

turned : (s t : Stand) → pair_cmp t.pair s.pair ≡ Less → pair_cmp s.pair t.pair ≡ Greater
turned s t e = pair_total.antisymm s.pair t.pair ∙ ap ordering_reverse e

turned-names : (a b : Name) → slice_cmp nat_cmp a b ≡ Less → slice_cmp nat_cmp b a ≡ Greater
turned-names a b e = nat_list_cmp_total.antisymm b a ∙ ap ordering_reverse e

moves-at : (o : Ordering) (s t : Stand) (a b c : List Move) (r : Ordering) → r ≡ o
    → moves_by r s t a b c ≡ moves_by o s t a b c
moves-at o s t a b c r e = ap (λ x. moves_by x s t a b c) e

-- what comes stands before all others
coming-first : (b ys ys' : List Stand) → AreBefore ys b
    → moves_between b (ys ++ ys') ≡ map comes ys ++ moves_between b ys'
coming-first [] ys ys' h = map-append comes ys ys'
coming-first (s ∷ b) [] ys' h = refl
coming-first (s ∷ b) (t ∷ ys) ys' h =
    let first = All-head (λ y. pair_cmp t.pair y.pair ≡ Less) s b
    (All-head (λ x. All (λ y. pair_cmp x.pair y.pair ≡ Less) (s ∷ b)) t ys h) in
    moves-at Greater s t _ _ _ (pair_cmp s.pair t.pair) (turned s t first)
    ∙ ap (λ l. comes t ∷ l) (coming-first (s ∷ b) ys ys'
    (All-tail (λ x. All (λ y. pair_cmp x.pair y.pair ≡ Less) (s ∷ b)) t ys h))

-- moves before others, however the pairs compare
by-append : (o : Ordering) (s t : Stand) (x y z a b c more : List Move) → x ≡ a ++ more → y ≡ b ++ more → z ≡ c ++ more
    → moves_by o s t x y z ≡ moves_by o s t a b c ++ more
by-append Less s t x y z a b c more p q r = ap (λ l. leaves s ∷ l) p
by-append Equal s t x y z a b c more p q r = ap (λ l. changes s t ++ l) q ∙ sym (append_assoc (changes s t) b more)
by-append Greater s t x y z a b c more p q r = ap (λ l. comes t ∷ l) r

-- what moves to the first of some stands, where it is known what moves to the others
past-split : (s : Stand) (a b : List Stand)
    → ((x y : List Stand) → AreBefore a y → AreBefore x b
    → moves_between (a ++ b) (x ++ y) ≡ moves_between a x ++ moves_between b y)
    → (a' b' : List Stand) → AreBefore (s ∷ a) b' → AreBefore a' b
    → moves_past s (moves_between (a ++ b)) (a' ++ b') ≡ moves_past s (moves_between a) a' ++ moves_between b b'
past-split s a b more [] [] h k = ap (λ l. leaves s ∷ l) (more [] [] (before-tail s a [] h) k)
past-split s a b more [] (t ∷ b') h k =
    let first = All-head (λ y. pair_cmp s.pair y.pair ≡ Less) t b' (before-head s a (t ∷ b') h) in
    moves-at Less s t _ _ _ (pair_cmp s.pair t.pair) first
    ∙ ap (λ l. leaves s ∷ l) (more [] (t ∷ b') (before-tail s a (t ∷ b') h) k)
past-split s a b more (t ∷ a') b' h k = by-append (pair_cmp s.pair t.pair) s t _ _ _ _ _ _ (moves_between b b')
    (more (t ∷ a') b' (before-tail s a b' h) k)
    (more a' b' (before-tail s a b' h) (before-tail t a' b k))
    (past-split s a b more a' b' h (before-tail t a' b k))

-- where what is before one place of two standings is apart from what is behind it, so are the moves
pub moves-split : (a a' b b' : List Stand) → AreBefore a b' → AreBefore a' b
    → moves_between (a ++ b) (a' ++ b') ≡ moves_between a a' ++ moves_between b b'
moves-split [] a' b b' h k = coming-first b a' b' k
moves-split (s ∷ a) a' b b' h k = past-split s a b (λ x y p q. moves-split a x b y p q) a' b' h k

-- a class is the same as itself
same-itself : (k : Class) → same_class k k ≡ true
same-itself Conflicting = refl
same-itself Full = refl
same-itself Partial = refl
same-itself Exempted = refl
same-itself Unvetted = refl

-- nothing moves where nothing changes
pub moves-none : (a : List Stand) → moves_between a a ≡ []
moves-none [] = refl
moves-none (s ∷ a) = moves-at Equal s s _ _ _ (pair_cmp s.pair s.pair) (tied_itself pair_total s.pair)
    ∙ ap (λ b. cond b [] (record { pair = s.pair; before = Some s.class; after = Some s.class } ∷ [])
    ++ moves_between a a) (same-itself s.class) ∙ moves-none a

-- ---- package by package

-- a name before all packages is that of none
pub slot-behind : (packages : List PackageStands) (name : Name) → AreBehind name packages
    → has_slot packages name ≡ false
slot-behind [] name h = refl
slot-behind (q ∷ rest) name h =
    ap (λ b. b || has_slot rest name) (ap is_eq (All-head (λ p. slice_cmp nat_cmp name p.«package» ≡ Less) q rest h))
    ∙ slot-behind rest name (All-tail (λ p. slice_cmp nat_cmp name p.«package» ≡ Less) q rest h)

-- a name that comes before a package comes before those behind it
behind-both : (a b : Name) (packages : List PackageStands) → slice_cmp nat_cmp a b ≡ Less → AreBehind b packages
    → AreBehind a packages
behind-both a b packages l h k d m = nat_list_cmp_total.trans a b _ l (h k d m)

-- stands of a package come before those of the packages behind it
before-rest : (name : Name) (stands : List Stand) (rest : List PackageStands) → AreOfPackage name stands
    → AreByPackage rest → AreBehind name rest → AreBefore stands (all_stands rest)
before-rest name stands rest own h behind = All-weaker (λ (s : Stand). s.pair.«package» ≡ name)
    (λ s. All (λ y. pair_cmp s.pair y.pair ≡ Less) (all_stands rest))
    (λ s e. All-weaker (λ (t : Stand). slice_cmp nat_cmp name t.pair.«package» ≡ Less)
    (λ t. pair_cmp s.pair t.pair ≡ Less)
    (λ t l. package-first s.pair t.pair (ap (λ n. slice_cmp nat_cmp n t.pair.«package») e ∙ l)) (all_stands rest)
    (rest-behind name rest h behind)) stands own.named

-- where a package has a slot, the names stay
names-step : (q : PackageStands) (rest : List PackageStands) (name : Name) (stands : List Stand)
    → AreByPackage (q ∷ rest) → has_slot (q ∷ rest) name ≡ true
    → (has_slot rest name ≡ true
    → map (λ (p : PackageStands). p.«package») (with_stands rest name stands)
    ≡ map (λ (p : PackageStands). p.«package») rest)
    → (o : Ordering) → slice_cmp nat_cmp name q.«package» ≡ o
    → map (λ (p : PackageStands). p.«package»)
    (match_ordering o (record { «package» = name; stands = stands } ∷ q ∷ rest)
    (record { «package» = q.«package»; stands = stands } ∷ rest) (q ∷ with_stands rest name stands))
    ≡ q.«package» ∷ map (λ (p : PackageStands). p.«package») rest
names-step q rest name stands h slot later Less is = absurd (false≢true
    (sym (ap (λ b. b || has_slot rest name) (ap is_eq is)
    ∙ slot-behind rest name (behind-both name q.«package» rest is (by_package-head q rest h))) ∙ slot))
names-step q rest name stands h slot later Equal is = refl
names-step q rest name stands h slot later Greater is = ap (λ ns. q.«package» ∷ ns)
    (later (sym (ap (λ b. b || has_slot rest name) (ap is_eq is)) ∙ slot))

names-with : (packages : List PackageStands) (name : Name) (stands : List Stand) → AreByPackage packages
    → has_slot packages name ≡ true
    → map (λ (p : PackageStands). p.«package») (with_stands packages name stands)
    ≡ map (λ (p : PackageStands). p.«package») packages
names-with [] name stands h slot = absurd (false≢true slot)
names-with (q ∷ rest) name stands h slot = names-step q rest name stands h slot
    (λ s. names-with rest name stands (by_package-tail q rest h) s) (slice_cmp nat_cmp name q.«package») refl

with-by_package : (packages : List PackageStands) (name : Name) (stands : List Stand) → AreByPackage packages
    → has_slot packages name ≡ true → AreOfPackage name stands → AreByPackage (with_stands packages name stands)
with-by_package packages name stands h slot own = record {
  rising = subst (IsStrictlySortedBy (slice_cmp nat_cmp)) (sym (names-with packages name stands h slot)) h.rising;
  each = each-with packages name stands h.each own;
}

-- ---- what changes package by package

-- each of these packages has a slot among the others
abbrev pub HaveSlots : List PackageStands → List PackageStands → Type 0
HaveSlots packages changed = All (λ c. has_slot packages c.«package» ≡ true) changed

-- changes behind a package leave it
all-skip : (q : PackageStands) (rest changed : List PackageStands) → AreBehind q.«package» changed
    → with_all (q ∷ rest) changed ≡ q ∷ with_all rest changed
all-skip q rest [] h = refl
all-skip q rest (c ∷ changed) h =
    let greater : slice_cmp nat_cmp c.«package» q.«package» ≡ Greater = turned-names q.«package» c.«package»
    (All-head (λ (p : PackageStands). slice_cmp nat_cmp q.«package» p.«package» ≡ Less) c changed h) in
    ap (λ o. with_all (match_ordering o (record { «package» = c.«package»; stands = c.stands } ∷ q ∷ rest)
    (record { «package» = q.«package»; stands = c.stands } ∷ rest) (q ∷ with_stands rest c.«package» c.stands)) changed)
    greater
    ∙ all-skip q (with_stands rest c.«package» c.stands) changed
    (All-tail (λ (p : PackageStands). slice_cmp nat_cmp q.«package» p.«package» ≡ Less) c changed h)

-- and so they do the moves
moves-skip : (q : PackageStands) (rest changed : List PackageStands) → AreBehind q.«package» changed
    → moves_of_packages (q ∷ rest) changed ≡ moves_of_packages rest changed
moves-skip q rest [] h = refl
moves-skip q rest (c ∷ changed) h =
    let greater : slice_cmp nat_cmp c.«package» q.«package» ≡ Greater = turned-names q.«package» c.«package»
    (All-head (λ (p : PackageStands). slice_cmp nat_cmp q.«package» p.«package» ≡ Less) c changed h) in
    ap (λ b. moves_between (cond b q.stands (stands_at rest c.«package»)) c.stands
    ++ moves_of_packages (q ∷ rest) changed) (ap is_eq greater)
    ∙ ap (λ l. moves_between (stands_at rest c.«package») c.stands ++ l) (moves-skip q rest changed
    (All-tail (λ (p : PackageStands). slice_cmp nat_cmp q.«package» p.«package» ≡ Less) c changed h))

-- the slots of changes behind a package are among the others
slots-skip : (q : PackageStands) (rest changed : List PackageStands) → AreBehind q.«package» changed
    → HaveSlots (q ∷ rest) changed → HaveSlots rest changed
slots-skip q rest changed h slots k d l =
    let c = get_or changed k d in
    let greater : slice_cmp nat_cmp c.«package» q.«package» ≡ Greater =
    turned-names q.«package» c.«package» (h k d l) in
    ap (λ b. b || has_slot rest c.«package») (sym (ap is_eq greater)) ∙ slots k d l

-- packages stay in order, with the same names
pub all-by_package : (packages changed : List PackageStands) → AreByPackage packages → AreByPackage changed
    → HaveSlots packages changed → AreByPackage (with_all packages changed)
all-by_package packages [] h g slots = h
all-by_package packages (c ∷ changed) h g slots =
    let own = All-head (λ (p : PackageStands). AreOfPackage p.«package» p.stands) c changed g.each in
    let slot = All-head (λ (p : PackageStands). has_slot packages p.«package» ≡ true) c changed slots in
    all-by_package (with_stands packages c.«package» c.stands) changed
    (with-by_package packages c.«package» c.stands h slot own) (by_package-tail c changed g)
    (All-weaker (λ (p : PackageStands). has_slot packages p.«package» ≡ true)
    (λ (p : PackageStands). has_slot (with_stands packages c.«package» c.stands) p.«package» ≡ true)
    (λ p e. slot-kept packages c.«package» c.stands p.«package» e) changed
    (All-tail (λ (p : PackageStands). has_slot packages p.«package» ≡ true) c changed slots))

abbrev names_in : List PackageStands → List Name
names_in packages = map (λ p. p.«package») packages

all-names : (packages changed : List PackageStands) → AreByPackage packages → AreByPackage changed
    → HaveSlots packages changed → names_in (with_all packages changed) ≡ names_in packages
all-names packages [] h g slots = refl
all-names packages (c ∷ changed) h g slots =
    let own = All-head (λ (p : PackageStands). AreOfPackage p.«package» p.stands) c changed g.each in
    let slot = All-head (λ (p : PackageStands). has_slot packages p.«package» ≡ true) c changed slots in
    all-names (with_stands packages c.«package» c.stands) changed
    (with-by_package packages c.«package» c.stands h slot own) (by_package-tail c changed g)
    (All-weaker (λ (p : PackageStands). has_slot packages p.«package» ≡ true)
    (λ (p : PackageStands). has_slot (with_stands packages c.«package» c.stands) p.«package» ≡ true)
    (λ p e. slot-kept packages c.«package» c.stands p.«package» e) changed
    (All-tail (λ (p : PackageStands). has_slot packages p.«package» ≡ true) c changed slots))
    ∙ names-with packages c.«package» c.stands h slot

-- what comes behind a name does so by names alone
behind-names : (name : Name) (packages : List PackageStands)
    → All (λ n. slice_cmp nat_cmp name n ≡ Less) (names_in packages) → AreBehind name packages
behind-names name [] h = All-nil (λ (p : PackageStands). slice_cmp nat_cmp name p.«package» ≡ Less)
behind-names name (q ∷ rest) h = All-cons (λ (p : PackageStands). slice_cmp nat_cmp name p.«package» ≡ Less) q rest
    (All-head (λ n. slice_cmp nat_cmp name n ≡ Less) q.«package» (names_in rest) h)
    (behind-names name rest (All-tail (λ n. slice_cmp nat_cmp name n ≡ Less) q.«package» (names_in rest) h))

behind-all : (name : Name) (packages changed : List PackageStands) → AreByPackage packages → AreByPackage changed
    → HaveSlots packages changed → AreBehind name packages → AreBehind name (with_all packages changed)
behind-all name packages changed h g slots behind = behind-names name (with_all packages changed)
    (subst (All (λ n. slice_cmp nat_cmp name n ≡ Less)) (sym (all-names packages changed h g slots))
    (All-map (λ n. slice_cmp nat_cmp name n ≡ Less) (λ (p : PackageStands). p.«package») packages behind))

-- one package more, where it is known of the others
moves-step : (q : PackageStands) (rest : List PackageStands) (c : PackageStands) (changed : List PackageStands)
    → AreByPackage (q ∷ rest) → AreByPackage (c ∷ changed) → HaveSlots (q ∷ rest) (c ∷ changed)
    → ((others : List PackageStands) → AreByPackage others → HaveSlots rest others
    → moves_between (all_stands rest) (all_stands (with_all rest others)) ≡ moves_of_packages rest others)
    → (o : Ordering) → slice_cmp nat_cmp c.«package» q.«package» ≡ o
    → moves_between (q.stands ++ all_stands rest) (all_stands (with_all (q ∷ rest) (c ∷ changed)))
    ≡ moves_of_packages (q ∷ rest) (c ∷ changed)
moves-step q rest c changed h g slots more Less is = absurd (false≢true
    (sym (ap (λ b. b || has_slot rest c.«package») (ap is_eq is)
    ∙ slot-behind rest c.«package» (behind-both c.«package» q.«package» rest is (by_package-head q rest h)))
    ∙ All-head (λ (p : PackageStands). has_slot (q ∷ rest) p.«package» ≡ true) c changed slots))
moves-step q rest c changed h g slots more Equal is =
    let same : c.«package» ≡ q.«package» = same_name c.«package» q.«package» (ap is_eq is) in
    let now : PackageStands = record { «package» = q.«package»; stands = c.stands } in
    let behind : AreBehind q.«package» changed = subst (λ n. AreBehind n changed) same (by_package-head c changed g) in
    let later = by_package-tail q rest h in
    let others = by_package-tail c changed g in
    let have = slots-skip q rest changed behind
    (All-tail (λ (p : PackageStands). has_slot (q ∷ rest) p.«package» ≡ true) c changed slots) in
    let own = All-head (λ (p : PackageStands). AreOfPackage p.«package» p.stands) q rest h.each in
    let own_now = All-head (λ (p : PackageStands). AreOfPackage p.«package» p.stands) c changed g.each in
    let first = by_package-head q rest h in
    ap (λ o. moves_between (q.stands ++ all_stands rest) (all_stands (with_all (match_ordering o
    (record { «package» = c.«package»; stands = c.stands } ∷ q ∷ rest) (now ∷ rest)
    (q ∷ with_stands rest c.«package» c.stands)) changed))) is
    ∙ ap (λ l. moves_between (q.stands ++ all_stands rest) (all_stands l)) (all-skip now rest changed behind)
    ∙ moves-split q.stands c.stands (all_stands rest) (all_stands (with_all rest changed))
    (before-rest q.«package» q.stands (with_all rest changed) own (all-by_package rest changed later others have)
    (behind-all q.«package» rest changed later others have first))
    (before-rest q.«package» c.stands rest (subst (λ n. AreOfPackage n c.stands) same own_now) later first)
    ∙ ap (λ l. moves_between q.stands c.stands ++ l) (more changed others have ∙ sym (moves-skip q rest changed behind))
    ∙ ap (λ b. moves_between (cond b q.stands (stands_at rest c.«package»)) c.stands
    ++ moves_of_packages (q ∷ rest) changed) (sym (ap is_eq is))
moves-step q rest c changed h g slots more Greater is =
    let less : slice_cmp nat_cmp q.«package» c.«package» ≡ Less =
    nat_list_cmp_total.antisymm q.«package» c.«package» ∙ ap ordering_reverse is in
    let behind : AreBehind q.«package» (c ∷ changed) = All-cons
    (λ (p : PackageStands). slice_cmp nat_cmp q.«package» p.«package» ≡ Less) c changed less
    (behind-both q.«package» c.«package» changed less (by_package-head c changed g)) in
    let later = by_package-tail q rest h in
    let have = slots-skip q rest (c ∷ changed) behind slots in
    let own = All-head (λ (p : PackageStands). AreOfPackage p.«package» p.stands) q rest h.each in
    let first = by_package-head q rest h in
    ap (λ l. moves_between (q.stands ++ all_stands rest) (all_stands l)) (all-skip q rest (c ∷ changed) behind)
    ∙ moves-split q.stands q.stands (all_stands rest) (all_stands (with_all rest (c ∷ changed)))
    (before-rest q.«package» q.stands (with_all rest (c ∷ changed)) own (all-by_package rest (c ∷ changed) later g have)
    (behind-all q.«package» rest (c ∷ changed) later g have first))
    (before-rest q.«package» q.stands rest own later first)
    ∙ ap (λ l. l ++ moves_between (all_stands rest) (all_stands (with_all rest (c ∷ changed)))) (moves-none q.stands)
    ∙ more (c ∷ changed) g have ∙ sym (moves-skip q rest (c ∷ changed) behind)

-- the moves of a change are those of its packages, one after the other
pub package-moves : (packages changed : List PackageStands) → AreByPackage packages → AreByPackage changed
    → HaveSlots packages changed
    → moves_between (all_stands packages) (all_stands (with_all packages changed)) ≡ moves_of_packages packages changed
package-moves [] [] h g slots = refl
package-moves [] (c ∷ changed) h g slots =
    absurd (false≢true (All-head (λ (p : PackageStands). has_slot [] p.«package» ≡ true) c changed slots))
package-moves (q ∷ rest) [] h g slots = moves-none (all_stands (q ∷ rest))
package-moves (q ∷ rest) (c ∷ changed) h g slots = moves-step q rest c changed h g slots
    (λ others p s. package-moves rest others (by_package-tail q rest h) p s)
    (slice_cmp nat_cmp c.«package» q.«package») refl
