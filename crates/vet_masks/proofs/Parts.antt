-- The standing, and the parts of it that are of one package each.
use Rattle.std.proofs.Common.{◌≡◌, ◌≢◌, ◌++◌, Bool, true, false, cond, List, [], ◌∷◌, filter, map, refl, sym, ap}
use Rattle.std.proofs.Common.{subst, ◌∙◌, inl, inr}
use Rattle.std.specs.BTreeMap.{is_at}
use Rattle.std.specs.Cmp.{tied_itself, Equal-is}
use Rattle.std.specs.Cmp.Lexicographic.{nat_list_cmp_total, slice_cmp}
use Rattle.std.specs.List.{All}
use Rattle.std.specs.Ordering.{nat_cmp, ordering_reverse}
use Rattle.std.specs.Str.{bytes_eq}
use Rattle.std.specs.declared.cmp.Ordering.TheVariants.{Less, Greater}
use Rattle.std.proofs.lemmas.Bool.{cases_Bool, false≢true}
use Rattle.std.proofs.lemmas.List.Elements.{All-cons, All-filter, All-head, All-nil, All-tail, All-weaker}
use Rattle.std.proofs.lemmas.List.Elements.{filter-append}
use Rattle.std.proofs.lemmas.Slice.Eq.{bytes_eq-Decides}
use Rattle.vet_base.proofs.ItemLemmas.{pairs_head, pairs_tail}
use Rattle.vet_base.specs.Words.{Name}
use Rattle.vet_demand.specs.declared.pair.Pair.{Pair}
use Rattle.vet_demand.specs.Pair.{pair_cmp}
use Rattle.vet_demand.specs.PairLaws.{pair_total}
use Rattle.vet_graph.specs.declared.standing.Stand.{Stand}
use Rattle.vet_graph.specs.Standing.{IsStanding, pairs_of}
use Rattle.vet_graph.specs.Touched.{pairs_at}
use Rattle.vet_masks.specs.Standings.{AreByPackage, AreOfPackage, PackageStands, all_stands, stands_at}
use Rattle.vet_masks.proofs.Standings.{AreBehind, behind-differ, by_package-head, by_package-tail, rest-behind}
use Rattle.vet_masks.proofs.Standings.{same_name}

-- the part of a standing that is of a package
abbrev pub part : Name → List Stand → List Stand
part name stands = filter (λ s. bytes_eq s.pair.«package» name) stands

-- ---- the part of a package is what stands of it

keeps-all : {X : Type 0} (p : X → Bool) (xs : List X) → All (λ x. p x ≡ true) xs → filter p xs ≡ xs
keeps-all p [] h = refl
keeps-all p (x ∷ xs) h = ap (λ b. cond b (x ∷ filter p xs) (filter p xs)) (All-head (λ y. p y ≡ true) x xs h)
    ∙ ap (λ l. x ∷ l) (keeps-all p xs (All-tail (λ y. p y ≡ true) x xs h))

keeps-none : {X : Type 0} (p : X → Bool) (xs : List X) → All (λ x. p x ≡ false) xs → filter p xs ≡ []
keeps-none p [] h = refl
keeps-none p (x ∷ xs) h = ap (λ b. cond b (x ∷ filter p xs) (filter p xs)) (All-head (λ y. p y ≡ false) x xs h)
    ∙ keeps-none p xs (All-tail (λ y. p y ≡ false) x xs h)

pub is-named : (a b : Name) → a ≡ b → bytes_eq a b ≡ true
is-named a b e = (bytes_eq-Decides a b).1 e

pub other-named : (a b : Name) → a ≢ b → bytes_eq a b ≡ false
other-named a b d = elim (cases_Bool (bytes_eq a b)) [
  | inl same ↦ absurd (d ((bytes_eq-Decides a b).0 same))
  | inr other ↦ other
]

part-own : (name : Name) (stands : List Stand) → AreOfPackage name stands → part name stands ≡ stands
part-own name stands own = keeps-all (λ (s : Stand). bytes_eq s.pair.«package» name) stands
    (All-weaker (λ (s : Stand). s.pair.«package» ≡ name) (λ (s : Stand). bytes_eq s.pair.«package» name ≡ true)
    (λ s e. is-named s.pair.«package» name e) stands own.named)

part-other : (name other : Name) (stands : List Stand) → AreOfPackage name stands → name ≢ other
    → part other stands ≡ []
part-other name other stands own d = keeps-none (λ (s : Stand). bytes_eq s.pair.«package» other) stands
    (All-weaker (λ (s : Stand). s.pair.«package» ≡ name) (λ (s : Stand). bytes_eq s.pair.«package» other ≡ false)
    (λ s e. other-named s.pair.«package» other (λ q. d (sym e ∙ q))) stands own.named)

part-behind : (name : Name) (rest : List PackageStands) → AreByPackage rest → AreBehind name rest
    → part name (all_stands rest) ≡ []
part-behind name rest h behind = keeps-none (λ (s : Stand). bytes_eq s.pair.«package» name) (all_stands rest)
    (All-weaker (λ (s : Stand). slice_cmp nat_cmp name s.pair.«package» ≡ Less)
    (λ (s : Stand). bytes_eq s.pair.«package» name ≡ false)
    (λ s l. other-named s.pair.«package» name (λ q. behind-differ name s.pair.«package» l (sym q))) (all_stands rest)
    (rest-behind name rest h behind))

append_none : {X : Type 0} (xs ys : List X) → ys ≡ [] → xs ++ ys ≡ xs
append_none [] ys e = e
append_none (x ∷ xs) ys e = ap (λ l. x ∷ l) (append_none xs ys e)

part-step : (q : PackageStands) (rest : List PackageStands) (name : Name) → AreByPackage (q ∷ rest)
    → part name (all_stands rest) ≡ stands_at rest name → (b : Bool) → is_at (slice_cmp nat_cmp name) q.«package» ≡ b
    → part name q.stands ++ part name (all_stands rest) ≡ cond b q.stands (stands_at rest name)
part-step q rest name h later true is =
    let own = All-head (λ (p : PackageStands). AreOfPackage p.«package» p.stands) q rest h.each in
    let same : name ≡ q.«package» = same_name name q.«package» is in
    append_none (part name q.stands) (part name (all_stands rest)) (part-behind name rest (by_package-tail q rest h)
    (subst (λ n. AreBehind n rest) (sym same) (by_package-head q rest h)))
    ∙ part-own name q.stands (subst (λ n. AreOfPackage n q.stands) (sym same) own)
part-step q rest name h later false is =
    let own = All-head (λ (p : PackageStands). AreOfPackage p.«package» p.stands) q rest h.each in
    ap (λ l. l ++ part name (all_stands rest)) (part-other q.«package» name q.stands own
    (λ e. false≢true (sym is ∙ ap (is_at (slice_cmp nat_cmp name)) e
    ∙ (Equal-is _).1 (tied_itself nat_list_cmp_total name)))) ∙ later

pub part-all : (packages : List PackageStands) (name : Name) → AreByPackage packages
    → part name (all_stands packages) ≡ stands_at packages name
part-all [] name h = refl
part-all (q ∷ rest) name h =
    filter-append (λ (s : Stand). bytes_eq s.pair.«package» name) q.stands (all_stands rest)
    ∙ part-step q rest name h (part-all rest name (by_package-tail q rest h))
    (is_at (slice_cmp nat_cmp name) q.«package») refl

-- the part of pairs with their classes is that of these pairs
pub part-classes : (f : Pair → Stand) → ((p : Pair) → (f p).pair ≡ p) → (demand : List Pair) (name : Name)
    → part name (map f demand) ≡ map f (pairs_at name demand)
part-classes f own [] name = refl
part-classes f own (p ∷ rest) name = ap (λ b. cond b (f p ∷ part name (map f rest)) (part name (map f rest)))
    (ap (λ (q : Pair). bytes_eq q.«package» name) (own p))
    ∙ by (bytes_eq p.«package» name) (part-classes f own rest name)
  where
    by : (b : Bool) → part name (map f rest) ≡ map f (pairs_at name rest)
        → cond b (f p ∷ part name (map f rest)) (part name (map f rest))
        ≡ map f (cond b (p ∷ pairs_at name rest) (pairs_at name rest))
    by true e = ap (λ l. f p ∷ l) e
    by false e = e

-- ---- standings with the same parts are the same

pub all-back : {X Y : Type 0} (P : Y → Type 0) (f : X → Y) (xs : List X) → All P (map f xs) → All (λ x. P (f x)) xs
all-back P f [] h = All-nil (λ x. P (f x))
all-back P f (x ∷ xs) h =
    All-cons (λ y. P (f y)) x xs (All-head P (f x) (map f xs) h) (all-back P f xs (All-tail P (f x) (map f xs) h))

-- what is first of a part comes behind what all of it comes behind
first-behind : (y x : Stand) (name : Name) (ys rest : List Stand) → IsStanding (y ∷ ys) → part name ys ≡ x ∷ rest
    → pair_cmp y.pair x.pair ≡ Less
first-behind y x name ys rest h is =
    let behind = all-back (λ q. pair_cmp y.pair q ≡ Less) (λ (s : Stand). s.pair) ys
    (pairs_head (λ p q. pair_cmp p q ≡ Less) y.pair (pairs_of ys) h) in
    All-head (λ (s : Stand). pair_cmp y.pair s.pair ≡ Less) x rest
    (subst (All (λ (s : Stand). pair_cmp y.pair s.pair ≡ Less)) is
    (All-filter (λ (s : Stand). bytes_eq s.pair.«package» name) (λ (s : Stand). pair_cmp y.pair s.pair ≡ Less) ys
    behind))

-- the first of a list, or another where it has none
first_or : Stand → List Stand → Stand
first_or d [] = d
first_or d (z ∷ rest) = z

rest_of : List Stand → List Stand
rest_of [] = []
rest_of (z ∷ rest) = rest

-- the part of the first stand's package begins with it
part-first : (x : Stand) (xs : List Stand)
    → part x.pair.«package» (x ∷ xs) ≡ x ∷ part x.pair.«package» xs
part-first x xs = ap (λ b. cond b (x ∷ part x.pair.«package» xs) (part x.pair.«package» xs))
    (is-named x.pair.«package» x.pair.«package» refl)

-- the first stands of two standings with the same parts are one
heads-by : (x y : Stand) (xs ys : List Stand) → IsStanding (x ∷ xs) → IsStanding (y ∷ ys)
    → part x.pair.«package» (x ∷ xs) ≡ part x.pair.«package» (y ∷ ys)
    → part y.pair.«package» (x ∷ xs) ≡ part y.pair.«package» (y ∷ ys)
    → (b : Bool) → bytes_eq y.pair.«package» x.pair.«package» ≡ b → x ≡ y
unfolding first_or
heads-by x y xs ys h g ex ey true is = ap (first_or x) (sym (part-first x xs) ∙ ex
    ∙ ap (λ b. cond b (y ∷ part x.pair.«package» ys) (part x.pair.«package» ys)) is)
heads-by x y xs ys h g ex ey false is =
    let x_later : part x.pair.«package» ys ≡ x ∷ part x.pair.«package» xs =
    ap (λ b. cond b (y ∷ part x.pair.«package» ys) (part x.pair.«package» ys)) (sym is) ∙ sym ex ∙ part-first x xs in
    let apart : bytes_eq x.pair.«package» y.pair.«package» ≡ false = other-named x.pair.«package» y.pair.«package»
    (λ e. false≢true (sym is ∙ is-named y.pair.«package» x.pair.«package» (sym e))) in
    let y_later : part y.pair.«package» xs ≡ y ∷ part y.pair.«package» ys =
    ap (λ b. cond b (x ∷ part y.pair.«package» xs) (part y.pair.«package» xs)) (sym apart) ∙ ey ∙ part-first y ys in
    let one = first-behind y x x.pair.«package» ys (part x.pair.«package» xs) g x_later in
    let other = first-behind x y y.pair.«package» xs (part y.pair.«package» ys) h y_later in
    let turned : pair_cmp y.pair x.pair ≡ Greater =
    pair_total.antisymm y.pair x.pair ∙ ap ordering_reverse other in
    absurd (let both : Less ≡ Greater = sym one ∙ turned in cc both)

-- without the first stand, which is the same, the parts are the same
tails-by : (x : Stand) (xs ys : List Stand) (name : Name) → part name (x ∷ xs) ≡ part name (x ∷ ys)
    → (b : Bool) → bytes_eq x.pair.«package» name ≡ b → part name xs ≡ part name ys
unfolding rest_of
tails-by x xs ys name e true is = ap rest_of (ap (λ b. cond b (x ∷ part name xs) (part name xs)) (sym is) ∙ e
    ∙ ap (λ b. cond b (x ∷ part name ys) (part name ys)) is)
tails-by x xs ys name e false is = ap (λ b. cond b (x ∷ part name xs) (part name xs)) (sym is) ∙ e
    ∙ ap (λ b. cond b (x ∷ part name ys) (part name ys)) is

pub same-by_parts : (xs ys : List Stand) → IsStanding xs → IsStanding ys → ((name : Name) → part name xs ≡ part name ys)
    → xs ≡ ys
same-by_parts [] [] h g same = refl
same-by_parts [] (y ∷ ys) h g same = absurd (let e : [] ≡ y ∷ part y.pair.«package» ys =
    same y.pair.«package» ∙ part-first y ys in cc e)
same-by_parts (x ∷ xs) [] h g same = absurd (let e : x ∷ part x.pair.«package» xs ≡ [] =
    sym (part-first x xs) ∙ same x.pair.«package» in cc e)
same-by_parts (x ∷ xs) (y ∷ ys) h g same =
    let first : x ≡ y = heads-by x y xs ys h g (same x.pair.«package») (same y.pair.«package»)
    (bytes_eq y.pair.«package» x.pair.«package») refl in
    let rest : xs ≡ ys = same-by_parts xs ys (pairs_tail (λ p q. pair_cmp p q ≡ Less) x.pair (pairs_of xs) h)
    (pairs_tail (λ p q. pair_cmp p q ≡ Less) y.pair (pairs_of ys) g)
    (λ name. tails-by x xs ys name (same name ∙ ap (λ z. part name (z ∷ ys)) (sym first))
    (bytes_eq x.pair.«package» name) refl) in
    λ i. first i ∷ rest i
