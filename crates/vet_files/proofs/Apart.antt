-- Lists whose items are apart, and walks over a table whose keys rise that make such lists.
use Rattle.std.proofs.Common.{◌≡◌, ℕ, List, [], ◌∷◌, ◌++◌, Less, Equal, IfOk, ap, sym, ◌∙◌, arith}
use Rattle.std.specs.Cmp.{tied_itself}
use Rattle.std.specs.Cmp.Lexicographic.{nat_list_cmp_total, slice_cmp}
use Rattle.std.specs.List.{All, AllPairs}
use Rattle.std.specs.Ordering.{nat_cmp}
use Rattle.std.proofs.lemmas.List.Elements.{All-append, All-head, All-nil, All-tail, All-weaker}
use Rattle.std.proofs.lemmas.List.Kept.{AllPairs-cons}
use Rattle.toml.specs.Data.{Data, Members, no_members, member}
use Rattle.vet_base.specs.Gives.{Told, ◌>>=◌}
use Rattle.vet_files.specs.declared.found.Found.{Found}
use Rattle.vet_files.specs.Lists.{nothing, table_at}
use Rattle.vet_files.specs.Walk.{IsBelow, IsLess, KeysRise, each_member}
use Rattle.vet_files.proofs.Rising.{Rises, Rising}
use Rattle.vet_files.proofs.RisingTables.{table_at-rises}
use Rattle.vet_files.proofs.Walks.{bind-keeps}

-- each item is apart from those after it
abbrev pub AreApart : {X : Type 0} → (X → X → Type 0) → List X → Type 0
AreApart R [] = Unit {0}
AreApart R (x ∷ xs) = All (R x) xs × AreApart R xs

pub apart-pairs : {X : Type 0} (R : X → X → Type 0) (xs : List X) → AreApart R xs → AllPairs R xs
apart-pairs R [] h = λ i j d l m. absurd (omega (arith, m))
apart-pairs R (x ∷ xs) h = AllPairs-cons R x xs h.0 (apart-pairs R xs h.1)

pub apart-append : {X : Type 0} (R : X → X → Type 0) (xs ys : List X) → AreApart R xs → AreApart R ys
    → All (λ x. All (R x) ys) xs → AreApart R (xs ++ ys)
apart-append R [] ys first second across = second
apart-append R (x ∷ xs) ys first second across = (
  All-append (R x) xs ys first.0 (All-head (λ x. All (R x) ys) x xs across),
  apart-append R xs ys first.1 second
      (All-tail (λ x. All (R x) ys) x xs across),
)

-- a name that comes before another is not the same
less-apart : (k l : List ℕ) → IsLess k l → k ≡ l → ⊥
less-apart k l less same = let tied : Less ≡ Equal = sym less ∙ ap (λ n. slice_cmp nat_cmp n l) same
    ∙ tied_itself nat_list_cmp_total l in cc tied

-- items whose names differ are apart, and so are items that differ
abbrev pub HasOther : {X : Type 0} → (X → List ℕ) → X → X → Type 0
HasOther name a b = name a ≡ name b → ⊥

abbrev pub IsOther : {X : Type 0} → X → X → Type 0
IsOther a b = a ≡ b → ⊥

pub other-name : {X : Type 0} (name : X → List ℕ) (a b : X) → IsLess (name a) (name b) → HasOther name a b
other-name name a b less = less-apart (name a) (name b) less

pub other-item : {X : Type 0} (name : X → List ℕ) (a b : X) → IsLess (name a) (name b) → IsOther a b
other-item name a b less same = less-apart (name a) (name b) less (ap name same)

-- ---- walks

-- a step appends items of the key, which are apart
abbrev pub Appends : {X : Type 0} → (X → List ℕ) → (X → X → Type 0) → (X → Type 0) → Found (List X) → List ℕ
    → Found (List X) → Type 0
Appends {X} name R Q found key more = (ys : List X)
    × ((more.content ≡ found.content ++ ys) × (All (λ y. name y ≡ key) ys × (AreApart R ys × All Q ys)))

abbrev pub Holds : {X : Type 0} → (X → X → Type 0) → (X → Type 0) → Found (List X) → Type 0
Holds R Q found = AreApart R found.content × All Q found.content

-- each name comes before each key that is still to come
abbrev AllBefore : {X : Type 0} → (X → List ℕ) → List X → Members → Type 0
AllBefore name xs no_members = Unit {0}
AllBefore name xs (member k d rest) = All (λ x. IsLess (name x) k) xs × AllBefore name xs rest

none-before : {X : Type 0} (name : X → List ℕ) (ms : Members) → AllBefore name [] ms
none-before name no_members = tt
none-before name (member k d rest) = (All-nil (λ x. IsLess (name x) k), none-before name rest)

more-before : {X : Type 0} (name : X → List ℕ) (xs ys : List X) (k : List ℕ) (ms : Members) → AllBefore name xs ms
    → All (λ y. name y ≡ k) ys → IsBelow k ms
    → AllBefore name (xs ++ ys) ms
more-before name xs ys k no_members h named below = tt
more-before name xs ys k (member l d rest) h named below = (
  All-append (λ x. IsLess (name x) l) xs ys h.0
      (All-weaker (λ y. name y ≡ k) (λ y. IsLess (name y) l) (λ y e. ap (λ n. slice_cmp nat_cmp n l) e ∙ below.0) ys
      named),
  more-before name xs ys k rest h.1 named below.1,
)

before-apart : {X : Type 0} (name : X → List ℕ) (R : X → X → Type 0) → ((a b : X) → IsLess (name a) (name b) → R a b)
    → (xs ys : List X) (k : List ℕ) → All (λ x. IsLess (name x) k) xs → All (λ y. name y ≡ k) ys
    → All (λ x. All (R x) ys) xs
before-apart name R apart xs ys k before named =
    All-weaker (λ x. IsLess (name x) k) (λ x. All (R x) ys)
    (λ x less. All-weaker (λ y. name y ≡ k) (R x) (λ y is. apart x y (ap (λ n. slice_cmp nat_cmp (name x) n) is ∙ less))
    ys named) xs before

-- the keys rise, and each value is of a kind
abbrev RiseWith : (Data → Type 0) → Members → Type 0
RiseWith D no_members = Unit {0}
RiseWith D (member k d ms) = IsBelow k ms × (D d × RiseWith D ms)

rising-with : (ms : Members) → Rising ms → RiseWith Rises ms
rising-with no_members h = tt
rising-with (member k d ms) h = (h.0, (h.1.0, rising-with ms h.1.1))

abbrev AnyData : Data → Type 0
AnyData d = Unit {0}

keys-with : (ms : Members) → KeysRise ms → RiseWith AnyData ms
keys-with no_members h = tt
keys-with (member k d ms) h = (h.0, (tt, keys-with ms h.1))

walk-holds : {X : Type 0} (name : X → List ℕ) (R : X → X → Type 0) (Q : X → Type 0) (D : Data → Type 0)
    → ((a b : X) → IsLess (name a) (name b) → R a b)
    → (read : Found (List X) → List ℕ → Data → Told (Found (List X)))
    → ((found : Found (List X)) (key : List ℕ) (d : Data) → D d
    → IfOk (read found key d) (Appends name R Q found key))
    → (found : Found (List X)) (ms : Members) → Holds R Q found → AllBefore name found.content ms → RiseWith D ms
    → IfOk (each_member read found ms) (Holds R Q)
walk-holds name R Q D apart read step found no_members h before rise = h
walk-holds name R Q D apart read step found (member key d rest) h before rise =
    bind-keeps (Appends name R Q found key) (Holds R Q) (read found key d) (λ more. each_member read more rest)
    (step found key d rise.1.0)
    (λ more (ys, (is, (named, (own, all)))). walk-holds name R Q D apart read step more rest
    (rw is (
      apart-append R found.content ys h.0 own (before-apart name R apart found.content ys key before.0 named),
      All-append Q found.content ys h.1 all,
    ))
    (rw is (more-before name found.content ys key rest before.1 named rise.0)) rise.1.1)

-- what a walk over a table whose keys rise makes of nothing
pub walk-apart : {X : Type 0} (name : X → List ℕ) (R : X → X → Type 0) (Q : X → Type 0)
    → ((a b : X) → IsLess (name a) (name b) → R a b)
    → (read : Found (List X) → List ℕ → Data → Told (Found (List X)))
    → ((found : Found (List X)) (key : List ℕ) (d : Data) → Rises d
    → IfOk (read found key d) (Appends name R Q found key))
    → (ms : Members) → Rising ms → IfOk (each_member read nothing ms) (Holds R Q)
walk-apart name R Q apart read step ms rise = walk-holds name R Q Rises apart read step nothing ms (tt, All-nil Q)
    (none-before name ms) (rising-with ms rise)

-- so does the walk over a table at a key
pub table-apart : {X : Type 0} (name : X → List ℕ) (R : X → X → Type 0) (Q : X → Type 0)
    → ((a b : X) → IsLess (name a) (name b) → R a b)
    → (read : Found (List X) → List ℕ → Data → Told (Found (List X)))
    → ((found : Found (List X)) (key : List ℕ) (d : Data) → Rises d
    → IfOk (read found key d) (Appends name R Q found key))
    → (path key : List ℕ) (ms : Members) → Rising ms
    → IfOk (table_at path key ms >>= each_member read nothing) (Holds R Q)
table-apart name R Q apart read step path key ms rise =
    bind-keeps Rising (Holds R Q) (table_at path key ms) (each_member read nothing) (table_at-rises path key ms rise)
    (walk-apart name R Q apart read step)

-- the same, where nothing is asked of the values
pub walk-keys : {X : Type 0} (name : X → List ℕ) (R : X → X → Type 0) (Q : X → Type 0)
    → ((a b : X) → IsLess (name a) (name b) → R a b)
    → (read : Found (List X) → List ℕ → Data → Told (Found (List X)))
    → ((found : Found (List X)) (key : List ℕ) (d : Data) → IfOk (read found key d) (Appends name R Q found key))
    → (ms : Members) → KeysRise ms → IfOk (each_member read nothing ms) (Holds R Q)
walk-keys name R Q apart read step ms rise =
    walk-holds name R Q AnyData apart read (λ found key d any. step found key d) nothing ms (tt, All-nil Q)
    (none-before name ms) (keys-with ms rise)
