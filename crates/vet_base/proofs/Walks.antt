-- What the walks over a table have found.
use Rattle.std.proofs.Common.{◌≡◌, ℕ, ◌<◌, ◌≤◌, Bool, true, false, ◌||◌, ◌==◌, not, List, [], length, get_or}
use Rattle.std.proofs.Common.{Some, None, sym, ap, ◌∙◌, arith}
use Rattle.std.specs.List.{Contains, find, position_or_len}
use Rattle.std.specs.Ordering.{nat_cmp, eq_by_cmp}
use Rattle.std.specs.Cmp.{nat_cmp_total, unsigned_tied}
use Rattle.std.specs.FinSet as set
use Rattle.std.specs.FinSet.{FinSet}
use Rattle.std.proofs.lemmas.List.{get_or_default}
use Rattle.std.proofs.lemmas.List.Folds.{Any-from_list_any, find_at}
use Rattle.std.proofs.lemmas.List.Sums.{position_or_len_is}
use Rattle.std.proofs.lemmas.Option.{slice_get-get_or, slice_get_past}
use Rattle.vet_base.specs.Names.{NameSet, members}
use Rattle.vet_base.specs.NamesLaws.{any-members}
use Rattle.vet_base.proofs.Rising.{R, equal-from_eq}

-- ---- a first one

pub find_first : (p : List ℕ → Bool) (xs : List (List ℕ)) (i : ℕ) (x : List ℕ) → i < length xs
    → ((k : ℕ) → k < i → p (get_or xs k []) ≡ false) → get_or xs i [] ≡ x → p x ≡ true → find p xs ≡ Some x
find_first p xs i x l none at here =
    let is : position_or_len p xs ≡ i = position_or_len_is p xs i [] (omega (arith, l)) none (λ _. ap p at ∙ here) in
    find_at p xs ∙ rw is (slice_get-get_or xs i [] l ∙ ap Some at)

pub find_none : (p : List ℕ → Bool) (xs : List (List ℕ)) → ((k : ℕ) → k < length xs → p (get_or xs k []) ≡ false)
    → find p xs ≡ None
find_none p xs none =
    let is : position_or_len p xs ≡ length xs =
    position_or_len_is p xs (length xs) [] (omega arith) none (λ l. absurd (omega (arith, l))) in
    find_at p xs ∙ rw is (slice_get_past xs (length xs) (omega arith))

-- a walk over the same list as it is lent comes to its item at a place
pub walked : (xs lent : List (List ℕ)) (i : ℕ) (x : List ℕ) → lent ≡ xs → i < length lent → x ≡ get_or lent i x
    → (i < length xs) × (get_or xs i [] ≡ x)
walked xs lent i x is low at =
    let l : i < length xs = rw is at low in
    (l, get_or_default xs i [] x l ∙ sym (at ∙ ap (λ ys. get_or ys i x) is))

-- the first that a test lacks
pub first_lacked : (test : List ℕ → Bool) (xs lent : List (List ℕ)) (i : ℕ) (x : List ℕ) → lent ≡ xs
    → i < length lent → x ≡ get_or lent i x → ((k : ℕ) → k < i → test (get_or xs k []) ≡ true) → test x ≡ false
    → find (λ n. not (test n)) xs ≡ Some x
first_lacked test xs lent i x is low at held lacks =
    let here = walked xs lent i x is low at in
    find_first (λ n. not (test n)) xs i x here.0 (λ k m. ap not (held k m)) here.1 (ap not lacks)

pub none_lacked : (test : List ℕ → Bool) (xs lent : List (List ℕ)) (i : ℕ) → lent ≡ xs → length lent ≤ i
    → ((k : ℕ) → k < i → test (get_or xs k []) ≡ true) → find (λ n. not (test n)) xs ≡ None
none_lacked test xs lent i is past held =
    find_none (λ n. not (test n)) xs (λ k m. ap not (held k (omega (arith, m, ap length is, past))))

-- ---- the members of a set

pub among_members : (s : NameSet) (n : List ℕ) → set.contains s n ≡ true → Contains (members s) n
among_members s n h =
    let a = Any-from_list_any (eq_by_cmp R n) (members s) (any-members s n ∙ h) in
    (a.0, a.2, get_or_default (members s) a.0 n a.1 a.2 ∙ a.3 ∙ sym (equal-from_eq n a.1 a.4))

-- ---- one more place

pub one_more_is : (places : FinSet nat_cmp) (p q : ℕ) → set.contains (set.insert places p) q
    ≡ ((q == p) || set.contains places q)
one_more_is places p q =
    set.contains-insert nat_cmp_total places p q ∙ ap (λ b. b || set.contains places q) (unsigned_tied q p)
