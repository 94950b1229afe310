-- How many criteria sets have.
use Rattle.std.proofs.Common.{◌≡◌, ℕ, zero, suc, ◌+◌, ◌*◌, ◌<◌, ◌≤◌, Bool, true, false, ◌||◌, cond, List, [], ◌∷◌, ◌++◌}
use Rattle.std.proofs.Common.{length, get_or}
use Rattle.std.proofs.Common.{◌⊎◌, Option, Some, None, eq-eqb, set as setn, refl, sym, ◌∙◌, arith, inl, inr}
use Rattle.std.specs.FinSet as set
use Rattle.std.specs.Cmp.{nat_cmp_total}
use Rattle.std.proofs.Math.Nat.{mul-le-mul_right, suc-mul, mul-add}
use Rattle.std.proofs.lemmas.Bool.{cases_eq, false≢true, ne_eqb}
use Rattle.std.proofs.lemmas.List.{get_or-set_same, get_or-set_other}
use Rattle.vet_base.specs.CriteriaSet.{has, Places}
use Rattle.vet_base.specs.CriteriaSetLaws.{same_places}
use Rattle.vet_base.specs.declared.limits.TheConstants.{MOST_CRITERIA as most}
use Rattle.vet_masks.specs.declared.index.Ends.{Ends}
use Rattle.vet_masks.specs.Index.{is_from, places_from}
use Rattle.vet_masks.specs.Masks.{filled, paid, size, spent}

one_if-le : (a b : Bool) → (a ≡ true → b ≡ true) → cond a 1 0 ≤ cond b 1 0
one_if-le false b h = omega arith
one_if-le true true h = omega arith
one_if-le true false h = absurd (false≢true (h refl))

one_if-most : (a : Bool) → cond a 1 0 ≤ 1
one_if-most true = omega arith
one_if-most false = omega arith

none_is : (a : Bool) → a ≡ false → cond a 1 0 ≤ 0
none_is false h = omega arith
none_is true h = absurd (false≢true (sym h))

one_is : (a : Bool) → a ≡ true → 1 ≤ cond a 1 0
one_is true h = omega arith
one_is false h = absurd (false≢true h)

pub size-le : (n : ℕ) (s t : Places) → ((c : ℕ) → has c s ≡ true → has c t ≡ true) → size n s ≤ size n t
unfolding size
size-le zero s t h = omega arith
size-le (suc n) s t h = omega (arith, size-le n s t h, one_if-le (has n s) (has n t) (h n))

pub size-most : (n : ℕ) (s : Places) → size n s ≤ n
unfolding size
size-most zero s = omega arith
size-most (suc n) s = omega (arith, size-most n s, one_if-most (has n s))

-- one more makes it greater
pub size-lt : (n p : ℕ) (s t : Places) → p < n → has p s ≡ false → has p t ≡ true
    → ((c : ℕ) → has c s ≡ true → has c t ≡ true) → size n s < size n t
unfolding size
size-lt zero p s t l a b h = absurd (omega arith)
size-lt (suc n) p s t l a b h = elim (cases_eq p n) [
  | inl same ↦ omega (arith, size-le n s t h, none_is (has n s) (rw same at a), one_is (has n t) (rw same at b))
  | inr other ↦ omega (arith, size-lt n p s t (omega (arith, other)) a b h, one_if-le (has n s) (has n t) (h n))
]

or_left : (a b : Bool) → a ≡ true → (a || b) ≡ true
or_left true b h = refl
or_left false b h = absurd (false≢true h)

or_right : (a b : Bool) → b ≡ true → (a || b) ≡ true
or_right true b h = refl
or_right false b h = h

or_cases : (a b : Bool) → (a || b) ≡ true → (a ≡ true) ⊎ (b ≡ true)
or_cases true b h = inl refl
or_cases false b h = inr h

pub has-union_left : (s t : Places) (c : ℕ) → has c s ≡ true → has c (set.union s t) ≡ true
has-union_left s t c h = set.contains-union nat_cmp_total s t c ∙ or_left _ _ h

pub has-union_right : (s t : Places) (c : ℕ) → has c t ≡ true → has c (set.union s t) ≡ true
has-union_right s t c h = set.contains-union nat_cmp_total s t c ∙ or_right _ _ h

pub has-union_cases : (s t : Places) (c : ℕ) → has c (set.union s t) ≡ true → (has c s ≡ true) ⊎ (has c t ≡ true)
has-union_cases s t c h = or_cases _ _ (sym (set.contains-union nat_cmp_total s t c) ∙ h)

-- what is within adds nothing
pub union-within : (s t : Places) → ((c : ℕ) → has c t ≡ true → has c s ≡ true) → set.union s t ≡ s
union-within s t h = same_places _ _ (λ c. set.contains-union nat_cmp_total s t c ∙ here (has c s) (has c t) (h c))
  where
    here : (a b : Bool) → (b ≡ true → a ≡ true) → (a || b) ≡ a
    here true b h = refl
    here false true h = absurd (false≢true (h refl))
    here false false h = refl

-- one set in place of another
pub filled-set : (xs : List Places) (i : ℕ) (y : Places) → i < length xs
    → filled (setn xs i y) + size most (get_or xs i set.empty) ≡ filled xs + size most y
unfolding filled
filled-set [] i y l = absurd (omega arith)
filled-set (x ∷ xs) zero y l = omega arith
filled-set (x ∷ xs) (suc i) y l = omega (arith, filled-set xs i y (omega arith))

pub filled-le : (xs : List Places) → filled xs ≤ most * length xs
unfolding filled
filled-le [] = omega arith
filled-le (x ∷ xs) = omega (arith, size-most most x, filled-le xs)

-- one more time at least
pub times-more : (a b l : ℕ) → a < b → a * l + l ≤ b * l
times-more a b l h = (let at : suc a * l ≤ b * l = mul-le-mul_right l (omega (arith, h)) in
    omega (arith, at, suc-mul a l))

more_times : (a l : ℕ) → a * suc l ≡ a * l + a
more_times a l = omega (arith, mul-add a 1 l)

spent-set_at : (u : ℕ) (xs : List Places) (i : ℕ) (y : Places) (place : ℕ) (e : Ends) (rest : List Ends) → i < length xs
    → (o : Option ℕ) → o ≡ e.origin
    → spent u (setn xs i y) rest + size most (get_or xs i set.empty) * length (places_from (place + 1) i rest)
    ≡ spent u xs rest + size most y * length (places_from (place + 1) i rest)
    → (paid u (setn xs i y) o + spent u (setn xs i y) rest)
    + size most (get_or xs i set.empty) * length
    (cond (is_from i o) (place ∷ places_from (place + 1) i rest) (places_from (place + 1) i rest))
    ≡ (paid u xs o + spent u xs rest)
    + size most y * length
    (cond (is_from i o) (place ∷ places_from (place + 1) i rest) (places_from (place + 1) i rest))
spent-set_at u xs i y place e rest l None o h = omega (arith, h)
spent-set_at u xs i y place e rest l (Some m) o h = elim (cases_eq m i) [
  | inl same ↦ rw (same, eq-eqb i i refl, get_or-set_same xs i y set.empty l)
      (omega (
        arith,
        h,
        more_times (size most (get_or xs i set.empty)) (length (places_from (place + 1) i rest)),
        more_times (size most y) (length (places_from (place + 1) i rest)),
      ))
  | inr other ↦ rw (ne_eqb m i other, get_or-set_other xs i m y set.empty other) (omega (arith, h))
]

-- one set in place of another changes what was spent at the steps from there
pub spent-set : (u : ℕ) (xs : List Places) (i : ℕ) (y : Places) (place : ℕ) (ends : List Ends) → i < length xs
    → spent u (setn xs i y) ends + size most (get_or xs i set.empty) * length (places_from place i ends)
    ≡ spent u xs ends + size most y * length (places_from place i ends)
unfolding spent places_from
spent-set u xs i y place [] l = omega arith
spent-set u xs i y place (e ∷ rest) l =
    spent-set_at u xs i y place e rest l e.origin refl (spent-set u xs i y (place + 1) rest l)

-- to pass on something more is to spend as much
pub spent-more : (u : ℕ) (xs : List Places) (i : ℕ) (y : Places) (ends : List Ends) → i < length xs
    → size most (get_or xs i set.empty) < size most y
    → spent u xs ends + length (places_from 0 i ends) ≤ spent u (setn xs i y) ends
spent-more u xs i y ends l more = omega (
  arith,
  spent-set u xs i y 0 ends l,
  times-more (size most (get_or xs i set.empty)) (size most y) (length (places_from 0 i ends)) more,
)

pub paid-le : (k u : ℕ) (xs : List Places) (o : Option ℕ) → u ≤ k
    → ((i : ℕ) → size most (get_or xs i set.empty) ≤ k) → paid u xs o ≤ k
paid-le k u xs None l h = l
paid-le k u xs (Some i) l h = h i

-- no more is spent than all steps as often as there are criteria
pub spent-le : (k u : ℕ) (xs : List Places) (ends : List Ends) → u ≤ k
    → ((i : ℕ) → size most (get_or xs i set.empty) ≤ k) → spent u xs ends ≤ k * length ends
unfolding spent
spent-le k u xs [] l h = omega arith
spent-le k u xs (e ∷ rest) l h =
    omega (arith, paid-le k u xs e.origin l h, spent-le k u xs rest l h, more_times k (length rest))

pub paid-grows : (u v : ℕ) (xs ys : List Places) (o : Option ℕ) → u ≤ v
    → ((i : ℕ) → size most (get_or xs i set.empty) ≤ size most (get_or ys i set.empty)) → paid u xs o ≤ paid v ys o
paid-grows u v xs ys None l h = l
paid-grows u v xs ys (Some i) l h = h i

-- where more was passed on, more was spent
pub spent-grows : (u v : ℕ) (xs ys : List Places) (ends : List Ends) → u ≤ v
    → ((i : ℕ) → size most (get_or xs i set.empty) ≤ size most (get_or ys i set.empty))
    → spent u xs ends ≤ spent v ys ends
unfolding spent
spent-grows u v xs ys [] l h = omega arith
spent-grows u v xs ys (e ∷ rest) l h =
    omega (arith, paid-grows u v xs ys e.origin l h, spent-grows u v xs ys rest l h)

pub spent-push : (u : ℕ) (xs : List Places) (ends : List Ends) (e : Ends)
    → spent u xs (ends ++ e ∷ []) ≡ spent u xs ends + paid u xs e.origin
unfolding spent
spent-push u xs [] e = omega arith
spent-push u xs (f ∷ rest) e = omega (arith, spent-push u xs rest e)
