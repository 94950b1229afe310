-- The demanded pairs of a package stand side by side.
use Rattle.std.proofs.Common.{◌≡◌, ◌⊎◌, ◌+◌, ◌<◌, ◌≤◌, ℕ, Bool, true, false, inl, inr, List, drop, filter}
use Rattle.std.proofs.Common.{get_or, length}
use Rattle.std.proofs.Common.{ltb, ltb-false, ltb-true, refl, sym, ap, take, ◌∙◌, ◌++◌, arith}
use Rattle.std.specs.Cmp.{tied_itself}
use Rattle.std.specs.Cmp.Lexicographic.{nat_list_cmp_total, slice_cmp}
use Rattle.std.specs.List.Sorted.{IsPartitionedBy, IsPartitionPoint}
use Rattle.std.specs.Ordering.{is_eq, is_le, is_lt, nat_cmp, ordering_then}
use Rattle.std.specs.Str.{bytes_eq}
use Rattle.std.specs.declared.cmp.Ordering.{Ordering}
use Rattle.std.specs.declared.cmp.Ordering.TheVariants.{Less, Equal, Greater}
use Rattle.std.proofs.lemmas.Bool.{cases_Bool, false≢true}
use Rattle.std.proofs.lemmas.List.{get_or-drop, get_or-take, length-drop, length-take, take-append-drop}
use Rattle.std.proofs.lemmas.List.Elements.{filter-append}
use Rattle.vet_base.proofs.ListLemmas.{filter_drops, kept_front}
use Rattle.vet_base.specs.Words.{Name}
use Rattle.vet_demand.specs.declared.pair.Pair.{Pair}
use Rattle.vet_demand.specs.Pair.{IsInOrder, pair_cmp}
use Rattle.vet_masks.proofs.Parts.{is-named, other-named}
use Rattle.vet_masks.proofs.Standings.{same_name}

-- how a package stands to a name
abbrev pub to_name : Name → Pair → Ordering
to_name name p = slice_cmp nat_cmp p.«package» name

then_greater : (o s : Ordering) → o ≡ Greater → ordering_then o s ≡ Greater
then_greater o s e = ap (λ x. ordering_then x s) e

-- a pair before another is of the same package, or of one before its
package-first_or_same : (p q : Pair) → pair_cmp p q ≡ Less
    → (slice_cmp nat_cmp p.«package» q.«package» ≡ Less) ⊎ (p.«package» ≡ q.«package»)
package-first_or_same p q e = by (slice_cmp nat_cmp p.«package» q.«package») refl
  where
    by : (o : Ordering) → slice_cmp nat_cmp p.«package» q.«package» ≡ o
        → (slice_cmp nat_cmp p.«package» q.«package» ≡ Less) ⊎ (p.«package» ≡ q.«package»)
    by Less is = inl is
    by Equal is = inr (same_name p.«package» q.«package» (ap is_eq is))
    by Greater is = absurd (let behind : pair_cmp p q ≡ Greater =
        then_greater (slice_cmp nat_cmp p.«package» q.«package») _ is in
        let both : Greater ≡ Less = sym behind ∙ e in cc both)

-- pairs in order are parted by a test that a package passes wherever one behind it does
parted : (name : Name) (test : Ordering → Bool)
    → ((a b : Name) → slice_cmp nat_cmp a b ≡ Less → test (slice_cmp nat_cmp b name) ≡ true
    → test (slice_cmp nat_cmp a name) ≡ true)
    → (pairs : List Pair) → IsInOrder pairs → IsPartitionedBy (λ p. test (to_name name p)) pairs
parted name test step pairs order i j d le l h = elim (cases_Bool (ltb i j)) [
  | inl before ↦ elim (package-first_or_same (get_or pairs i d) (get_or pairs j d)
      (order i j d (ltb-true i j before) l)) [
        | inl first ↦ step (get_or pairs i d).«package» (get_or pairs j d).«package» first h
        | inr same ↦ ap (λ n. test (slice_cmp nat_cmp n name)) same ∙ h
      ]
  | inr same ↦ (let not_before = ltb-false i j same in let e : i ≡ j = omega (arith, le, not_before) in
      ap (λ k. test (to_name name (get_or pairs k d))) e ∙ h)
]

pub parted_lt : (name : Name) (pairs : List Pair) → IsInOrder pairs
    → IsPartitionedBy (λ p. is_lt (to_name name p)) pairs
parted_lt name = parted name is_lt
    (λ a b first h. by a b first (slice_cmp nat_cmp b name) refl h)
  where
    by : (a b : Name) → slice_cmp nat_cmp a b ≡ Less → (o : Ordering) → slice_cmp nat_cmp b name ≡ o → is_lt o ≡ true
        → is_lt (slice_cmp nat_cmp a name) ≡ true
    by a b first Less is h = ap is_lt (nat_list_cmp_total.trans a b name first is)
    by a b first Equal is h = absurd (false≢true h)
    by a b first Greater is h = absurd (false≢true h)

pub parted_le : (name : Name) (pairs : List Pair) → IsInOrder pairs
    → IsPartitionedBy (λ p. is_le (to_name name p)) pairs
parted_le name = parted name is_le
    (λ a b first h. by a b first (slice_cmp nat_cmp b name) refl h)
  where
    by : (a b : Name) → slice_cmp nat_cmp a b ≡ Less → (o : Ordering) → slice_cmp nat_cmp b name ≡ o → is_le o ≡ true
        → is_le (slice_cmp nat_cmp a name) ≡ true
    by a b first Less is h = ap is_le (nat_list_cmp_total.trans a b name first is)
    by a b first Equal is h =
        ap (λ n. is_le (slice_cmp nat_cmp a n)) (sym (same_name b name (ap is_eq is))) ∙ ap is_le first
    by a b first Greater is h = absurd (false≢true h)

-- ---- what stands between the two points

lt-differs : (a name : Name) → is_lt (slice_cmp nat_cmp a name) ≡ true → bytes_eq a name ≡ false
lt-differs a name h = other-named a name
    (λ e. false≢true (sym (ap (λ n. is_lt (slice_cmp nat_cmp n name)) e
    ∙ ap is_lt (tied_itself nat_list_cmp_total name))
    ∙ h))

not_le-differs : (a name : Name) → is_le (slice_cmp nat_cmp a name) ≡ false → bytes_eq a name ≡ false
not_le-differs a name h = other-named a name
    (λ e. false≢true (sym h ∙ ap (λ n. is_le (slice_cmp nat_cmp n name)) e
    ∙ ap is_le (tied_itself nat_list_cmp_total name)))

tied : (a name : Name) (o : Ordering) → slice_cmp nat_cmp a name ≡ o → is_lt o ≡ false → is_le o ≡ true
    → bytes_eq a name ≡ true
tied a name Less is lt le = absurd (false≢true (sym lt))
tied a name Equal is lt le = is-named a name (same_name a name (ap is_eq is))
tied a name Greater is lt le = absurd (false≢true le)

-- the pairs of a package are those behind all packages before it and up to it
pub range-is : (name : Name) (pairs : List Pair) (low count : ℕ) → low ≤ length pairs
    → IsPartitionPoint (λ p. is_lt (to_name name p) ≡ true) (λ p. is_lt (to_name name p) ≡ false) pairs low
    → count ≤ length (drop low pairs)
    → IsPartitionPoint (λ p. is_le (to_name name p) ≡ true) (λ p. is_le (to_name name p) ≡ false) (drop low pairs) count
    → take count (drop low pairs) ≡ filter (λ (p : Pair). bytes_eq p.«package» name) pairs
range-is name pairs low count within point inside upper =
    let is_of : Pair → Bool = λ p. bytes_eq p.«package» name in
    let front = filter_drops is_of (take low pairs) (λ k d l.
    (let below : k < low = omega (arith, l, length-take low pairs) in
    lt-differs (get_or (take low pairs) k d).«package» name
    (ap (λ (p : Pair). is_lt (to_name name p)) (get_or-take low pairs k d below) ∙ point.0 k d (omega arith) below))) in
    let behind = kept_front is_of (drop low pairs) count inside (
      λ k d from l. (let there : low + k < length pairs = omega (arith, l, inside, length-drop low pairs) in
          tied (get_or (drop low pairs) k d).«package» name _ refl
          (ap (λ (p : Pair). is_lt (to_name name p)) (get_or-drop low pairs k d)
          ∙ point.1 (low + k) d (omega arith) there) (upper.0 k d from l)),
      λ k d from l. not_le-differs (get_or (drop low pairs) k d).«package» name (upper.1 k d from l),
    ) in
    sym (ap (filter is_of) (sym (take-append-drop low pairs)) ∙ filter-append is_of (take low pairs) (drop low pairs)
    ∙ ap (λ l. l ++ filter is_of (drop low pairs)) front ∙ behind)
