-- How the packages of entries stand to a name.
use Rattle.std.proofs.Common.{◌≡◌, ℕ, zero, suc, ◌<◌, ◌≤◌, Bool, true, false, cond, List, [], ◌∷◌, map, length, get_or}
use Rattle.std.proofs.Common.{ltb, Ordering, Less, Equal, Greater, refl, sym, ap, ◌∙◌, arith}
use Rattle.std.specs.List.{filter, insert, remove, range_with_len, slice_get, cons_option}
use Rattle.std.specs.List.Sorted.{IsNonDecreasingBy, IsPartitionedBy, IsSortedBy}
use Rattle.std.specs.Ordering.{nat_cmp, is_eq, is_lt, is_le, ordering_index, ordering_reverse}
use Rattle.std.specs.Cmp.Lexicographic.{slice_cmp}
use Rattle.std.proofs.lemmas.Cmp.{nat_list_cmp_total}
use Rattle.std.proofs.lemmas.Slice.Eq.{bytes_eq-Decides}
use Rattle.std.proofs.lemmas.Map.Text.{is_eq-slice_cmp}
use Rattle.std.proofs.lemmas.List.Sorted.{searchable_from_sorted, IsPartitionedBy-ltb}
use Rattle.vet_entries.specs.declared.facts.HeldEntry.{HeldEntry}
use Rattle.vet_entries.specs.ByPackage.{stand, is_at, places_of, gathered, up, down, is_of}
use Rattle.vet_entries.proofs.Places.{filter-map, map_range}

abbrev pub R : List ℕ → List ℕ → Ordering
R = slice_cmp nat_cmp

pub stand_at : (entries : List HeldEntry) (name : List ℕ) (place : ℕ) (held : HeldEntry) → place < length entries
    → held ≡ get_or entries place held → R held.entry.«package» name ≡ stand entries name place
stand_at [] name place held l is = absurd (omega arith)
stand_at (x ∷ entries) name zero held l is = ap (λ (h : HeldEntry). R h.entry.«package» name) is
stand_at (x ∷ entries) name (suc place) held l is = stand_at entries name place held (omega arith) is

pub stand_past : (entries : List HeldEntry) (name : List ℕ) (place : ℕ) → length entries ≤ place
    → Greater ≡ stand entries name place
stand_past [] name place l = refl
stand_past (x ∷ entries) name zero l = absurd (omega arith)
stand_past (x ∷ entries) name (suc place) l = stand_past entries name place (omega arith)

-- ---- after an edit

pub stand_up : (entries : List HeldEntry) (at : ℕ) (held : HeldEntry) (name : List ℕ) (place : ℕ) → at ≤ length entries
    → stand (insert entries at held) name (up at place) ≡ stand entries name place
stand_up entries zero held name place l = refl
stand_up [] (suc at) held name place l = absurd (omega arith)
stand_up (x ∷ entries) (suc at) held name zero l = refl
stand_up (x ∷ entries) (suc at) held name (suc place) l = stand_up entries at held name place (omega arith)

pub stand_new : (entries : List HeldEntry) (at : ℕ) (held : HeldEntry) (name : List ℕ) → at ≤ length entries
    → stand (insert entries at held) name at ≡ R held.entry.«package» name
stand_new entries zero held name l = refl
stand_new [] (suc at) held name l = absurd (omega arith)
stand_new (x ∷ entries) (suc at) held name l = stand_new entries at held name (omega arith)

pub stand_down : (entries : List HeldEntry) (at : ℕ) (name : List ℕ) (place : ℕ) → at < length entries
    → (place ≡ at → ⊥) → stand (remove entries at) name (down at place) ≡ stand entries name place
stand_down [] at name place l other = absurd (omega arith)
stand_down (x ∷ entries) zero name zero l other = absurd (other refl)
stand_down (x ∷ entries) zero name (suc place) l other = refl
stand_down (x ∷ entries) (suc at) name zero l other = refl
stand_down (x ∷ entries) (suc at) name (suc place) l other = stand_down entries at name place (omega arith)
    (λ e. other (ap suc e))

-- ---- orders

-- a name that stands no higher than another stands to each name no higher
pub stands_no_higher : (a b name : List ℕ) → ordering_index (R a b) ≤ 1
    → ordering_index (R a name) ≤ ordering_index (R b name)
stands_no_higher a b name h = searchable_from_sorted nat_list_cmp_total (λ x. x) (a ∷ b ∷ []) name up 0 1 a
    (omega arith) (omega arith)
  where
    turned : (r s : Ordering) → ordering_index r ≤ 1 → r ≡ ordering_reverse s → is_lt s ≡ false
    turned r Less h e = absurd (omega (arith, h, ap ordering_index e))
    turned r Equal h e = refl
    turned r Greater h e = refl

    up : IsSortedBy (λ x y. is_lt (R x y)) (a ∷ b ∷ [])
    up zero d l m = turned (R a b) (R b a) h (nat_list_cmp_total.antisymm a b)
    up (suc k) d l m = absurd (omega arith)

-- ---- what is gathered

gathered_suc : (x : HeldEntry) (entries : List HeldEntry) (places : List ℕ) → gathered (x ∷ entries) (map suc places)
    ≡ gathered entries places
gathered_suc x entries [] = refl
gathered_suc x entries (p ∷ places) = ap (λ rest. cons_option (slice_get entries p) rest)
    (gathered_suc x entries places)

pub places_of_cons : (x : HeldEntry) (entries : List HeldEntry) (name : List ℕ)
    → places_of (x ∷ entries) name ≡ cond (is_of name x) (0 ∷ map suc (places_of entries name))
    (map suc (places_of entries name))
places_of_cons x entries name =
    let rest : filter (is_at (x ∷ entries) name) (range_with_len 1 (length entries)) ≡ map suc (places_of entries name)
    =
    ap (filter (is_at (x ∷ entries) name)) (sym (map_range suc 0 1 (length entries) (λ k l. omega arith)))
    ∙ filter-map (is_at (x ∷ entries) name) (is_at entries name) suc (range_with_len 0 (length entries)) (λ k d l. refl)
    in
    ap (λ b. cond b (0 ∷ filter (is_at (x ∷ entries) name) (range_with_len 1 (length entries)))
    (filter (is_at (x ∷ entries) name) (range_with_len 1 (length entries))))
    (is_eq-slice_cmp x.entry.«package» name)
    ∙ ap (λ (ps : List ℕ). cond (is_of name x) (0 ∷ ps) ps) rest

-- the entries at a package's places are the package's entries
pub gathered_of : (entries : List HeldEntry) (name : List ℕ) → gathered entries (places_of entries name)
    ≡ filter (is_of name) entries
gathered_of [] name = refl
gathered_of (x ∷ entries) name =
    ap (gathered (x ∷ entries)) (places_of_cons x entries name)
    ∙ step (gathered_suc x entries (places_of entries name) ∙ gathered_of entries name) (is_of name x)
  where
    step : gathered (x ∷ entries) (map suc (places_of entries name)) ≡ filter (is_of name) entries → (b : Bool)
        → gathered (x ∷ entries) (cond b (0 ∷ map suc (places_of entries name)) (map suc (places_of entries name)))
        ≡ cond b (x ∷ filter (is_of name) entries) (filter (is_of name) entries)
    step rest true = ap (λ (hs : List HeldEntry). x ∷ hs) rest
    step rest false = rest

-- ---- what parts an order

is_lt-ltb : (r : Ordering) → is_lt r ≡ ltb (ordering_index r) 1
is_lt-ltb Less = refl
is_lt-ltb Equal = refl
is_lt-ltb Greater = refl

is_le-ltb : (r : Ordering) → is_le r ≡ ltb (ordering_index r) 2
is_le-ltb Less = refl
is_le-ltb Equal = refl
is_le-ltb Greater = refl

parted : (f : ℕ → Ordering) (test : Ordering → Bool) (t : ℕ) (order : List ℕ)
    → ((r : Ordering) → test r ≡ ltb (ordering_index r) t) → IsNonDecreasingBy (λ place. ordering_index (f place)) order
    → IsPartitionedBy (λ place. test (f place)) order
parted f test t order same up i j d le l h =
    same (f (get_or order i d)) ∙ IsPartitionedBy-ltb (λ place. ordering_index (f place)) order t up i j d le l
    (sym (same (f (get_or order j d))) ∙ h)

pub parted_lt : (f : ℕ → Ordering) (order : List ℕ) → IsNonDecreasingBy (λ place. ordering_index (f place)) order
    → IsPartitionedBy (λ place. is_lt (f place)) order
parted_lt f order = parted f is_lt 1 order is_lt-ltb

pub parted_le : (f : ℕ → Ordering) (order : List ℕ) → IsNonDecreasingBy (λ place. ordering_index (f place)) order
    → IsPartitionedBy (λ place. is_le (f place)) order
parted_le f order = parted f is_le 2 order is_le-ltb

-- how an entry stands to a name, told by how it stands to a new one
pub stands_to_new : (entries : List HeldEntry) (new name : List ℕ) (place : ℕ)
    → (ordering_index (stand entries new place) ≤ 1
    → ordering_index (stand entries name place) ≤ ordering_index (R new name))
    × (1 ≤ ordering_index (stand entries new place)
    → ordering_index (R new name) ≤ ordering_index (stand entries name place))
stands_to_new [] new name place = (λ h. absurd (omega (arith, h)), λ h. at_most (R new name))
  where
    at_most : (r : Ordering) → ordering_index r ≤ 2
    at_most Less = omega arith
    at_most Equal = omega arith
    at_most Greater = omega arith
stands_to_new (x ∷ entries) new name zero = (
  λ h. stands_no_higher x.entry.«package» new name h,
  λ h. stands_no_higher new x.entry.«package» name
      (turned (R new x.entry.«package») (R x.entry.«package» new) h
      (nat_list_cmp_total.antisymm new x.entry.«package»)),
)
  where
    turned : (r s : Ordering) → 1 ≤ ordering_index s → r ≡ ordering_reverse s → ordering_index r ≤ 1
    turned r Less h e = absurd (omega (arith, h))
    turned r Equal h e = omega (arith, ap ordering_index e)
    turned r Greater h e = omega (arith, ap ordering_index e)
stands_to_new (x ∷ entries) new name (suc place) = stands_to_new entries new name place

pub same_name : (a b : List ℕ) → is_eq (R a b) ≡ true → a ≡ b
same_name a b h = (bytes_eq-Decides a b).0 (sym (is_eq-slice_cmp a b) ∙ h)
