-- What follows where no name is unknown, and that names alone are as many as the criteria of these names.
use Rattle.std.proofs.Common.{◌≡◌, ◌∙◌, ℕ, Bool, false, not, List, [], ◌∷◌, map, Option, Some, None, Ok, refl, sym, ap}
use Rattle.std.proofs.Common.{inl, inr}
use Rattle.std.specs.Cmp.Lexicographic.{slice_cmp}
use Rattle.std.specs.FinMap as table
use Rattle.std.specs.FinSet as set
use Rattle.std.specs.List.{All, find, list_any}
use Rattle.std.specs.Ordering.{is_lt, nat_cmp}
use Rattle.std.specs.Prelude.{fold, nat_lt}
use Rattle.std.proofs.lemmas.Bool.{cases_Bool}
use Rattle.std.proofs.lemmas.List.Elements.{All-cons, All-head, All-map, All-nil, All-tail}
use Rattle.vet_base.specs.declared.criterion.Criterion.{Criterion}
use Rattle.vet_base.specs.declared.limits.TheConstants.{MOST_CRITERIA}
use Rattle.vet_base.specs.Criteria.{Criteria}
use Rattle.vet_base.specs.CriteriaChanges.{is_built_in}
use Rattle.vet_base.specs.Defined.{defined, least_implied, least_undefined, lesser, table_told}
use Rattle.vet_base.specs.Names.{NameSet, members}
use Rattle.vet_base.proofs.DefinedTables.{built_in_names, defined_len, defined_names, with_names}
use Rattle.vet_base.proofs.Rising.{IsRising-nil, members-from_list}
use Rattle.vet_register.specs.NamesOfFiles.{counted, named_alone, or_unknown}

-- none is the lesser where both are none
pub lesser-None : (a b : Option (List ℕ)) → lesser a b ≡ None → (a ≡ None) × (b ≡ None)
lesser-None None b e = (refl, e)
lesser-None (Some a) None e = cc e
lesser-None (Some a) (Some b) e = elim (cases_Bool (is_lt (slice_cmp nat_cmp b a))) [
  | inl below ↦ let e' = rw below at e in cc e'
  | inr above ↦ let e' = rw above at e in cc e'
]

-- where no name is unknown of one handed in and of some things, none was handed in, and each of them names known
-- ones alone
module _ {X : Type 0} (known : List ℕ → Bool) (names : X → NameSet) where
  abbrev pub HasKnown : X → Type 0
  HasKnown x = find (λ n. not (known n)) (members (names x)) ≡ None

  pub none_left : (least : Option (List ℕ)) (xs : List X) → fold (λ least x. or_unknown known least (names x)) least
      xs ≡ None → (least ≡ None) × All HasKnown xs
  none_left least [] e = (e, All-nil HasKnown)
  none_left least (x ∷ xs) e =
      let rest = none_left (or_unknown known least (names x)) xs e in
      let both = lesser-None least (find (λ n. not (known n)) (members (names x))) rest.0 in
      (both.0, All-cons HasKnown x xs both.1 rest.1)

-- ---- the table of some criteria

none_built_in : (cs : List Criterion) → All (λ c. is_built_in c.name ≡ false) cs → list_any (λ c. is_built_in c.name)
    cs ≡ false
none_built_in [] h = refl
none_built_in (c ∷ cs) h = rw (
  All-head (λ c. is_built_in c.name ≡ false) c cs h,
  none_built_in cs
      (All-tail (λ c. is_built_in c.name ≡ false) c cs h),
) refl

-- criteria that are few, imply known ones alone and are not built in have a table
pub table_of : (cs : List Criterion) → nat_lt MOST_CRITERIA (table.len (defined cs)) ≡ false → least_undefined
    (table.contains_key (defined cs)) cs ≡ None
    → All (λ c. is_built_in c.name ≡ false) cs → table_told cs ≡ Ok (defined cs)
table_of cs few implied further = rw (few, implied, none_built_in cs further) refl

-- as many criteria as a table has
pub few_counted : (t : Criteria) → counted t ≡ Ok tt → nat_lt MOST_CRITERIA (table.len t) ≡ false
few_counted t e = elim (cases_Bool (nat_lt MOST_CRITERIA (table.len t))) [
  | inl many ↦ let e' = rw many at e in cc e'
  | inr few ↦ few
]

-- ---- names alone

same_names : (names : NameSet) (cs : List Criterion) → with_names names (map named_alone cs) ≡ with_names names cs
same_names names [] = refl
same_names names (c ∷ cs) = same_names (set.insert names c.name) cs

pub alone_has : (cs : List Criterion) (n : List ℕ) → table.contains_key (defined (map named_alone cs)) n ≡
    table.contains_key (defined cs) n
alone_has cs n = sym (defined_names (map named_alone cs) n) ∙ ap (λ names. set.contains names n)
    (same_names built_in_names cs) ∙ defined_names cs n

pub alone_len : (cs : List Criterion) → table.len (defined (map named_alone cs)) ≡ table.len (defined cs)
alone_len cs = sym (defined_len (map named_alone cs)) ∙ ap set.len (same_names built_in_names cs) ∙ defined_len cs

none_implied : (known : List ℕ → Bool) → find (λ n. not (known n)) (members set.empty) ≡ None
none_implied known = ap (find (λ n. not (known n))) (members-from_list [] IsRising-nil)

alone_implies : (known : List ℕ → Bool) (least : Option (List ℕ)) (cs : List Criterion) → least ≡ None
    → fold (λ least c. lesser least (least_implied known c)) least (map named_alone cs) ≡ None
alone_implies known least [] e = e
alone_implies known least (c ∷ cs) e = alone_implies known (lesser least (least_implied known (named_alone c))) cs
    (λ i. lesser (e i) (none_implied known i))

-- names alone have a table where the criteria of these names are few
pub alone_table : (cs : List Criterion) → nat_lt MOST_CRITERIA (table.len (defined cs)) ≡ false → All
    (λ c. is_built_in c.name ≡ false) cs
    → table_told (map named_alone cs) ≡ Ok (defined (map named_alone cs))
alone_table cs few further =
    table_of (map named_alone cs) (ap (nat_lt MOST_CRITERIA) (alone_len cs) ∙ few)
    (alone_implies (table.contains_key (defined (map named_alone cs))) None cs refl)
    (All-map (λ c. is_built_in c.name ≡ false) named_alone cs further)
