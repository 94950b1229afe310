-- What is read of a list, item by item, and what `?` passes on where it isn't read.
use Rattle.std.proofs.Common.{◌≡◌, ℕ, zero, suc, ◌<◌, List, [], ◌∷◌, ◌++◌, ◌∙◌, None, Option, Some, Result, Ok, Err}
use Rattle.std.proofs.Common.{arith, get_or, length, map, refl, sym, ap, subst, inl, inr}
use Rattle.std.specs.List.{All}
use Rattle.std.specs.Result.{IsErrAnd}
use Rattle.vet_base.specs.Items.{IsIn, SameItems}
use Rattle.vet_base.specs.declared.refusal.Refusal.{Refusal}
use Rattle.vet_base.specs.declared.refusal.Refusal.TheVariants as refusal
use Rattle.vet_base.proofs.ItemLemmas.{in_all, in_map, map_in}
use Rattle.vet_item_rows.specs.ReadBack.{EachStandsFor, IsWritten, Reads, found_or_no_register, read_error_of}
use Rattle.vet_item_rows.specs.declared.read.read_error.ReadError.{ReadError}
use Rattle.vet_item_rows.specs.declared.read.read_error.ReadError.TheVariants.{NoMemory}

-- ---- errors

-- an error that says that memory ran out is passed on as it is
pub passed_on : {T : Type 0} (r : Result T ReadError) (e : ReadError) → IsErrAnd r (λ y. y ≡ e) → e ≡ NoMemory
    → r ≡ Err NoMemory
passed_on (Ok x) e passed none = absurd passed
passed_on (Err y) e passed none = ap (λ (u : ReadError). Err u) (passed ∙ none)

-- and so is such a refusal
pub refused_on : {T : Type 0} (r : Result T ReadError) (e : Refusal) → IsErrAnd r (λ y. y ≡ read_error_of e)
    → e ≡ refusal.NoMemory → r ≡ Err NoMemory
refused_on (Ok x) e passed none = absurd passed
refused_on (Err y) e passed none = ap (λ (u : ReadError). Err u) (passed ∙ ap read_error_of none)

-- ---- what was found

module _ {X : Type 0} where
  pub some_found : (o : Option X) (x : X) → Ok x ≡ found_or_no_register o → o ≡ Some x
  some_found None x h = cc h
  some_found (Some y) x h = (let same : x ≡ y = cc h in ap (λ (z : X). Some z) (sym same))

  pub none_found : (o : Option X) (e : ReadError) → Err e ≡ found_or_no_register o → o ≡ None
  none_found None e h = refl
  none_found (Some y) e h = cc h

  pub reads_found : (o : Option X) (x : X) (r : Result X ReadError) → r ≡ found_or_no_register o → o ≡ Some x
      → Reads r x
  reads_found o x r is some = rw (is, some) refl

-- ---- item by item

-- whatever some rows stand for is this
abbrev pub AreThose : {A X : Type 0} → (A → X → Type 0) → List A → List X → Type 0
AreThose {A} {X} StandsFor rows found = (xs : List X) → EachStandsFor StandsFor rows xs → found ≡ xs

module _ {A X : Type 0} (StandsFor : A → X → Type 0) where
  -- the last of a list stands for the last of what it stands for
  each_last : (ds : List A) (a : A) (xs : List X) → EachStandsFor StandsFor (ds ++ a ∷ []) xs
      → (ys : List X) × ((y : X) × ((xs ≡ ys ++ y ∷ []) × (EachStandsFor StandsFor ds ys × StandsFor a y)))
  each_last [] a [] each = absurd each
  each_last [] a (x ∷ []) each = ([], (x, (refl, (tt, each.0))))
  each_last [] a (x ∷ (y ∷ xs)) each = absurd each.1
  each_last (b ∷ ds) a [] each = absurd each
  each_last (b ∷ ds) a (x ∷ xs) each =
      let rest = each_last ds a xs each.1 in
      (x ∷ rest.0, (rest.1.0, (ap (λ zs. x ∷ zs) rest.1.1.0, ((each.0, rest.1.1.1.0), rest.1.1.1.1))))

  -- what is read of one item more
  pub read_more : (ds : List A) (a : A) (found : List X) (value : X) → AreThose StandsFor ds found
      → ((x : X) → StandsFor a x → value ≡ x) → AreThose StandsFor (ds ++ a ∷ []) (found ++ value ∷ [])
  read_more ds a found value before last xs each =
      let parts = each_last ds a xs each in
      let front = before parts.0 parts.1.1.1.0 in
      let one = last parts.1.0 parts.1.1.1.1 in
      (λ i. front i ++ one i ∷ []) ∙ sym parts.1.1.0

  -- an item of a list stands for something, if each does
  pub each_at : (rows : List A) (i : ℕ) (a : A) (xs : List X) → i < length rows → a ≡ get_or rows i a
      → EachStandsFor StandsFor rows xs → (x : X) × StandsFor a x
  each_at [] i a xs within is each = absurd (omega (arith, within))
  each_at (b ∷ rows) i a [] within is each = absurd each
  each_at (b ∷ rows) zero a (x ∷ xs) within is each = (x, subst (λ c. StandsFor c x) (sym is) each.0)
  each_at (b ∷ rows) (suc i) a (x ∷ xs) within is each = each_at rows i a xs (omega (arith, within)) is each.1

  pub each_between : (ds : List A) (a : A) (rest : List A) (xs : List X)
      → EachStandsFor StandsFor (ds ++ a ∷ rest) xs → (x : X) × StandsFor a x
  each_between [] a rest [] each = absurd each
  each_between [] a rest (x ∷ xs) each = (x, each.0)
  each_between (d ∷ ds) a rest [] each = absurd each
  each_between (d ∷ ds) a rest (x ∷ xs) each = each_between ds a rest xs each.1

-- ---- rows in whatever order

module _ {A X : Type 0} (CanBeHeld : X → Type 0) (written : X → A) where
  abbrev Stands : A → X → Type 0
  Stands = IsWritten CanBeHeld written

  -- each of some rows is that of one of these values
  abbrev AreOf : List A → List X → Type 0
  AreOf rows xs = (a : A) → IsIn a rows → IsIn a (map written xs)

  -- so they stand for such values
  pub stand_for : (xs : List X) → All CanBeHeld xs → (rows : List A) → AreOf rows xs
      → (ys : List X) × (EachStandsFor Stands rows ys × ((y : X) → IsIn y ys → IsIn y xs))
  stand_for xs held [] of = ([], (tt, λ y none. absurd none))
  stand_for xs held (a ∷ rows) of =
      let rest = stand_for xs held rows (λ b i. of b (inr i)) in
      let first = in_map written xs a (of a (inl refl)) in (
        first.0 ∷ rest.0,
        (
          ((in_all CanBeHeld xs held first.0 first.1.0, first.1.1), rest.1.0),
          λ y i. elim i [ inl here ↦ subst (λ z. IsIn z xs) (sym here) first.1.0 | inr later ↦ rest.1.1 y later ],
        ),
      )

  -- and for such values among which a given one is, whose row is among them
  stand_with : (xs : List X) → All CanBeHeld xs → (rows : List A) → AreOf rows xs → (x : X) → IsIn x xs
      → CanBeHeld x → IsIn (written x) rows → (ys : List X) × (EachStandsFor Stands rows ys × IsIn x ys)
  stand_with xs held [] of x among can none = absurd none
  stand_with xs held (a ∷ rows) of x among can (inl here) =
      let rest = stand_for xs held rows (λ b i. of b (inr i)) in
      (x ∷ rest.0, (((can, sym here), rest.1.0), inl refl))
  stand_with xs held (a ∷ rows) of x among can (inr later) =
      let rest = stand_with xs held rows (λ b i. of b (inr i)) x among can later in
      let first = stand_for xs held (a ∷ []) (λ b i. of b (elim i [ inl e ↦ inl e | inr none ↦ absurd none ])) in
      joined first rest
    where
      joined : ((ys : List X) × (EachStandsFor Stands (a ∷ []) ys × ((y : X) → IsIn y ys → IsIn y xs)))
          → ((ys : List X) × (EachStandsFor Stands rows ys × IsIn x ys))
          → (ys : List X) × (EachStandsFor Stands (a ∷ rows) ys × IsIn x ys)
      joined ([], (none, h)) rest = absurd none
      joined (y ∷ ys, (first, h)) rest = (y ∷ rest.0, ((first.0, rest.1.0), inr rest.1.1))

  -- where rows are those of some values, in whatever order, these values are read
  pub read_as_set : (xs : List X) → All CanBeHeld xs → (rows : List A) → SameItems rows (map written xs)
      → (found : List X) → AreThose Stands rows found → SameItems found xs
  read_as_set xs held rows same found back =
      let all = stand_for xs held rows same.0 in
      subst (λ ys. SameItems ys xs) (sym (back all.0 all.1.0)) (
        all.1.1,
        λ x among.
            let with = stand_with xs held rows same.0 x among (in_all CanBeHeld xs held x among)
            (same.1 (written x) (map_in written xs x among)) in
            subst (IsIn x) (sym (back with.0 with.1.0) ∙ back all.0 all.1.0) with.1.1,
      )
