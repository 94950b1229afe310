-- Entries and their numbers.
use Rattle.std.proofs.Common.{◌≡◌, ℕ, ◌+◌, ◌&&◌, Bool, true, false, cond, List, [], ◌∷◌, ◌++◌, length, Option, Some}
use Rattle.std.proofs.Common.{refl, sym, ap, ◌∙◌, arith}
use Rattle.std.specs.Prelude.{option_map}
use Rattle.std.specs.List.{filter}
use Rattle.std.specs.Option.{option_eq}
use Rattle.std.specs.Str.{bytes_eq}
use Rattle.vet_base.specs.Names.{same_names}
use Rattle.vet_entries.specs.declared.entry.Entry.{Entry}
use Rattle.vet_entries.specs.declared.facts.HeldEntry.{HeldEntry}
use Rattle.vet_entries.specs.Entry.{entry_eq, own, source_eq}
use Rattle.vet_entries.specs.ByPackage.{is_of}
use Rattle.vet_entries.specs.Numbered.{number_of, numbered}
use Rattle.vet_entries.specs.Kind.{kind_eq}

held_number : (n m : ℕ) (entry : Entry) → n ≡ m
    → ◌≡◌ {A = HeldEntry} (record { number = n; entry = entry }) (record { number = m; entry = entry })
held_number n m entry e = λ i. record { number = e i; entry = entry }

-- one more entry gets the next number
pub numbered_push : (n m : ℕ) (entries : List Entry) (entry : Entry) → m ≡ n + length entries
    → numbered n (entries ++ entry ∷ []) ≡ numbered n entries ++ (record { number = m; entry = entry }) ∷ []
numbered_push n m [] entry e = ap (λ (h : HeldEntry). h ∷ []) (held_number n m entry (omega (arith, e)))
numbered_push n m (x ∷ entries) entry e = ap (λ (rest : List HeldEntry). (record { number = n; entry = x }) ∷ rest)
    (numbered_push (n + 1) m entries entry (omega (arith, e)))

numbered_one : (t : Bool) (x : HeldEntry) (o : Option HeldEntry) → option_map (λ h. h.number) (cond t (Some x) o)
    ≡ cond t (Some x.number) (option_map (λ h. h.number) o)
numbered_one true x o = refl
numbered_one false x o = refl

-- the number of an entry, found first or behind
pub number_of_first : (x : HeldEntry) (entries : List HeldEntry) (entry : Entry)
    → number_of (x ∷ entries) entry ≡ cond (entry_eq x.entry (own entry)) (Some x.number) (number_of entries entry)
number_of_first x entries entry = numbered_one (entry_eq x.entry (own entry)) x _

-- an entry of another package is not the same
pub another_package : (a b : Entry) → bytes_eq a.«package» b.«package» ≡ false → entry_eq a b ≡ false
another_package a b other = ap (λ s. source_eq a.source b.source && (s && rest)) other
    ∙ and_no (source_eq a.source b.source)
  where
    rest : Bool
    rest = kind_eq a.kind b.kind && (same_names a.criteria b.criteria && option_eq bytes_eq a.notes b.notes)

    and_no : (s : Bool) → (s && false) ≡ false
    and_no true = refl
    and_no false = refl

-- the number of an entry is found among those of its package
pub number_of_package : (entries : List HeldEntry) (entry : Entry)
    → number_of (filter (is_of entry.«package») entries) entry ≡ number_of entries entry
number_of_package [] entry = refl
number_of_package (x ∷ entries) entry = step (number_of_package entries entry) (is_of entry.«package» x) refl
  where
    step : number_of (filter (is_of entry.«package») entries) entry ≡ number_of entries entry → (b : Bool)
        → is_of entry.«package» x ≡ b
        → number_of (cond b (x ∷ filter (is_of entry.«package») entries) (filter (is_of entry.«package») entries)) entry
        ≡ number_of (x ∷ entries) entry
    step rest true e =
        number_of_first x (filter (is_of entry.«package») entries) entry
        ∙ ap (cond (entry_eq x.entry (own entry)) (Some x.number)) rest
        ∙ sym (number_of_first x entries entry)
    step rest false e =
        rest ∙ sym (number_of_first x entries entry ∙ ap (λ t. cond t (Some x.number) (number_of entries entry))
        (another_package x.entry (own entry) e))
