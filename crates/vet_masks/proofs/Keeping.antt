-- What is kept of packages, as some change.
use Rattle.std.proofs.Common.{◌≡◌, ◌||◌, Bool, true, false, cond, List, ◌∷◌, Option, Some, None, IfSome, is_some, refl}
use Rattle.std.proofs.Common.{sym, ap, subst, ◌∙◌}
use Rattle.std.specs.Cmp.{Equal-is, tied_itself}
use Rattle.std.specs.Cmp.Lexicographic.{nat_list_cmp_total, slice_cmp}
use Rattle.std.specs.FinMap.{nat_cmp-IsAntisymmetric, slice_cmp-IsAntisymmetric}
use Rattle.std.specs.Ordering.{eq_by_cmp, nat_cmp}
use Rattle.std.proofs.lemmas.Bool.{false≢true}
use Rattle.vet_base.specs.Words.{Name}
use Rattle.vet_entries.specs.Facts.{Facts}
use Rattle.vet_masks.specs.declared.kept.KeptPackage.{KeptPackage}
use Rattle.vet_masks.specs.declared.packages.KeptChange.{KeptChange}
use Rattle.vet_masks.specs.Packages.{IsKeptOf, in_slot, is_changed}

abbrev pub Slots : Type 0
Slots = Name → Option (Option KeptPackage)

pub tied-name : (a b : Name) → eq_by_cmp (slice_cmp nat_cmp) a b ≡ true → a ≡ b
tied-name a b e = slice_cmp-IsAntisymmetric nat_cmp-IsAntisymmetric a b ((Equal-is (slice_cmp nat_cmp a b)).0 e)

-- a slot that is made holds nothing
pub slot-none : (old : Slots) (one name : Name) → is_some (old one) ≡ false
    → in_slot (cond (eq_by_cmp (slice_cmp nat_cmp) one name) (Some None) (old name)) ≡ in_slot (old name)
slot-none old one name none = by (eq_by_cmp (slice_cmp nat_cmp) one name) refl
  where
    empty : (o : Option (Option KeptPackage)) → is_some o ≡ false → in_slot o ≡ None
    empty None e = refl
    empty (Some x) e = absurd (false≢true (sym e))

    by : (b : Bool) → eq_by_cmp (slice_cmp nat_cmp) one name ≡ b
        → in_slot (cond b (Some None) (old name)) ≡ in_slot (old name)
    by true e = sym (empty (old name) (ap (λ n. is_some (old n)) (sym (tied-name one name e)) ∙ none))
    by false e = refl

-- and it is there
pub slot-made : (old : Slots) (one : Name) (new : Slots)
    → ((name : Name) → new name ≡ cond (eq_by_cmp (slice_cmp nat_cmp) one name) (Some None) (old name))
    → is_some (new one) ≡ true
slot-made old one new made = ap is_some (made one
    ∙ ap (λ b. cond b (Some None) (old one)) ((Equal-is _).1 (tied_itself nat_list_cmp_total one)))

-- a package keeps its slot
pub slot-stays : (o : Option (Option KeptPackage)) (s : Option KeptPackage) (b : Bool) → is_some o ≡ true
    → is_some (cond b (Some s) o) ≡ true
slot-stays o s true e = refl
slot-stays o s false e = e

-- what is put in a slot is kept
pub slot-put : (o : Option (Option KeptPackage)) (kept : KeptPackage) (b : Bool)
    → in_slot (cond b (Some (Some kept)) o) ≡ cond b (Some kept) (in_slot o)
slot-put o kept true = refl
slot-put o kept false = refl

-- one package more is kept
pub kept-next : (facts : Facts) (one : KeptChange) (rest : List KeptChange) (old : Slots)
    → IsKeptOf facts one.«package» one.kept
    → ((name : Name) → is_changed (one ∷ rest) name ≡ false → IfSome (in_slot (old name)) (IsKeptOf facts name))
    → (name : Name) → is_changed rest name ≡ false
    → IfSome (in_slot (cond (eq_by_cmp (slice_cmp nat_cmp) one.«package» name) (Some (Some one.kept)) (old name)))
    (IsKeptOf facts name)
kept-next facts one rest old own so_far name other = by (eq_by_cmp (slice_cmp nat_cmp) one.«package» name) refl
  where
    by : (b : Bool) → eq_by_cmp (slice_cmp nat_cmp) one.«package» name ≡ b
        → IfSome (in_slot (cond b (Some (Some one.kept)) (old name))) (IsKeptOf facts name)
    by true e = subst (λ n. IsKeptOf facts n one.kept) (tied-name one.«package» name e) own
    by false e = so_far name (ap (λ b. b || is_changed rest name) e ∙ other)
