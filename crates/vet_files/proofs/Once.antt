-- Entries of which no two are the same.
use Rattle.std.proofs.Common.{◌≡◌, ◌||◌, Bool, true, false, List, [], ◌∷◌, refl, sym, ap, ◌∙◌, cond}
use Rattle.std.specs.List.{All, list_any}
use Rattle.std.proofs.lemmas.Bool.{cond_both, false≢true}
use Rattle.std.proofs.lemmas.List.Elements.{All-cons, All-head, All-nil, All-tail, All-weaker}
use Rattle.vet_entries.specs.Distinct.{distinct, firsts}
use Rattle.vet_entries.specs.Entry.{entry_eq}
use Rattle.vet_entries.specs.EntryLaws.{entry_eq-Decides}
use Rattle.vet_entries.specs.declared.entry.Entry.{Entry}
use Rattle.vet_files.proofs.Apart.{AreApart, IsOther}

-- an entry is none of those seen
abbrev IsNew : List Entry → Entry → Type 0
IsNew seen e = list_any (entry_eq e) seen ≡ false

either : (a b : Bool) → a ≡ false → b ≡ false → (a || b) ≡ false
either true b first second = first
either false b first second = second

neither : (a b : Bool) → (a || b) ≡ false → (a ≡ false) × (b ≡ false)
neither true b h = (h, absurd (false≢true (sym h)))
neither false b h = (refl, h)

is_false : (b : Bool) → (b ≡ true → ⊥) → b ≡ false
is_false true h = absurd (h refl)
is_false false h = refl

differs : (e x : Entry) → IsOther e x → entry_eq x e ≡ false
differs e x other = is_false (entry_eq x e) (λ same. other (sym ((entry_eq-Decides x e).0 same)))

other : (e x : Entry) → entry_eq x e ≡ false → IsOther e x
other e x new same = false≢true (sym new ∙ (entry_eq-Decides x e).1 (sym same))

-- ---- entries that are apart stay as they are

firsts-apart : (seen es : List Entry) → All (IsNew seen) es → AreApart IsOther es → firsts seen es ≡ es
firsts-apart seen [] new apart = refl
firsts-apart seen (e ∷ es) new apart =
    let rest : All (IsNew (e ∷ seen)) es = λ k d l. either _ _ (differs e _ (apart.0 k d l))
    (All-tail (IsNew seen) e es new k d l) in
    ap (λ b. cond b (firsts seen es) (e ∷ firsts (e ∷ seen) es)) (All-head (IsNew seen) e es new)
    ∙ ap (λ (t : List Entry). e ∷ t) (firsts-apart (e ∷ seen) es rest apart.1)

pub distinct-apart : (es : List Entry) → AreApart IsOther es → distinct es ≡ es
distinct-apart es apart = firsts-apart [] es (λ k d l. refl) apart

-- ---- each once, they are apart

firsts-new : (seen es : List Entry) → All (IsNew seen) (firsts seen es)
firsts-new seen [] = All-nil (IsNew seen)
firsts-new seen (e ∷ es) =
    cond_both (list_any (entry_eq e) seen) (firsts seen es) (e ∷ firsts (e ∷ seen) es) (All (IsNew seen))
    (λ _. firsts-new seen es)
    (λ new. All-cons (IsNew seen) e (firsts (e ∷ seen) es) new
    (All-weaker (IsNew (e ∷ seen)) (IsNew seen) (λ x h. (neither _ _ h).1) (firsts (e ∷ seen) es)
    (firsts-new (e ∷ seen) es)))

firsts-once : (seen es : List Entry) → AreApart IsOther (firsts seen es)
firsts-once seen [] = tt
firsts-once seen (e ∷ es) =
    cond_both (list_any (entry_eq e) seen) (firsts seen es) (e ∷ firsts (e ∷ seen) es) (AreApart IsOther)
    (λ _. firsts-once seen es)
    (λ new. (
      All-weaker (IsNew (e ∷ seen)) (IsOther e) (λ x h. other e x (neither _ _ h).0) (firsts (e ∷ seen) es)
          (firsts-new (e ∷ seen) es),
      firsts-once (e ∷ seen) es,
    ))

pub distinct-once : (es : List Entry) → AreApart IsOther (distinct es)
distinct-once es = firsts-once [] es
