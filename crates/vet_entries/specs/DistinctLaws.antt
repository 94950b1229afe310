-- Whatever holds for each entry holds for each of the distinct ones, and there are no more of these (ours).
use Rattle.std.specs.Prelude.{◌≤◌, true, false, List, [], ◌∷◌, length}
use Rattle.std.specs.List.{All, list_any}
use Rattle.std.proofs.Common.{cond, arith}
use Rattle.std.proofs.lemmas.List.Elements.{All-nil, All-cons, All-head, All-tail}
use Rattle.vet_entries.specs.declared.entry.Entry.{Entry}
use Rattle.vet_entries.specs.Entry.{entry_eq}
use Rattle.vet_entries.specs.Distinct.{firsts, distinct}

-- ---- whatever holds for each entry still holds

firsts-All : (P : Entry → Type 0) (seen es : List Entry) → All P es → All P (firsts seen es)
firsts-All P seen [] h = All-nil P
firsts-All P seen (e ∷ es) h =
    elim (list_any (entry_eq e) seen) as (λ b. All P (cond b (firsts seen es) (e ∷ firsts (e ∷ seen) es))) [
      | true ↦ firsts-All P seen es (All-tail P e es h)
      | false ↦ All-cons P e (firsts (e ∷ seen) es) (All-head P e es h) (firsts-All P (e ∷ seen) es (All-tail P e es h))
    ]

pub distinct-All : (P : Entry → Type 0) (es : List Entry) → All P es → All P (distinct es)
distinct-All P es h = firsts-All P [] es h

-- ---- there are no more

firsts-length : (seen es : List Entry) → length (firsts seen es) ≤ length es
firsts-length seen [] = omega arith
firsts-length seen (e ∷ es) =
    let some : length (firsts seen es) ≤ length es = firsts-length seen es in
    let more : length (firsts (e ∷ seen) es) ≤ length es = firsts-length (e ∷ seen) es in
    elim (list_any (entry_eq e) seen)
    as (λ b. length (cond b (firsts seen es) (e ∷ firsts (e ∷ seen) es)) ≤ length (e ∷ es)) [
      | true ↦ omega (arith, some)
      | false ↦ omega (arith, more)
    ]

pub distinct-length : (es : List Entry) → length (distinct es) ≤ length es
distinct-length es = firsts-length [] es
