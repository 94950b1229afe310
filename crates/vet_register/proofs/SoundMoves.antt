-- Moves in the order in which they were recorded, and counts that are balanced.
use Rattle.std.proofs.Common.{◌≡◌, ◌↔◌, ◌+◌, ℕ, suc, ◌<◌, ◌≤◌, ◌-◌, Bool, true, false, List, [], ◌∷◌, length, get_or}
use Rattle.std.proofs.Common.{cond, filter, Ordering, Less, Equal, Greater, refl, sym, subst, ◌∙◌, arith, inl, inr}
use Rattle.std.specs.Cmp.{unsigned_Decides}
use Rattle.std.specs.List.{AllAdjacentBelow, AllPairs, count_by}
use Rattle.std.specs.Ordering.{MatchOrdering, is_lt, nat_cmp, ordering_then}
use Rattle.std.proofs.lemmas.Bool.{false≢true}
use Rattle.std.proofs.lemmas.Cmp.{ranked}
use Rattle.std.proofs.lemmas.List.{get_or_default}
use Rattle.std.proofs.lemmas.List.Elements.{All-cons, All-nil, All-weaker}
use Rattle.std.proofs.lemmas.List.Kept.{AllPairs-cons}
use Rattle.std.proofs.lemmas.List.Sorted.{all_adjacent_more}
use Rattle.std.proofs.lemmas.List.Sums.{length-filter}
use Rattle.vet_base.proofs.ItemLemmas.{pairs_head, pairs_none}
use Rattle.vet_demand.specs.Pair.{pair_cmp}
use Rattle.vet_demand.specs.PairLaws.{pair_total}
use Rattle.vet_graph.specs.declared.class.Class.{Class}
use Rattle.vet_graph.specs.declared.class.Class.TheVariants.{Conflicting, Full, Partial, Exempted, Unvetted}
use Rattle.vet_graph.specs.declared.moves.Move.{Move}
use Rattle.vet_graph.specs.declared.standing.Counts.{Counts}
use Rattle.vet_graph.specs.Moves.{arrivals_of, departures_of}
use Rattle.vet_graph.specs.Standing.{count_in}
use Rattle.vet_register.specs.declared.moves.RecordedMove.{RecordedMove}
use Rattle.vet_register.specs.Sound.{ComesBefore}
use Rattle.vet_register.specs.SoundMoves.{AreBalanced, comes_before, is_balanced_in}
use Rattle.vet_register.specs.State.{changes_of}

-- ---- their order

-- a move is told to come before another just where it does
before_told : (m n : RecordedMove) → (comes_before m n ≡ true) ↔ ComesBefore m n
before_told m n = by (nat_cmp m.step n.step) (ranked m.step n.step (nat_cmp m.step n.step) refl)
    (pair_cmp m.change.pair n.change.pair) refl
  where
    by : (o : Ordering) → MatchOrdering o (m.step < n.step) (m.step ≡ n.step) (n.step < m.step) → (p : Ordering)
        → pair_cmp m.change.pair n.change.pair ≡ p → (is_lt (ordering_then o p) ≡ true) ↔ ComesBefore m n
    by Less low p is = (λ t. inl low, λ h. refl)
    by Equal same Less is = (λ t. inr (same, is), λ h. refl)
    by Equal same Equal is = (
      λ t. absurd (false≢true t),
      λ h. elim h [
        | inl l ↦ absurd (omega (arith, l, same))
        | inr q ↦ (let e = sym q.1 ∙ is in cc e)
      ],
    )
    by Equal same Greater is = (
      λ t. absurd (false≢true t),
      λ h. elim h [
        | inl l ↦ absurd (omega (arith, l, same))
        | inr q ↦ (let e = sym q.1 ∙ is in cc e)
      ],
    )
    by Greater high p is = (
      λ t. absurd (false≢true t),
      λ h. elim h [
        | inl l ↦ absurd (omega (arith, l, high))
        | inr q ↦ absurd (omega (arith, q.0, high))
      ],
    )

before_onward : (m n o : RecordedMove) → ComesBefore m n → ComesBefore n o → ComesBefore m o
before_onward m n o (inl a) (inl b) = inl (omega (arith, a, b))
before_onward m n o (inl a) (inr b) = inl (omega (arith, a, b.0))
before_onward m n o (inr a) (inl b) = inl (omega (arith, a.0, b))
before_onward m n o (inr a) (inr b) =
    inr (a.0 ∙ b.0, pair_total.trans m.change.pair n.change.pair o.change.pair a.1 b.1)

-- where each comes before the next one, each comes before all behind it
chained : (moves : List RecordedMove) → AllAdjacentBelow ComesBefore moves (length moves) → AllPairs ComesBefore moves
chained [] h = pairs_none ComesBefore
chained (m ∷ []) h = AllPairs-cons ComesBefore m [] (All-nil (ComesBefore m)) (pairs_none ComesBefore)
chained (m ∷ n ∷ moves) h =
    let first : ComesBefore m n = h 0 m (omega arith) in
    let rest : AllPairs ComesBefore (n ∷ moves) = chained (n ∷ moves) (λ k d l.
    (let next : suc k + 1 ≡ suc (k + 1) = omega arith in
    subst (λ place. ComesBefore (get_or (m ∷ n ∷ moves) (suc k) d) (get_or (m ∷ n ∷ moves) place d)) next
    (h (suc k) d (omega (arith, l))))) in
    AllPairs-cons ComesBefore m (n ∷ moves)
    (All-cons (ComesBefore m) n moves first
    (All-weaker (ComesBefore n) (ComesBefore m) (λ o next. before_onward m n o first next) moves
    (pairs_head ComesBefore n moves rest))) rest

-- a walk over neighbours goes on where a move comes before the next one
pub goes_on : (moves : List RecordedMove) (place : ℕ) (m n : RecordedMove) → 0 < place → place < length moves
    → m ≡ get_or moves (place - 1) m → n ≡ get_or moves place n → comes_before m n ≡ true
    → AllAdjacentBelow ComesBefore moves place → AllAdjacentBelow ComesBefore moves (place + 1)
goes_on moves place m n some within is_m is_n t h = all_adjacent_more moves ComesBefore place some h (λ d.
    subst (λ x. ComesBefore x (get_or moves place d))
    (is_m ∙ get_or_default moves (place - 1) m d (omega (arith, within)))
    (subst (ComesBefore m) (is_n ∙ get_or_default moves place n d within) ((before_told m n).0 t)))

-- at the end of the walk, each comes before all behind it
pub all_follow : (moves : List RecordedMove) (place : ℕ) → length moves ≤ place
    → AllAdjacentBelow ComesBefore moves place → AllPairs ComesBefore moves
all_follow moves place whole h = chained moves (λ k d l. h k d (omega (arith, whole, l)))

-- where a move doesn't come before the next one, not all are in order
pub not_all_follow : (moves : List RecordedMove) (place : ℕ) (m n : RecordedMove) → 0 < place → place < length moves
    → m ≡ get_or moves (place - 1) m → n ≡ get_or moves place n → comes_before m n ≡ false
    → AllPairs ComesBefore moves → ⊥
not_all_follow moves place m n some within is_m is_n f pairs =
    let in_order = pairs (place - 1) place m (omega (arith, some)) within in
    false≢true (sym f ∙ (before_told m n).1
    (subst (λ x. ComesBefore x n) (sym is_m)
    (subst (ComesBefore (get_or moves (place - 1) m)) (get_or_default moves place m n within ∙ sym is_n) in_order)))

-- ---- counts

-- how many of the changes pass a test
as_many : (p : Move → Bool) (moves : List RecordedMove)
    → length (filter (λ (m : RecordedMove). p m.change) moves) ≡ length (filter p (changes_of moves))
as_many p [] = refl
as_many p (m ∷ moves) = by (p m.change) (as_many p moves)
  where
    by : (b : Bool) → length (filter (λ (r : RecordedMove). p r.change) moves) ≡ length (filter p (changes_of moves))
        → length (cond b (m ∷ filter (λ (r : RecordedMove). p r.change) moves)
        (filter (λ (r : RecordedMove). p r.change) moves))
        ≡ length (cond b (m.change ∷ filter p (changes_of moves)) (filter p (changes_of moves)))
    by true h = omega (arith, h)
    by false h = h

pub passed_counted : (p : Move → Bool) (moves : List RecordedMove)
    → length (filter (λ (m : RecordedMove). p m.change) moves) ≡ count_by p (changes_of moves)
passed_counted p moves = as_many p moves ∙ length-filter p (changes_of moves)

pub balanced_told : (class : Class) (first now : Counts) (moves : List Move)
    → (is_balanced_in class first now moves ≡ true)
    ↔ (count_in class first + arrivals_of class moves ≡ count_in class now + departures_of class moves)
balanced_told class first now moves =
    unsigned_Decides (count_in class first + arrivals_of class moves) (count_in class now + departures_of class moves)

-- what leads in each class leads in all
pub each_balanced : (first now : Counts) (moves : List Move) → is_balanced_in Conflicting first now moves ≡ true
    → is_balanced_in Full first now moves ≡ true → is_balanced_in Partial first now moves ≡ true
    → is_balanced_in Exempted first now moves ≡ true → is_balanced_in Unvetted first now moves ≡ true
    → AreBalanced first now moves
each_balanced first now moves a b c d e Conflicting = (balanced_told Conflicting first now moves).0 a
each_balanced first now moves a b c d e Full = (balanced_told Full first now moves).0 b
each_balanced first now moves a b c d e Partial = (balanced_told Partial first now moves).0 c
each_balanced first now moves a b c d e Exempted = (balanced_told Exempted first now moves).0 d
each_balanced first now moves a b c d e Unvetted = (balanced_told Unvetted first now moves).0 e
