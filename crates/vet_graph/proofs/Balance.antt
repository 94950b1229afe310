-- Counts of the pairs in each class, before and after moves.
use Rattle.std.proofs.Common.{◌≡◌, ℕ, ◌+◌, Bool, cond, List, [], ◌∷◌, ◌++◌, map, length, Some, refl, ap, arith, inl}
use Rattle.std.proofs.Common.{inr}
use Rattle.std.specs.Option.{option_eq}
use Rattle.std.specs.declared.cmp.Ordering.{Ordering}
use Rattle.std.specs.declared.cmp.Ordering.TheVariants.{Less, Equal, Greater}
use Rattle.std.proofs.lemmas.Bool.{cases_Bool}
use Rattle.std.proofs.lemmas.List.Sums.{sum_by-cons, sum_by-append}
use Rattle.vet_demand.specs.Pair.{pair_cmp}
use Rattle.vet_graph.specs.declared.class.Class.{Class}
use Rattle.vet_graph.specs.declared.class.Class.TheVariants.{Conflicting, Full, Partial, Exempted, Unvetted}
use Rattle.vet_graph.specs.declared.moves.Move.{Move}
use Rattle.vet_graph.specs.declared.standing.Stand.{Stand}
use Rattle.vet_graph.specs.Moves.{arrivals_of, changes, comes, departures_of, leaves, moves_between, moves_by}
use Rattle.vet_graph.specs.Moves.{moves_past}
use Rattle.vet_graph.specs.Standing.{count_of, counts_of, same_class, total_of}
use Rattle.vet_graph.proofs.SameClass.{same_class-Decides}

-- one where a test passes
abbrev pub one_if : Bool → ℕ
one_if b = cond b 1 0

count-cons : (k : Class) (s : Stand) (rest : List Stand) → count_of k (s ∷ rest)
    ≡ one_if (same_class s.class k) + count_of k rest
count-cons k s rest = sum_by-cons (λ (x : Stand). one_if (same_class x.class k)) s rest

arrivals-cons : (k : Class) (m : Move) (rest : List Move) → arrivals_of k (m ∷ rest)
    ≡ one_if (option_eq same_class m.after (Some k)) + arrivals_of k rest
arrivals-cons k m rest = sum_by-cons (λ (x : Move). one_if (option_eq same_class x.after (Some k))) m rest

departures-cons : (k : Class) (m : Move) (rest : List Move) → departures_of k (m ∷ rest)
    ≡ one_if (option_eq same_class m.before (Some k)) + departures_of k rest
departures-cons k m rest = sum_by-cons (λ (x : Move). one_if (option_eq same_class x.before (Some k))) m rest

pub arrivals-append : (k : Class) (first more : List Move) → arrivals_of k (first ++ more)
    ≡ arrivals_of k first + arrivals_of k more
arrivals-append k first more = sum_by-append (λ (x : Move). one_if (option_eq same_class x.after (Some k))) first more

pub departures-append : (k : Class) (first more : List Move) → departures_of k (first ++ more)
    ≡ departures_of k first + departures_of k more
departures-append k first more = sum_by-append
    (λ (x : Move). one_if (option_eq same_class x.before (Some k))) first more

-- moves take a class from one count to another
abbrev pub Balanced : Class → List Stand → List Stand → List Move → Type 0
Balanced k before after moves = count_of k after + departures_of k moves ≡ count_of k before + arrivals_of k moves

leaves_balanced : (k : Class) (s : Stand) (before after : List Stand) (moves : List Move)
    → Balanced k before after moves → Balanced k (s ∷ before) after (leaves s ∷ moves)
leaves_balanced k s before after moves h =
    omega (arith, h, count-cons k s before, arrivals-cons k (leaves s) moves, departures-cons k (leaves s) moves)

comes_balanced : (k : Class) (t : Stand) (before after : List Stand) (moves : List Move) → Balanced k before after moves
    → Balanced k before (t ∷ after) (comes t ∷ moves)
comes_balanced k t before after moves h =
    omega (arith, h, count-cons k t after, arrivals-cons k (comes t) moves, departures-cons k (comes t) moves)

changes_balanced : (k : Class) (s t : Stand) (before after : List Stand) (moves : List Move)
    → Balanced k before after moves → Balanced k (s ∷ before) (t ∷ after) (changes s t ++ moves)
changes_balanced k s t before after moves h = elim (cases_Bool (same_class s.class t.class)) [
  | inl same ↦ (let e = ap (λ c. one_if (same_class c k)) ((same_class-Decides s.class t.class).0 same) in
      rw same (omega (arith, h, e, count-cons k s before, count-cons k t after)))
  | inr other ↦ (let m : Move = record { pair = s.pair; before = Some s.class; after = Some t.class } in
      rw other (omega
      (arith, h, count-cons k s before, count-cons k t after, arrivals-cons k m moves, departures-cons k m moves)))
]

balanced_by : (k : Class) (o : Ordering) (s t : Stand) (before after : List Stand) (less equal greater : List Move)
    → Balanced k before (t ∷ after) less → Balanced k before after equal → Balanced k (s ∷ before) after greater
    → Balanced k (s ∷ before) (t ∷ after) (moves_by o s t less equal greater)
balanced_by k Less s t before after less equal greater l e g = leaves_balanced k s before (t ∷ after) less l
balanced_by k Equal s t before after less equal greater l e g = changes_balanced k s t before after equal e
balanced_by k Greater s t before after less equal greater l e g = comes_balanced k t (s ∷ before) after greater g

balanced_past : (k : Class) (s : Stand) (before : List Stand) (more : List Stand → List Move)
    → ((after : List Stand) → Balanced k before after (more after)) → (after : List Stand)
    → Balanced k (s ∷ before) after (moves_past s more after)
balanced_past k s before more h [] = leaves_balanced k s before [] (more []) (h [])
balanced_past k s before more h (t ∷ after) =
    balanced_by k (pair_cmp s.pair t.pair) s t before after (more (t ∷ after)) (more after) (moves_past s more after)
    (h (t ∷ after)) (h after)
    (balanced_past k s before more h after)

balanced_from_none : (k : Class) (after : List Stand) → Balanced k [] after (map comes after)
balanced_from_none k [] = refl
balanced_from_none k (t ∷ after) = comes_balanced k t [] after (map comes after) (balanced_from_none k after)

-- what stands in a class, with what departed from it, is what stood there, with what arrived
pub balanced : (k : Class) (before after : List Stand) → Balanced k before after (moves_between before after)
balanced k [] after = balanced_from_none k after
balanced k (s ∷ before) after = balanced_past k s before (moves_between before) (balanced k before) after

-- a class is one of the five
one_of_five : (c : Class) → one_if (same_class c Conflicting) + one_if (same_class c Full) + one_if
    (same_class c Partial) + one_if (same_class c Exempted) + one_if (same_class c Unvetted) ≡ 1
one_of_five Conflicting = refl
one_of_five Full = refl
one_of_five Partial = refl
one_of_five Exempted = refl
one_of_five Unvetted = refl

-- the five counts add up
pub total_is_length : (standing : List Stand) → total_of (counts_of standing) ≡ length standing
total_is_length [] = refl
total_is_length (s ∷ rest) =
    omega (
      arith,
      total_is_length rest,
      one_of_five s.class,
      count-cons Conflicting s rest,
      count-cons Full s rest,
      count-cons Partial s rest,
      count-cons Exempted s rest,
      count-cons Unvetted s rest,
    )
