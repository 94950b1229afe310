-- The walk along two standings in order gives the pairs at which they differ.
use Rattle.std.proofs.Common.{◌≡◌, ◌≢◌, suc, true, false, cond, List, [], ◌∷◌, ◌++◌, map, get_or, Option, Some, None}
use Rattle.std.proofs.Common.{refl, sym, ap, ◌∙◌, inl, inr, arith}
use Rattle.std.specs.List.{All}
use Rattle.std.specs.Ordering.{is_eq, ordering_reverse}
use Rattle.std.specs.declared.cmp.Ordering.{Ordering}
use Rattle.std.specs.declared.cmp.Ordering.TheVariants.{Less, Equal, Greater}
use Rattle.std.proofs.lemmas.Bool.{cases_Bool}
use Rattle.std.proofs.lemmas.List.Elements.{All-nil, All-cons, All-head, All-tail, All-append, All-weaker}
use Rattle.std.proofs.lemmas.List.Elements.{Contains-append_right}
use Rattle.std.proofs.lemmas.List.Kept.{AllPairs-cons}
use Rattle.vet_demand.specs.declared.pair.Pair.{Pair}
use Rattle.vet_demand.specs.Pair.{pair_cmp, pair_eq}
use Rattle.vet_demand.specs.PairLaws.{pair_cmp-IsAntisymmetric, pair_eq-Decides, pair_total}
use Rattle.vet_graph.specs.declared.class.Class.{Class}
use Rattle.vet_graph.specs.declared.moves.Move.{Move}
use Rattle.vet_graph.specs.declared.standing.Stand.{Stand}
use Rattle.vet_graph.specs.Moves.{AreMoves, changes, comes, leaves, moves_between, moves_by, moves_past}
use Rattle.vet_graph.specs.Standing.{class_in, pairs_of, same_class, IsStanding}
use Rattle.vet_graph.proofs.SameClass.{same_class-Decides}

pub after_is_other : (p q : Pair) → pair_cmp p q ≡ Less → pair_eq q p ≡ false
after_is_other p q h = ap is_eq (pair_total.antisymm q p ∙ ap ordering_reverse h)

-- the pairs of a standing come after p
abbrev pub Above : Pair → List Stand → Type 0
Above p standing = All (λ s. pair_cmp p s.pair ≡ Less) standing

above_pairs : (p : Pair) (standing : List Stand) → All (λ q. pair_cmp p q ≡ Less) (pairs_of standing) → Above p standing
above_pairs p [] h = All-nil (λ (s : Stand). pair_cmp p s.pair ≡ Less)
above_pairs p (s ∷ rest) h =
    All-cons (λ (x : Stand). pair_cmp p x.pair ≡ Less) s rest
    (All-head (λ q. pair_cmp p q ≡ Less) s.pair (pairs_of rest) h)
    (above_pairs p rest (All-tail (λ q. pair_cmp p q ≡ Less) s.pair (pairs_of rest) h))

pub standing_head : (s : Stand) (rest : List Stand) → IsStanding (s ∷ rest) → Above s.pair rest
standing_head s rest h = above_pairs s.pair rest (λ k d l. h 0 (suc k) d (omega arith) (omega arith))

pub standing_tail : (s : Stand) (rest : List Stand) → IsStanding (s ∷ rest) → IsStanding rest
standing_tail s rest h i j d l m = h (suc i) (suc j) d (omega arith) (omega arith)

above_later : (p q : Pair) (standing : List Stand) → pair_cmp p q ≡ Less → Above q standing → Above p standing
above_later p q standing l h =
    All-weaker (λ (s : Stand). pair_cmp q s.pair ≡ Less) (λ (s : Stand). pair_cmp p s.pair ≡ Less)
    (λ s m. pair_total.trans p q s.pair l m) standing h

above_all : (p : Pair) (t : Stand) (after : List Stand) → pair_cmp p t.pair ≡ Less → IsStanding (t ∷ after)
    → Above p (t ∷ after)
above_all p t after l h =
    All-cons (λ (s : Stand). pair_cmp p s.pair ≡ Less) t after l
    (above_later p t.pair after l (standing_head t after h))

-- a pair that comes before all of a standing is not in it
absent : (p : Pair) (standing : List Stand) → Above p standing → class_in standing p ≡ None
absent p [] h = refl
absent p (s ∷ rest) h =
    let other : pair_eq s.pair p
    ≡ false = after_is_other p s.pair (All-head (λ (x : Stand). pair_cmp p x.pair ≡ Less) s rest h) in
    ap (λ b. cond b (Some s.class) (class_in rest p)) other ∙ absent p rest
    (All-tail (λ (x : Stand). pair_cmp p x.pair ≡ Less) s rest h)

-- the whole has this class at p, and what the rest has elsewhere
abbrev pub Puts : Pair → Option Class → List Stand → List Stand → Type 0
Puts p class rest whole = (q : Pair) → class_in whole q ≡ cond (pair_eq p q) class (class_in rest q)

puts_none : (p : Pair) (standing : List Stand) → Above p standing → Puts p None standing standing
puts_none p standing h q = elim (cases_Bool (pair_eq p q)) [
  | inl t ↦ (let e : p ≡ q = (pair_eq-Decides p q).0 t in rw t (rw e at (absent p standing h)))
  | inr f ↦ rw f refl
]

puts_same : (p : Pair) (t : Stand) (rest : List Stand) → p ≡ t.pair → Puts p (Some t.class) rest (t ∷ rest)
puts_same p t rest e q = ap (λ r. cond (pair_eq r q) (Some t.class) (class_in rest q)) (sym e)

-- what holds of the pairs of both standings holds of the moves' pairs
All-changes : (P : Pair → Type 0) (s t : Stand) → P s.pair → All (λ (m : Move). P m.pair) (changes s t)
All-changes P s t h = elim (same_class s.class t.class) as
    (λ b. All (λ (m : Move). P m.pair)
    (cond b [] (record { pair = s.pair; before = Some s.class; after = Some t.class } ∷ []))) [
      | true ↦ All-nil (λ (m : Move). P m.pair)
      | false ↦ All-cons (λ (m : Move). P m.pair)
          (record { pair = s.pair; before = Some s.class; after = Some t.class }) [] h
          (All-nil (λ (m : Move). P m.pair))
    ]

All-moves_by : (P : Pair → Type 0) (o : Ordering) (s t : Stand) (less equal greater : List Move) → P s.pair → P t.pair
    → All (λ (m : Move). P m.pair) less → All (λ (m : Move). P m.pair) equal → All (λ (m : Move). P m.pair) greater
    → All (λ (m : Move). P m.pair) (moves_by o s t less equal greater)
All-moves_by P Less s t less equal greater p q l e g = All-cons (λ (m : Move). P m.pair) (leaves s) less p l
All-moves_by P Equal s t less equal greater p q l e g = All-append (λ (m : Move). P m.pair) (changes s t) equal
    (All-changes P s t p) e
All-moves_by P Greater s t less equal greater p q l e g = All-cons (λ (m : Move). P m.pair) (comes t) greater q g

All-moves_past : (P : Pair → Type 0) (s : Stand) (more : List Stand → List Move) → P s.pair
    → ((after : List Stand) → All (λ t. P t.pair) after → All (λ (m : Move). P m.pair) (more after))
    → (after : List Stand) → All (λ t. P t.pair) after → All (λ (m : Move). P m.pair) (moves_past s more after)
All-moves_past P s more p h [] a = All-cons (λ (m : Move). P m.pair) (leaves s) (more []) p (h [] a)
All-moves_past P s more p h (t ∷ after) a =
    let rest = All-tail (λ (x : Stand). P x.pair) t after a in
    All-moves_by P (pair_cmp s.pair t.pair) s t (more (t ∷ after)) (more after) (moves_past s more after) p
    (All-head (λ (x : Stand). P x.pair) t after a)
    (h (t ∷ after) a) (h after rest) (All-moves_past P s more p h after rest)

All-comes : (P : Pair → Type 0) (after : List Stand) → All (λ t. P t.pair) after
    → All (λ (m : Move). P m.pair) (map comes after)
All-comes P [] a = All-nil (λ (m : Move). P m.pair)
All-comes P (t ∷ after) a =
    All-cons (λ (m : Move). P m.pair) (comes t) (map comes after) (All-head (λ (x : Stand). P x.pair) t after a)
    (All-comes P after (All-tail (λ (x : Stand). P x.pair) t after a))

All-moves_between : (P : Pair → Type 0) (before after : List Stand) → All (λ s. P s.pair) before
    → All (λ t. P t.pair) after → All (λ (m : Move). P m.pair) (moves_between before after)
All-moves_between P [] after b a = All-comes P after a
All-moves_between P (s ∷ before) after b a =
    All-moves_past P s (moves_between before) (All-head (λ (x : Stand). P x.pair) s before b)
    (λ more c. All-moves_between P before more (All-tail (λ (x : Stand). P x.pair) s before b) c) after a

-- a move from one standing to another
abbrev pub IsMove : List Stand → List Stand → Move → Type 0
IsMove before after m = (m.before ≡ class_in before m.pair) × (m.after ≡ class_in after m.pair) × (m.before ≢ m.after)

-- the moves of the rests, where p comes before them all
AboveMoves : Pair → List Move → Type 0
AboveMoves p moves = All (λ (m : Move). pair_cmp p m.pair ≡ Less) moves

elsewhere : (p : Pair) (class : Option Class) (rest whole : List Stand) (q : Pair) → Puts p class rest whole
    → pair_eq p q ≡ false → class_in whole q ≡ class_in rest q
elsewhere p class rest whole q h e = h q ∙ ap (λ b. cond b class (class_in rest q)) e

still_move : (p : Pair) (b a : Option Class) (before after old new : List Stand) → Puts p b before old
    → Puts p a after new → (m : Move) → pair_cmp p m.pair ≡ Less → IsMove before after m → IsMove old new m
still_move p b a before after old new x y m l h = (
  h.0 ∙ sym (elsewhere p b before old m.pair x (ap is_eq l)),
  h.1 ∙ sym (elsewhere p a after new m.pair y (ap is_eq l)),
  h.2,
)

still_moves : (p : Pair) (b a : Option Class) (before after old new : List Stand) → Puts p b before old
    → Puts p a after new → (moves : List Move) → AboveMoves p moves → All (IsMove before after) moves
    → All (IsMove old new) moves
unfolding AboveMoves
still_moves p b a before after old new x y moves above each i d l =
    still_move p b a before after old new x y (get_or moves i d) (above i d l) (each i d l)

-- where the standings differ in what was put at p and elsewhere
agree_at : (p : Pair) (class : Option Class) (rest whole : List Stand) (q : Pair) → Puts p class rest whole
    → pair_eq p q ≡ true → class_in whole q ≡ class
agree_at p class rest whole q h e = h q ∙ ap (λ b. cond b class (class_in rest q)) e

-- a pair at which both standings agree is no move
one_stays : (p : Pair) (b a : Option Class) (before after old new : List Stand) → Puts p b before old
    → Puts p a after new → (moves : List Move) → AboveMoves p moves → b ≡ a → AreMoves before after moves
    → AreMoves old new moves
one_stays p b a before after old new x y moves above same h = record {
  in_order = h.in_order;
  each = still_moves p b a before after old new x y moves above h.each;
  all = λ q ne. elim (cases_Bool (pair_eq p q)) [
    | inl t ↦ absurd (ne (agree_at p b before old q x t ∙ same ∙ sym (agree_at p a after new q y t)))
    | inr f ↦ h.all q (λ e. ne (elsewhere p b before old q x f ∙ e ∙ sym (elsewhere p a after new q y f)))
  ];
}

-- a pair at which they differ is the first move
one_moves : (p : Pair) (b a : Option Class) (before after old new : List Stand) → Puts p b before old
    → Puts p a after new → (moves : List Move) → AboveMoves p moves → b ≢ a → AreMoves before after moves
    → AreMoves old new (record { pair = p; before = b; after = a } ∷ moves)
unfolding AboveMoves
one_moves p b a before after old new x y moves above other h =
    let m : Move = record { pair = p; before = b; after = a } in
    let itself : pair_eq p p ≡ true = (pair_eq-Decides p p).1 refl in
    record {
      in_order = AllPairs-cons (λ (m n : Move). pair_cmp m.pair n.pair ≡ Less) m moves above h.in_order;
      each = All-cons (IsMove old new) m moves
          (sym (agree_at p b before old p x itself), sym (agree_at p a after new p y itself), other)
          (still_moves p b a before after old new x y moves above h.each);
      all = λ q ne. elim (cases_Bool (pair_eq p q)) [
        | inl t ↦ (0, omega arith, (pair_eq-Decides p q).0 t)
        | inr f ↦ Contains-append_right (p ∷ []) (map (λ m. m.pair) moves) q
            (h.all q (λ e. ne (elsewhere p b before old q x f ∙ e ∙ sym (elsewhere p a after new q y f))))
      ];
    }

-- the moves between the rests come after p
moves_above : (p : Pair) (before after : List Stand) → Above p before → Above p after
    → AboveMoves p (moves_between before after)
unfolding AboveMoves
moves_above p before after b a = All-moves_between (λ q. pair_cmp p q ≡ Less) before after b a

leaves_first : (s : Stand) (before after : List Stand) → Above s.pair before → Above s.pair after
    → AreMoves before after (moves_between before after) → AreMoves (s ∷ before) after
    (leaves s ∷ moves_between before after)
leaves_first s before after b a h =
    one_moves s.pair (Some s.class) None before after (s ∷ before) after (puts_same s.pair s before refl)
    (puts_none s.pair after a)
    (moves_between before after) (moves_above s.pair before after b a) (λ e. cc e) h

comes_first : (t : Stand) (before after : List Stand) → Above t.pair before → Above t.pair after
    → AreMoves before after (moves_between before after) → AreMoves before (t ∷ after)
    (comes t ∷ moves_between before after)
comes_first t before after b a h =
    one_moves t.pair None (Some t.class) before after before (t ∷ after) (puts_none t.pair before b)
    (puts_same t.pair t after refl)
    (moves_between before after) (moves_above t.pair before after b a) (λ e. cc e) h

some_same : (a b : Class) → Some a ≡ Some b → a ≡ b
some_same a b e = cc e

changes_first : (s t : Stand) (before after : List Stand) → s.pair ≡ t.pair → Above s.pair before → Above s.pair after
    → AreMoves before after (moves_between before after) → AreMoves (s ∷ before) (t ∷ after)
    (changes s t ++ moves_between before after)
changes_first s t before after e b a h =
    let x = puts_same s.pair s before refl in
    let y = puts_same s.pair t after e in
    let above = moves_above s.pair before after b a in
    let decides = same_class-Decides s.class t.class in
    elim (cases_Bool (same_class s.class t.class)) [
      | inl same ↦ rw same
          (one_stays s.pair (Some s.class) (Some t.class) before after (s ∷ before) (t ∷ after) x y
          (moves_between before after) above (ap (λ (k : Class). Some k) (decides.0 same)) h)
      | inr other ↦ rw other
          (one_moves s.pair (Some s.class) (Some t.class) before after (s ∷ before) (t ∷ after) x y
          (moves_between before after) above
          (λ c. (let k : true ≡ false = sym (decides.1 (some_same s.class t.class c)) ∙ other in cc k)) h)
    ]

are_moves_by : (o : Ordering) (s t : Stand) (before after : List Stand) → pair_cmp s.pair t.pair ≡ o
    → IsStanding (s ∷ before) → IsStanding (t ∷ after) → AreMoves before (t ∷ after) (moves_between before (t ∷ after))
    → AreMoves before after (moves_between before after) → AreMoves (s ∷ before) after
    (moves_between (s ∷ before) after) → AreMoves (s ∷ before) (t ∷ after)
    (moves_by o s t (moves_between before (t ∷ after)) (moves_between before after) (moves_between (s ∷ before) after))
are_moves_by Less s t before after e b a l m g =
    leaves_first s before (t ∷ after) (standing_head s before b) (above_all s.pair t after e a) l
are_moves_by Equal s t before after e b a l m g =
    let same : s.pair ≡ t.pair = pair_cmp-IsAntisymmetric s.pair t.pair e in
    changes_first s t before after same (standing_head s before b) (rw same (standing_head t after a)) m
are_moves_by Greater s t before after e b a l m g =
    comes_first t (s ∷ before) after
    (above_all t.pair s before (pair_total.antisymm t.pair s.pair ∙ ap ordering_reverse e) b)
    (standing_head t after a) g

are_moves_past : (s : Stand) (before : List Stand) → IsStanding (s ∷ before)
    → ((after : List Stand) → IsStanding after → AreMoves before after (moves_between before after))
    → (after : List Stand) → IsStanding after → AreMoves (s ∷ before) after (moves_between (s ∷ before) after)
are_moves_past s before b h [] a = leaves_first s before [] (standing_head s before b)
    (All-nil (λ (x : Stand). pair_cmp s.pair x.pair ≡ Less)) (h [] a)
are_moves_past s before b h (t ∷ after) a =
    let rest = standing_tail t after a in
    are_moves_by (pair_cmp s.pair t.pair) s t before after refl b a (h (t ∷ after) a) (h after rest)
    (are_moves_past s before b h after rest)

are_arrivals : (after : List Stand) → IsStanding after → AreMoves [] after (moves_between [] after)
are_arrivals [] a =
    record {
      in_order = λ i j d l m. absurd (omega arith);
      each = All-nil (IsMove [] []);
      all = λ p ne. absurd
          (ne refl);
    }
are_arrivals (t ∷ after) a =
    comes_first t [] after (All-nil (λ (x : Stand). pair_cmp t.pair x.pair ≡ Less)) (standing_head t after a)
    (are_arrivals after (standing_tail t after a))

-- where both standings are in order, the walk gives the moves
pub are_moves : (before after : List Stand) → IsStanding before → IsStanding after
    → AreMoves before after (moves_between before after)
are_moves [] after b a = are_arrivals after a
are_moves (s ∷ before) after b a = are_moves_past s before b
    (λ more c. are_moves before more (standing_tail s before b) c) after a
