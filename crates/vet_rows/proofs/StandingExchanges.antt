-- What recorded moves make of the rows of the standing and of moves.
use Rattle.std.proofs.Common.{◌≡◌, ◌≢◌, ◌⊎◌, ℕ, ◌<◌, pos, inl, inr, Bool, true, false, cond, List, [], ◌∷◌, ◌++◌, map}
use Rattle.std.proofs.Common.{refl, sym, ap, subst, ◌∙◌, arith, is_none, is_some, Option, Some, None}
use Rattle.std.specs.List.{All, AllPairs, Contains, filter}
use Rattle.std.proofs.lemmas.Bool.{false≢true}
use Rattle.vet_base.specs.Items.{IsIn}
use Rattle.vet_base.specs.Version.{IsVersion, version_text}
use Rattle.vet_base.proofs.ItemLemmas.{filter_in, in_all, in_append, in_back, in_filter, in_front, in_map, map_in}
use Rattle.vet_base.proofs.ItemLemmas.{pairs_head, pairs_tail}
use Rattle.vet_base.proofs.ListLemmas.{Contains-cons_cases}
use Rattle.vet_demand.specs.declared.pair.Pair.{Pair}
use Rattle.vet_demand.specs.Pair.{pair_cmp, pair_eq}
use Rattle.vet_demand.specs.PairLaws.{pair_eq-Decides, pair_total}
use Rattle.std.specs.Cmp.{tied_itself}
use Rattle.std.specs.declared.cmp.Ordering.TheVariants.{Less}
use Rattle.vet_graph.specs.declared.class.Class.{Class}
use Rattle.vet_graph.specs.declared.class.Class.TheVariants.{Conflicting, Full, Partial, Exempted, Unvetted}
use Rattle.vet_graph.specs.declared.moves.Move.{Move}
use Rattle.vet_graph.specs.declared.standing.Stand.{Stand}
use Rattle.vet_graph.specs.Moves.{AreMoves}
use Rattle.vet_graph.specs.Standing.{IsStanding, class_in, pairs_of}
use Rattle.vet_item_rows.specs.Columns.{class_or_none}
use Rattle.vet_item_rows.specs.StandingRows.{standing_row}
use Rattle.vet_register.specs.declared.moves.RecordedMove.{RecordedMove}
use Rattle.vet_register.specs.State.{changes_of}
use Rattle.vet_rows.specs.StandingChanges.{leaves, moved_row, stands}
use Rattle.vet_rows.specs.StandingRows.{move_row}
use Rattle.vet_rows.proofs.DemandExchanges.{one_version}
use Rattle.vet_rows.proofs.Exchanges.{HasKeyOf, IsExchange}
use Rattle.vet_rows.proofs.RowViews.{told_once}
use Rattle.vet_rows.proofs.FitRows.{moved_fits}
use Rattle.vet_rows.proofs.SameKeys.{own_key, same_number, same_text}
use Rattle.vet_tables.specs.Cells.{Row, same_key as same_keys}
use Rattle.vet_tables.specs.Forms.{form_of}
use Rattle.vet_tables.specs.declared.cell.Cell.TheVariants.{Int, Text}
use Rattle.vet_tables.specs.declared.table_name.TableName.TheVariants.{Moves, Standing}

abbrev same_standing : Row → Row → Bool
same_standing = same_keys (form_of Standing)

abbrev same_move : Row → Row → Bool
same_move = same_keys (form_of Moves)

-- ---- the class of a pair in a standing

-- whether two classes are the same
class_decides : (a b : Class) → (a ≡ b) ⊎ (a ≢ b)
class_decides Conflicting Conflicting = inl refl
class_decides Conflicting Full = inr (λ e. cc e)
class_decides Conflicting Partial = inr (λ e. cc e)
class_decides Conflicting Exempted = inr (λ e. cc e)
class_decides Conflicting Unvetted = inr (λ e. cc e)
class_decides Full Conflicting = inr (λ e. cc e)
class_decides Full Full = inl refl
class_decides Full Partial = inr (λ e. cc e)
class_decides Full Exempted = inr (λ e. cc e)
class_decides Full Unvetted = inr (λ e. cc e)
class_decides Partial Conflicting = inr (λ e. cc e)
class_decides Partial Full = inr (λ e. cc e)
class_decides Partial Partial = inl refl
class_decides Partial Exempted = inr (λ e. cc e)
class_decides Partial Unvetted = inr (λ e. cc e)
class_decides Exempted Conflicting = inr (λ e. cc e)
class_decides Exempted Full = inr (λ e. cc e)
class_decides Exempted Partial = inr (λ e. cc e)
class_decides Exempted Exempted = inl refl
class_decides Exempted Unvetted = inr (λ e. cc e)
class_decides Unvetted Conflicting = inr (λ e. cc e)
class_decides Unvetted Full = inr (λ e. cc e)
class_decides Unvetted Partial = inr (λ e. cc e)
class_decides Unvetted Exempted = inr (λ e. cc e)
class_decides Unvetted Unvetted = inl refl

decides : (a b : Option Class) → (a ≡ b) ⊎ (a ≢ b)
decides None None = inl refl
decides None (Some b) = inr (λ e. cc e)
decides (Some a) None = inr (λ e. cc e)
decides (Some a) (Some b) = elim (class_decides a b) [
  | inl same ↦ inl (ap Some same)
  | inr other ↦ inr (λ e. other (cc e))
]

abbrev stand : Pair → Class → Stand
stand p c = record { pair = p; class = c }

-- a pair that has a class stands there
class_stands : (standing : List Stand) (p : Pair) (c : Class) → class_in standing p ≡ Some c → IsIn (stand p c) standing
class_stands [] p c e = absurd (cc e)
class_stands (s ∷ rest) p c e = by (class_stands rest p c) (pair_eq s.pair p) refl e
  where
    by : (class_in rest p ≡ Some c → IsIn (stand p c) rest) → (b : Bool) → pair_eq s.pair p ≡ b
        → (let found : Option Class = cond b (Some s.class) (class_in rest p) in found) ≡ Some c
        → IsIn (stand p c) (s ∷ rest)
    by later true t h = inl (let same : s.class ≡ c = cc h in
        λ i. stand (sym ((pair_eq-Decides s.pair p).0 t) i) (sym same i))
    by later false t h = inr (later h)

-- the class of a pair that stands
stands_class : (standing : List Stand) (s : Stand) → IsStanding standing → IsIn s standing
    → class_in standing s.pair ≡ Some s.class
stands_class [] s up i = absurd i
stands_class (t ∷ rest) s up (inl e) =
    ap (λ b. cond b (Some t.class) (class_in rest s.pair))
    ((pair_eq-Decides t.pair s.pair).1 (ap (λ (x : Stand). x.pair)
    (sym e)))
    ∙ ap (λ (x : Stand). Some x.class) (sym e)
stands_class (t ∷ rest) s up (inr i) =
    ap (λ b. cond b (Some t.class) (class_in rest s.pair)) (other (pair_eq t.pair s.pair) refl)
    ∙ stands_class rest s (pairs_tail (λ p q. pair_cmp p q ≡ Less) t.pair (pairs_of rest) up) i
  where
    behind : pair_cmp t.pair s.pair ≡ Less
    behind = in_all (λ q. pair_cmp t.pair q ≡ Less) (pairs_of rest)
        (pairs_head (λ p q. pair_cmp p q ≡ Less) t.pair (pairs_of rest) up) s.pair
        (map_in (λ (x : Stand). x.pair) rest s i)

    other : (b : Bool) → pair_eq t.pair s.pair ≡ b → b ≡ false
    other true t' = (let same = (pair_eq-Decides t.pair s.pair).0 t' in
        absurd (cc (sym behind ∙ ap (λ p. pair_cmp p s.pair) same ∙ tied_itself pair_total s.pair)))
    other false t' = refl

some_is : (o : Option Class) → is_some o ≡ true → (c : Class) × (o ≡ Some c)
some_is (Some c) t = (c, refl)
some_is None t = absurd (false≢true t)

none_is : (o : Option Class) → is_none o ≡ true → o ≡ None
none_is None t = refl
none_is (Some c) t = absurd (false≢true t)

-- ---- the rows of pairs

-- rows of one key are of one pair, where the versions are read from their texts
pub one_pair : (p q : Pair) → IsVersion p.version → IsVersion q.version → p.«package» ≡ q.«package»
    → version_text p.version ≡ version_text q.version → p.criterion ≡ q.criterion → p ≡ q
one_pair p q is_p is_q names texts criteria =
    (let versions = one_version p.version q.version is_p is_q texts in
    λ i. record { «package» = names i; version = versions i; criterion = criteria i })

contained : {X : Type 0} (xs : List X) (x : X) → Contains xs x → IsIn x xs
contained [] x h = absurd (omega (arith, h.1))
contained (y ∷ ys) x h = elim (Contains-cons_cases y ys x h) [
  | inl e ↦ inl (sym e)
  | inr later ↦ inr (contained ys x later)
]

module _ (before after : List Stand) (moves : List RecordedMove) (up : IsStanding before) (up_after : IsStanding after)
    (are : AreMoves before after (changes_of moves))
    (read : (s : Stand) → IsIn s before → IsVersion s.pair.version)
    (read_moves : (m : RecordedMove) → IsIn m moves → IsVersion m.change.pair.version) where
  moved : (m : RecordedMove) → IsIn m moves
      → (m.change.before ≡ class_in before m.change.pair) × (m.change.after ≡ class_in after m.change.pair)
  moved m i =
      let h = in_all (λ (x : Move). (x.before ≡ class_in before x.pair) × (x.after ≡ class_in after x.pair)
      × (x.before ≢ x.after)) (changes_of moves) are.each m.change
      (map_in (λ (x : RecordedMove). x.change) moves m i) in
      (h.0, h.1)

  -- a pair whose class differs has a move
  move_of : (p : Pair) → class_in before p ≢ class_in after p
      → (m : RecordedMove) × (IsIn m moves × (m.change.pair ≡ p))
  move_of p differs =
      let among = contained (map (λ (x : Move). x.pair) (changes_of moves)) p (are.all p differs) in
      let at = in_map (λ (x : Move). x.pair) (changes_of moves) p among in
      let m = in_map (λ (x : RecordedMove). x.change) moves at.0 at.1.0 in
      (m.0, (m.1.0, ap (λ (x : Move). x.pair) (sym m.1.1) ∙ sym at.1.1))

  -- the versions of all pairs after are read, too
  read_after : (s : Stand) → IsIn s after → IsVersion s.pair.version
  read_after s i = by (class_in before s.pair) refl
    where
      by : (c : Option Class) → class_in before s.pair ≡ c → IsVersion s.pair.version
      by (Some c) e = read (stand s.pair c) (class_stands before s.pair c e)
      by None e = (let m = move_of s.pair (λ same. cc (sym e ∙ same ∙ stands_class after s up_after i)) in
          subst (λ p. IsVersion p.version) m.1.1 (read_moves m.0 m.1.0))

  -- the row of a move and that of a stand have one key only where their pair is one
  pair_of : (m : RecordedMove) (s : Stand) → IsIn m moves → IsVersion s.pair.version
      → same_standing (moved_row m) (standing_row s) ≡ true → m.change.pair ≡ s.pair
  pair_of m s i is e =
      let same = same_text Standing (moved_row m) (standing_row s) e in
      one_pair m.change.pair s.pair (read_moves m i) is (same 0 (omega arith)) (same 1 (omega arith))
      (same 2 (omega arith))

  same_key : (m : RecordedMove) (s : Stand) → m.change.pair ≡ s.pair
      → same_standing (moved_row m) (standing_row s) ≡ true
  same_key m s e =
      ap (λ (p : Pair). same_standing (moved_row m) (standing_row (stand p s.class))) (sym e)
      ∙ own_key Standing (moved_row m) (moved_fits m)

  abbrev going : List Row
  going = map moved_row (filter leaves moves)

  abbrev coming : List Row
  coming = map moved_row (filter stands moves)

  -- the row of a move to a class is that of the stand
  row_of : (m : RecordedMove) (s : Stand) → m.change.pair ≡ s.pair → m.change.after ≡ Some s.class
      → moved_row m ≡ standing_row s
  row_of m s pairs classes =
      λ i. Text (pairs i).«package» ∷ Text (version_text (pairs i).version) ∷ Text (pairs i).criterion
      ∷ Int (class_or_none (classes i)) ∷ []

  come : (m : RecordedMove) (c : Class) → IsIn m moves → m.change.after ≡ Some c → IsIn (moved_row m) coming
  come m c i e = map_in moved_row (filter stands moves) m (filter_in stands moves m i (ap is_some e))

  go : (m : RecordedMove) → IsIn m moves → m.change.after ≡ None → IsIn (moved_row m) going
  go m i e = map_in moved_row (filter leaves moves) m (filter_in leaves moves m i (ap is_none e))

  -- what comes has a class after, and what goes has none
  comes_from : (r : Row) → IsIn r coming
      → (m : RecordedMove) × ((c : Class) × (IsIn m moves × ((r ≡ moved_row m) × (m.change.after ≡ Some c))))
  comes_from r i =
      let m = in_map moved_row (filter stands moves) r i in
      let at = in_filter stands moves m.0 m.1.0 in
      let c = some_is m.0.change.after at.1 in
      (m.0, (c.0, (at.0, (m.1.1, c.1))))

  goes_from : (r : Row) → IsIn r going
      → (m : RecordedMove) × (IsIn m moves × ((r ≡ moved_row m) × (m.change.after ≡ None)))
  goes_from r i =
      let m = in_map moved_row (filter leaves moves) r i in
      let at = in_filter leaves moves m.0 m.1.0 in
      (m.0, (at.0, (m.1.1, none_is m.0.change.after at.1)))

  -- the class after a move of a pair
  class_after : (m : RecordedMove) (p : Pair) → IsIn m moves → m.change.pair ≡ p
      → m.change.after ≡ class_in after p
  class_after m p i e = (moved m i).1 ∙ ap (class_in after) e

  stays_there : (s : Stand) (r : Row) (standing : List Stand) → class_in standing s.pair ≡ Some s.class
      → r ≡ standing_row s → IsIn r (map standing_row standing)
  stays_there s r standing e is =
      subst (λ x. IsIn x (map standing_row standing)) (sym is)
      (map_in standing_row standing s (class_stands standing s.pair s.class e))

  new_from : (s : Stand) (r : Row) → IsIn s after → r ≡ standing_row s
      → (class_in before s.pair ≡ class_in after s.pair) ⊎ (class_in before s.pair ≢ class_in after s.pair)
      → IsIn r coming ⊎ (IsIn r (map standing_row before) × (HasKeyOf same_standing r going → ⊥))
  new_from s r i is (inl same) =
      inr (
        stays_there s r before (same ∙ stands_class after s up_after i) is,
        λ h. (let m = goes_from h.0 h.1.0 in
            let e = subst (λ x. same_standing x (standing_row s) ≡ true) m.1.1.0
            (subst (λ x. same_standing h.0 x ≡ true) is h.1.1) in
            cc (sym m.1.1.1 ∙ class_after m.0 s.pair m.1.0 (pair_of m.0 s m.1.0 (read_after s i) e)
            ∙ stands_class after s up_after i)),
      )
  new_from s r i is (inr differs) =
      let m = move_of s.pair differs in
      let e = class_after m.0 s.pair m.1.0 m.1.1 ∙ stands_class after s up_after i in
      inl (subst (λ x. IsIn x coming) (row_of m.0 s m.1.1 e ∙ sym is) (come m.0 s.class m.1.0 e))

  old_to : (s : Stand) (r : Row) → IsIn s before → r ≡ standing_row s
      → (class_in before s.pair ≡ class_in after s.pair) ⊎ (class_in before s.pair ≢ class_in after s.pair)
      → IsIn r (map standing_row after) ⊎ (HasKeyOf same_standing r going ⊎ HasKeyOf same_standing r coming)
  old_to s r i is (inl same) = inl (stays_there s r after (sym same ∙ stands_class before s up i) is)
  old_to s r i is (inr differs) =
      let m = move_of s.pair differs in
      let e = subst (λ x. same_standing (moved_row m.0) x ≡ true) (sym is) (same_key m.0 s m.1.1) in
      by m.0 m.1.0 m.0.change.after refl e
    where
      by : (m : RecordedMove) → IsIn m moves → (o : Option Class) → m.change.after ≡ o
          → same_standing (moved_row m) r ≡ true
          → IsIn r (map standing_row after) ⊎ (HasKeyOf same_standing r going ⊎ HasKeyOf same_standing r coming)
      by m j None n e = inr (inl (moved_row m, (go m j n, e)))
      by m j (Some c) n e = inr (inr (moved_row m, (come m c j n, e)))

  pub standing_becomes : IsExchange same_standing going coming (map standing_row before) (map standing_row after)
  standing_becomes = record {
    come_in = λ r i. (let m = comes_from r i in
        let e = sym (moved m.0 m.1.1.0).1 ∙ m.1.1.1.1 in
        stays_there (stand m.0.change.pair m.1.0) r after e
        (m.1.1.1.0 ∙ row_of m.0 (stand m.0.change.pair m.1.0) refl m.1.1.1.1));
    new_from = λ r i. (let s = in_map standing_row after r i in
        new_from s.0 r s.1.0 s.1.1 (decides (class_in before s.0.pair) (class_in after s.0.pair)));
    old_to = λ r i. (let s = in_map standing_row before r i in
        old_to s.0 r s.1.0 s.1.1 (decides (class_in before s.0.pair) (class_in after s.0.pair)));
    keyed = λ r x i j e. (let m = comes_from r i in
        let s = in_map standing_row after x j in
        let same = subst (λ y. same_standing y (standing_row s.0) ≡ true) m.1.1.1.0
        (subst (λ y. same_standing r y ≡ true) s.1.1 e) in
        let pairs = pair_of m.0 s.0 m.1.1.0 (read_after s.0 s.1.0) same in
        m.1.1.1.0
        ∙ row_of m.0 s.0 pairs (class_after m.0 s.0.pair m.1.1.0 pairs ∙ stands_class after s.0 up_after s.1.0)
        ∙ sym s.1.1);
  }

-- ---- moves

same_pos : (m n : ℕ) → pos m ≡ pos n → m ≡ n
same_pos m n e = cc e

-- moves come behind those of earlier steps
pub moves_behind : (old more : List RecordedMove) (step : ℕ) → All (λ (m : RecordedMove). m.step < step) old
    → ((m : RecordedMove) → IsIn m more → m.step ≡ step)
    → AllPairs (λ (m n : RecordedMove). m.change.pair ≡ n.change.pair → ⊥) more
    → ((m : RecordedMove) → IsIn m more → IsVersion m.change.pair.version)
    → IsExchange same_move [] (map move_row more) (map move_row old) (map move_row (old ++ more))
moves_behind old more step earlier now differ read = record {
  come_in = λ r i. (let m = in_map move_row more r i in
      subst (λ x. IsIn x (map move_row (old ++ more))) (sym m.1.1)
      (map_in move_row (old ++ more) m.0 (in_back old more m.0 m.1.0)));
  new_from = λ r i. (let m = in_map move_row (old ++ more) r i in
      elim (in_append old more m.0 m.1.0) [
        | inl before ↦ inr
            (subst (λ x. IsIn x (map move_row old)) (sym m.1.1) (map_in move_row old m.0 before), λ h. h.1.0)
        | inr here ↦ inl (subst (λ x. IsIn x (map move_row more)) (sym m.1.1) (map_in move_row more m.0 here))
      ]);
  old_to = λ r i. (let m = in_map move_row old r i in
      inl (subst (λ x. IsIn x (map move_row (old ++ more))) (sym m.1.1)
      (map_in move_row (old ++ more) m.0 (in_front old more m.0 m.1.0))));
  keyed = λ r s i j e. (let m = in_map move_row more r i in
      let n = in_map move_row (old ++ more) s j in
      let one = subst (λ x. same_move x (move_row n.0) ≡ true) m.1.1 (subst (λ x. same_move r x ≡ true) n.1.1 e) in
      let same = same_text Moves (move_row m.0) (move_row n.0) one in
      let steps = same_pos m.0.step n.0.step (same_number Moves (move_row m.0) (move_row n.0) one 0 (omega arith)) in
      let at = now m.0 m.1.0 in
      elim (in_append old more n.0 n.1.0) [
        | inl before ↦ (let less : n.0.step < step = in_all (λ (x : RecordedMove). x.step < step) old earlier n.0 before
            in absurd (omega (arith, less, at, steps)))
        | inr here ↦ m.1.1
            ∙ ap move_row (told_once (λ (x : RecordedMove). x.change.pair) more differ m.0 n.0 m.1.0 here
            (one_pair m.0.change.pair n.0.change.pair (read m.0 m.1.0) (read n.0 here) (same 1 (omega arith))
            (same 2 (omega arith)) (same 3 (omega arith))))
            ∙ sym n.1.1
      ]);
}
