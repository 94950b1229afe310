-- Rows of a sound state that have the same key are the same row.
use Rattle.std.proofs.Common.{◌≡◌, ℕ, pos, inl, inr, true, [], ◌∷◌, map, refl, sym, ap, subst, ◌∙◌, arith}
use Rattle.std.proofs.Common.{Bool, get_or}
use Rattle.std.proofs.lemmas.Cmp.{nat_cmp_total}
use Rattle.std.specs.Cmp.{tied_itself}
use Rattle.std.specs.FinMap.{nat_cmp-IsAntisymmetric}
use Rattle.std.specs.List.{AllPairs}
use Rattle.std.specs.Ordering.{nat_cmp}
use Rattle.vet_base.proofs.ItemLemmas.{in_map}
use Rattle.vet_base.proofs.KeyedItems.{of_one_key}
use Rattle.vet_base.specs.Items.{IsIn}
use Rattle.vet_demand.specs.Pair.{pair_cmp}
use Rattle.vet_demand.specs.PairLaws.{pair_total}
use Rattle.vet_demand.specs.declared.pair.Pair.{Pair}
use Rattle.vet_desk.specs.Review.{review_number}
use Rattle.vet_graph.specs.StandingOf.{class_of_pair}
use Rattle.vet_graph.specs.declared.standing.Stand.{Stand}
use Rattle.vet_item_rows.specs.DeskRows.{review_row}
use Rattle.vet_item_rows.specs.StandingRows.{standing_row}
use Rattle.vet_register.specs.Sound.{IsSound}
use Rattle.vet_register.specs.State.{State, demanded, standing}
use Rattle.vet_register.specs.declared.moves.RecordedMove.{RecordedMove}
use Rattle.vet_rows.proofs.DayExchanges.{days_keyed}
use Rattle.vet_rows.proofs.FitDesk.{members_fit}
use Rattle.vet_rows.proofs.HeldExchanges.{HaveTexts, demand_keyed, facts_keyed}
use Rattle.vet_rows.proofs.HeldKeys.{have_keys}
use Rattle.vet_rows.proofs.RowViews.{told_once}
use Rattle.vet_rows.proofs.SameKeys.{same_number, same_text, same_whole}
use Rattle.vet_rows.proofs.StandingExchanges.{one_pair}
use Rattle.vet_rows.specs.DeskRows.{rows_of_desk}
use Rattle.vet_rows.specs.KeyTexts.{ArePeersNamed, KeysAreRead, MovesAreRead, PairsAreRead, ProjectsAreRead}
use Rattle.vet_rows.specs.RowKeys.{KeysDiffer}
use Rattle.vet_rows.specs.RowsOf.{meta_row, rows_of}
use Rattle.vet_rows.specs.StandingRows.{move_row}
use Rattle.vet_tables.specs.Cells.{Row, same_key}
use Rattle.vet_tables.specs.Forms.{form_of}
use Rattle.vet_tables.specs.declared.table_name.DeskTable.{DeskTable}
use Rattle.vet_tables.specs.declared.table_name.DeskTable.TheVariants.{Members, Reviews}
use Rattle.vet_tables.specs.declared.table_name.TableName.{TableName}
use Rattle.vet_tables.specs.declared.table_name.TableName.TheVariants as table

-- rows of a table of the same key
abbrev same_in : TableName → Row → Row → Bool
same_in name = same_key (form_of name)

same_pos : (m n : ℕ) → pos m ≡ pos n → m ≡ n
same_pos m n e = cc e

-- what is said of two rows is said of what they are
of_these : (name : TableName) (r s a b : Row) → r ≡ a → s ≡ b → same_in name r s ≡ true → same_in name a b ≡ true
of_these name r s a b is also e =
    subst (λ x. same_in name x b ≡ true) is (subst (λ x. same_in name r x ≡ true) also e)

-- the step and the pair of a move
abbrev place : RecordedMove → ℕ × Pair
place m = (m.step, m.change.pair)

module _ (s : State) (sound : IsSound s) (named : ArePeersNamed s.held.facts.peers)
    (keys : KeysAreRead s.held.policies) (projects : ProjectsAreRead s.held.projects)
    (pairs : PairsAreRead (demanded s)) (moves : MovesAreRead s.moves) where
  texts : HaveTexts s.held
  texts = record {
    facts = have_keys s.held.facts s.next_entry sound.held.facts named;
    policies = sound.held.policies.by_key;
    read = keys;
    projects = sound.held.projects.by_name;
  }

  -- ---- the one row of `meta`

  meta_keyed : (r x : Row) → IsIn r (meta_row s ∷ []) → IsIn x (meta_row s ∷ []) → r ≡ x
  meta_keyed r x (inl a) (inl b) = a ∙ sym b
  meta_keyed r x (inl a) (inr none) = absurd none
  meta_keyed r x (inr none) j = absurd none

  -- ---- the standing

  abbrev stand_at : Pair → Stand
  stand_at p = record { pair = p; class = class_of_pair s.held.facts p }

  -- a row of the standing is that of a demanded pair
  pair_of : (r : Row) → IsIn r (map standing_row (standing s))
      → (p : Pair) × (IsIn p (demanded s) × (r ≡ standing_row (stand_at p)))
  pair_of r i =
      let stand = in_map standing_row (standing s) r i in
      let p = in_map stand_at (demanded s) stand.0 stand.1.0 in
      (p.0, (p.1.0, stand.1.1 ∙ ap standing_row p.1.1))

  standing_keyed : (r x : Row) → IsIn r (map standing_row (standing s)) → IsIn x (map standing_row (standing s))
      → same_in table.Standing r x ≡ true → r ≡ x
  standing_keyed r x i j e =
      let p = pair_of r i in
      let q = pair_of x j in
      let same = same_text table.Standing (standing_row (stand_at p.0)) (standing_row (stand_at q.0))
      (of_these table.Standing r x (standing_row (stand_at p.0)) (standing_row (stand_at q.0)) p.1.1 q.1.1 e) in
      let one = one_pair p.0 q.0 (pairs p.0 p.1.0) (pairs q.0 q.1.0) (same 0 (omega arith)) (same 1 (omega arith))
      (same 2 (omega arith)) in
      p.1.1 ∙ ap (λ n. standing_row (stand_at n)) one ∙ sym q.1.1

  -- ---- moves

  -- no two moves are of the same step and pair
  moves_apart : AllPairs (λ (m n : RecordedMove). place m ≡ place n → ⊥) s.moves
  moves_apart i j d l m same = elim (sound.moves.in_order i j d l m) [
    | inl less ↦ (let steps = ap (λ (p : ℕ × Pair). p.0) same in omega (arith, less, steps))
    | inr later ↦ cc (sym later.1
        ∙ ap (λ (p : ℕ × Pair). pair_cmp p.1 (get_or s.moves j d).change.pair) same
        ∙ tied_itself pair_total (get_or s.moves j d).change.pair)
  ]

  moves_keyed : (r x : Row) → IsIn r (map move_row s.moves) → IsIn x (map move_row s.moves)
      → same_in table.Moves r x ≡ true → r ≡ x
  moves_keyed r x i j e =
      let m = in_map move_row s.moves r i in
      let n = in_map move_row s.moves x j in
      let one = of_these table.Moves r x (move_row m.0) (move_row n.0) m.1.1 n.1.1 e in
      let same = same_text table.Moves (move_row m.0) (move_row n.0) one in
      let steps = same_pos m.0.step n.0.step
      (same_number table.Moves (move_row m.0) (move_row n.0) one 0 (omega arith)) in
      let pair = one_pair m.0.change.pair n.0.change.pair (moves m.0 m.1.0) (moves n.0 n.1.0) (same 1 (omega arith))
      (same 2 (omega arith)) (same 3 (omega arith)) in
      m.1.1
      ∙ ap move_row (told_once place s.moves moves_apart m.0 n.0 m.1.0 n.1.0 (λ k. (steps k, pair k)))
      ∙ sym n.1.1

  -- ---- the desk

  reviews_keyed : (r x : Row) → IsIn r (map review_row s.desk.reviews) → IsIn x (map review_row s.desk.reviews)
      → same_in (table.Desk Reviews) r x ≡ true → r ≡ x
  reviews_keyed r x i j e =
      let p = in_map review_row s.desk.reviews r i in
      let q = in_map review_row s.desk.reviews x j in
      let one = of_these (table.Desk Reviews) r x (review_row p.0) (review_row q.0) p.1.1 q.1.1 e in
      let numbers = same_pos p.0.number q.0.number
      (same_number (table.Desk Reviews) (review_row p.0) (review_row q.0) one 0 (omega arith)) in
      p.1.1
      ∙ ap review_row (of_one_key nat_cmp nat_cmp_total nat_cmp-IsAntisymmetric review_number s.desk.reviews
      sound.desk.desk.reviews.numbers_rise p.0 q.0 p.1.0 q.1.0 numbers)
      ∙ sym q.1.1

  desk_keyed : (t : DeskTable) (r x : Row) → IsIn r (rows_of_desk s.desk t) → IsIn x (rows_of_desk s.desk t)
      → same_in (table.Desk t) r x ≡ true → r ≡ x
  desk_keyed Members r x i j e =
      same_whole (table.Desk Members) refl r x (members_fit s.desk.members r i) (members_fit s.desk.members x j) e
  desk_keyed Reviews r x i j e = reviews_keyed r x i j e

  -- ---- all tables

  pub keys_differ : KeysDiffer (rows_of s)
  keys_differ table.Meta r x i j e = meta_keyed r x i j
  keys_differ (table.Facts t) r x i j e = facts_keyed s.held.facts texts.facts t r x i j e
  keys_differ (table.Demand t) r x i j e = demand_keyed s.held texts projects t r x i j e
  keys_differ table.Standing r x i j e = standing_keyed r x i j e
  keys_differ table.Moves r x i j e = moves_keyed r x i j e
  keys_differ (table.Desk t) r x i j e = desk_keyed t r x i j e
  keys_differ (table.Days t) r x i j e = days_keyed s.held.facts texts.facts t r x i j e
