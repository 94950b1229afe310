-- The rows that a prepared change removes and adds make the rows of the state after it.
use Rattle.std.proofs.Common.{◌≡◌, ◌⊎◌, ℕ, ◌+◌, ◌<◌, ◌≤◌, inl, inr, Bool, true, false, cond, List, [], ◌∷◌, ◌++◌}
use Rattle.std.proofs.Common.{map, refl, sym, ap, subst, ◌∙◌, arith, get_or, Option, Some, None}
use Rattle.std.specs.List.{All, AllPairs}
use Rattle.std.specs.Ordering.{nat_cmp}
use Rattle.vet_base.specs.Day.{DayValue}
use Rattle.vet_base.specs.Items.{IsIn}
use Rattle.vet_base.specs.Version.{IsVersion}
use Rattle.vet_base.specs.Keyed.{IsByKey}
use Rattle.vet_base.proofs.ItemLemmas.{all_in, in_all, in_append, in_map, map_in, pairs_head, pairs_none, pairs_tail}
use Rattle.std.proofs.lemmas.List.Kept.{AllPairs-cons}
use Rattle.vet_desk.specs.Review.{review_number}
use Rattle.vet_item_rows.specs.Columns.{class_or_none}
use Rattle.vet_item_rows.specs.DeskRows.{member_row, review_row}
use Rattle.vet_item_rows.specs.Numbers.{ReviewFits}
use Rattle.vet_register.specs.declared.command.Action.TheVariants as action
use Rattle.vet_rows.specs.AddedNumbers.{AddedNumbersFit, ReviewsFit}
use Rattle.vet_rows.specs.Numbers.{CountsFit}
use Rattle.vet_rows.specs.RowChanges.{all_changed}
use Rattle.vet_rows.specs.RowExchanges.{row_changes_of}
use Rattle.vet_demand.specs.declared.pair.Pair.{Pair}
use Rattle.vet_demand.specs.DemandOf.{DemandIsLeast}
use Rattle.vet_demand.specs.Pair.{pair_cmp}
use Rattle.vet_demand.specs.PairLaws.{pair_total}
use Rattle.std.specs.Cmp.{tied_itself}
use Rattle.std.specs.declared.cmp.Ordering.TheVariants.{Less}
use Rattle.vet_desk.specs.Desk.{DeskState}
use Rattle.vet_desk.specs.DeskView.{DeskRoom}
use Rattle.vet_graph.specs.declared.moves.Move.{Move}
use Rattle.vet_graph.specs.declared.standing.Stand.{Stand}
use Rattle.vet_graph.specs.Keeping.{Keeping}
use Rattle.vet_graph.specs.Moves.{AreMoves, MovesAreDifferences, moves_between}
use Rattle.vet_graph.specs.Standing.{IsStanding}
use Rattle.vet_graph.specs.StandingOf.{class_of_pair}
use Rattle.vet_register.specs.declared.change.Change.{Change}
use Rattle.vet_register.specs.declared.change.DeskEdit.{DeskEdit}
use Rattle.vet_register.specs.declared.command.Action.{Action}
use Rattle.vet_register.specs.declared.command.Command.{Command}
use Rattle.vet_register.specs.declared.moves.RecordedMove.{RecordedMove}
use Rattle.vet_register.specs.declared.moves.Recording.{Recording}
use Rattle.vet_register.specs.declared.moves.Recording.TheVariants.{Behind, Anew}
use Rattle.vet_register.specs.Changes.{changed, desk_edited, moves_by}
use Rattle.vet_register.specs.Held.{HeldValue, demand_in, standing_in}
use Rattle.vet_register.specs.Machine.{ends_period, held_after, moves_after, moves_of, next, recorded, records_of}
use Rattle.vet_register.specs.RegisterView.{HoldsDesk, IsPrepared, RegisterView}
use Rattle.vet_register.specs.Sound.{IsSound, IsSoundHeld}
use Rattle.vet_register.specs.State.{State, changes_of, demanded, standing}
use Rattle.vet_register.proofs.Soundness.{standing_in_order}
use Rattle.vet_rows.specs.ChangedRows.{change_exchanges}
use Rattle.vet_rows.specs.DayChanges.{day_exchanges}
use Rattle.vet_rows.specs.DeskChanges.{desk_exchanges}
use Rattle.vet_rows.specs.DeskRows.{rows_of_desk}
use Rattle.vet_rows.specs.HeldChanges.{held_exchanges}
use Rattle.vet_rows.specs.KeyTexts.{AreRead, MovesAreRead}
use Rattle.vet_rows.specs.RowsOf.{meta_row, rows_of}
use Rattle.vet_rows.specs.StandingChanges.{clear_moves, move_exchanges, moves_added, recorded_moves}
use Rattle.vet_rows.specs.StandingRows.{move_row}
use Rattle.vet_rows.specs.StandingChanges.{IsOfMove, IsOfMoves, leaves, moved_row, stands}
use Rattle.vet_rows.specs.declared.row_change.RowChange.{RowChange}
use Rattle.vet_rows.specs.declared.row_changes.exchange.Exchange.{Exchange}
use Rattle.vet_rows.proofs.AddedNumbers.{held_entries_come, moves_come, reviews_come}
use Rattle.vet_rows.proofs.NumbersFit.{numbers_fit}
use Rattle.vet_rows.proofs.OnlyStanding.{others_named}
use Rattle.std.specs.List.{AllByRecursion, filter, flat_map}
use Rattle.vet_base.proofs.ItemLemmas.{in_filter}
use Rattle.vet_rows.proofs.ChangeParts.{all_rise, days_end, days_part, days_rise, desk_end, desk_part, desk_rise}
use Rattle.vet_rows.proofs.ChangeParts.{held_end, held_part, held_rise, in_place, moves_end, moves_part, of_parts}
use Rattle.vet_rows.proofs.DayExchanges.{days_become}
use Rattle.vet_rows.proofs.DeskExchanges.{members_become, reviews_become}
use Rattle.vet_rows.proofs.ExchangeParts.{Leads, LeadsByDifference, Makes, made_by, of_table}
use Rattle.vet_rows.proofs.Exchanges.{IsExchange, stays}
use Rattle.vet_rows.proofs.HeldExchanges.{HaveTexts, demand_become, facts_become}
use Rattle.vet_rows.proofs.HeldKeys.{have_keys}
use Rattle.vet_rows.proofs.StandingExchanges.{moves_behind, standing_becomes}
use Rattle.vet_rows.proofs.TableChanges.{changed-append, exchanges_lead}
use Rattle.vet_tables.proofs.TablePlaces.{same_or_other}
use Rattle.vet_tables.proofs.TableRows.{cleared_elsewhere}
use Rattle.vet_tables.specs.Cells.{Row, RowsValue, SameRows, same_key}
use Rattle.vet_tables.specs.Forms.{code, form_of}
use Rattle.vet_tables.specs.declared.cell.Cell.TheVariants.{Int}
use Rattle.vet_tables.specs.declared.table_name.DeskTable.{DeskTable}
use Rattle.vet_tables.specs.declared.table_name.DeskTable.TheVariants.{Members, Reviews}
use Rattle.vet_tables.specs.declared.table_name.TableName.{TableName}
use Rattle.vet_tables.specs.declared.table_name.TableName.TheVariants as table

-- rows of a table of the same key
abbrev same_in : TableName → Row → Row → Bool
same_in name = same_key (form_of name)

-- ---- what is recorded

-- what comes behind a list tells what it is
same_behind : {X : Type 0} (xs ys zs : List X) → xs ++ ys ≡ xs ++ zs → ys ≡ zs
same_behind [] ys zs e = e
same_behind (x ∷ xs) ys zs e = same_behind xs ys zs (cc e)

-- the moves that are recorded are those of the command, unless it ends the period
more_is : (old more records : List RecordedMove) (ends : Bool)
    → old ++ more ≡ (let after : List RecordedMove = cond ends [] (old ++ records) in after)
    → ((ends ≡ true) × (more ≡ [])) ⊎ ((ends ≡ false) × (more ≡ records))
more_is old more records false e = inr (refl, same_behind old more records e)
more_is [] more records true e = inl (refl, e)
more_is (m ∷ old) more records true e = absurd (cc e)

none_more : (old records : List RecordedMove) (ends : Bool)
    → [] ≡ (let after : List RecordedMove = cond ends [] (old ++ records) in after)
    → (ends ≡ true) ⊎ (records ≡ [])
none_more old records true e = inl refl
none_more [] records false e = inr (sym e)
none_more (m ∷ old) records false e = absurd (cc e)

-- ---- standings

-- the standing of what is held and sound is in order
sound_standing : DemandIsLeast → (held : HeldValue) (n : ℕ) → IsSoundHeld held n → IsStanding (standing_in held)
sound_standing least held n h =
    standing_in_order held.facts (demand_in held)
    (least held.projects held.policies held.facts.criteria h.facts.criteria h.policies.known).in_order

-- where nothing moves, there is no move
still : (before : List Stand) (moves : List Move) → AreMoves before before moves → moves ≡ []
still before [] are = refl
still before (m ∷ moves) are =
    (let h = are.each 0 m (omega arith) in absurd (h.2 (h.0 ∙ sym h.1)))

-- the end of a period leaves what is held
ends_only : (s : State) (day : DayValue) (a : Action) → ends_period a ≡ true → held_after s day a ≡ s.held
ends_only s day (action.SetCriterion c) h = cc h
ends_only s day (action.RemoveCriterion n) h = cc h
ends_only s day (action.AddEntry e) h = cc h
ends_only s day (action.DropEntry n) h = cc h
ends_only s day (action.SetPeer settings) h = cc h
ends_only s day (action.DropPeer n) h = cc h
ends_only s day (action.ImportPeer n content) h = cc h
ends_only s day (action.SetPublishers n records) h = cc h
ends_only s day (action.SetPolicy policy) h = cc h
ends_only s day (action.DropPolicy key) h = cc h
ends_only s day (action.LoadProject project) h = cc h
ends_only s day (action.DropProject n) h = cc h
ends_only s day (action.ReplaceFiles f) h = cc h
ends_only s day (action.Desk command) h = cc h
ends_only s day action.SetDay h = cc h
ends_only s day action.ClosePeriod h = refl

-- pairs of what is told of items are pairs of the items
pairs_unmap : {X Y : Type 0} (f : X → Y) (R : Y → Y → Type 0) (xs : List X) → AllPairs R (map f xs)
    → AllPairs (λ a b. R (f a) (f b)) xs
pairs_unmap f R [] up = pairs_none (λ a b. R (f a) (f b))
pairs_unmap f R (x ∷ xs) up =
    AllPairs-cons (λ a b. R (f a) (f b)) x xs
    (all_in (λ b. R (f x) (f b)) xs
    (λ y i. in_all (R (f x)) (map f xs) (pairs_head R (f x) (map f xs) up) (f y) (map_in f xs y i)))
    (pairs_unmap f R xs (pairs_tail R (f x) (map f xs) up))

-- ---- the desk

module _ (s : State) (room : DeskRoom) where
  members_are : (e : Option DeskEdit) → HoldsDesk e (record { content = s.desk; room = room })
      → IsSound s
      → Leads (table.Desk Members) (desk_exchanges e s.desk) (map member_row s.desk.members)
      (map member_row (desk_edited e s.desk).members)
  members_are None holds sound = stays (same_in (table.Desk Members)) (map member_row s.desk.members)
  members_are (Some e) holds sound =
      members_become e.change s.desk room e.entry holds.prepared.fits sound.desk.desk.members.by_name

  reviews_are : (e : Option DeskEdit) (after : State) → desk_edited e s.desk ≡ after.desk → IsSound s → IsSound after
      → Leads (table.Desk Reviews) (desk_exchanges e s.desk) (map review_row s.desk.reviews)
      (map review_row (desk_edited e s.desk).reviews)
  reviews_are None after is sound sound_after = stays (same_in (table.Desk Reviews)) (map review_row s.desk.reviews)
  reviews_are (Some e) after is sound sound_after =
      reviews_become e.change s.desk e.entry sound.desk.desk.reviews.numbers_rise
      (subst (λ (d : DeskState). IsByKey nat_cmp review_number d.reviews) (sym is)
      sound_after.desk.desk.reviews.numbers_rise)

-- ---- the one row of `meta`

meta_becomes : (old new : State)
    → IsExchange (same_in table.Meta) [] (meta_row new ∷ []) (meta_row old ∷ []) (meta_row new ∷ [])
meta_becomes old new = record {
  come_in = λ r i. i;
  new_from = λ r i. inl i;
  old_to = λ r i. elim i [
    | inl e ↦
        inr (inr (meta_row new, (inl refl, subst (λ x. same_in table.Meta (meta_row new) x ≡ true) (sym e) refl)))
    | inr none ↦ absurd none
  ];
  keyed = λ r x i j e. only r x i j;
}
  where
    only : (r x : Row) → IsIn r (meta_row new ∷ []) → IsIn x (meta_row new ∷ []) → r ≡ x
    only r x (inl a) (inl b) = a ∙ sym b
    only r x (inl a) (inr none) = absurd none
    only r x (inr none) j = absurd none

-- ---- all tables

module _ {K U : Type 0} (differences : MovesAreDifferences) (least : DemandIsLeast) (keeping : Keeping K U)
    (r : RegisterView K) (c : Command) (change : Change K U) (is : IsPrepared keeping r c change)
    (sound : IsSound r.state) (read : AreRead r.state change) where
  abbrev s : State
  s = r.state

  abbrev after : State
  after = changed change s

  sound_after : IsSound after
  sound_after = subst IsSound (sym is.step.becomes) is.step.sound

  texts : HaveTexts s.held
  texts = record {
    facts = have_keys s.held.facts s.next_entry sound.held.facts read.peers;
    policies = sound.held.policies.by_key;
    read = read.policies;
    projects = sound.held.projects.by_name;
  }

  texts_after : HaveTexts after.held
  texts_after = record {
    facts = have_keys after.held.facts after.next_entry sound_after.held.facts read.peers_after;
    policies = sound_after.held.policies.by_key;
    read = read.policies_after;
    projects = sound_after.held.projects.by_name;
  }

  abbrev more : List RecordedMove
  more = recorded_moves change.recording

  standing_up : IsStanding (standing s)
  standing_up = sound_standing least s.held s.next_entry sound.held

  after_up : IsStanding (standing after)
  after_up = sound_standing least after.held after.next_entry sound_after.held

  held_is : after.held ≡ held_after s c.day c.action
  held_is = ap (λ (x : State). x.held) is.step.becomes

  -- the moves of the command are those from the one standing to the other
  between : AreMoves (standing s) (standing after) (moves_of s c.day c.action)
  between =
      subst (λ h. AreMoves (standing s) (standing after) (moves_between (standing s) (standing_in h))) held_is
      (differences (standing s) (standing after) standing_up after_up)

  same_changes : (step : ℕ) (day : DayValue) (moves : List Move) → changes_of (map (recorded step day) moves) ≡ moves
  same_changes step day [] = refl
  same_changes step day (m ∷ moves) = ap (λ ms. m ∷ ms) (same_changes step day moves)

  nothing_moves : ends_period c.action ≡ true → moves_of s c.day c.action ≡ []
  nothing_moves ends =
      let same = ends_only s c.day c.action ends in
      still (standing s) (moves_of s c.day c.action)
      (subst (λ st. AreMoves (standing s) st (moves_of s c.day c.action)) (ap standing_in (held_is ∙ same)) between)

  -- what is recorded are the moves of the command
  changes_are : changes_of more ≡ moves_of s c.day c.action
  changes_are = by change.recording (ap (λ (x : State). x.moves) is.step.becomes)
    where
      none : (moves : List Move) (step : ℕ) → map (recorded step c.day) moves ≡ [] → moves ≡ []
      none [] step e = refl
      none (m ∷ moves) step e = absurd (cc e)

      by : (recording : Recording) → moves_by recording s.moves ≡ moves_after s c
          → changes_of (recorded_moves recording) ≡ moves_of s c.day c.action
      by (Behind behind) e = elim (more_is s.moves behind.items (records_of s c) (ends_period c.action) e) [
        | inl ended ↦ ap changes_of ended.1 ∙ sym (nothing_moves ended.0)
        | inr goes_on ↦ ap changes_of goes_on.1 ∙ same_changes (s.step + 1) c.day (moves_of s c.day c.action)
      ]
      by (Anew counts) e = elim (none_more s.moves (records_of s c) (ends_period c.action) e) [
        | inl ended ↦ sym (nothing_moves ended)
        | inr nothing ↦ sym (none (moves_of s c.day c.action) (s.step + 1) nothing)
      ]

  are_moves : AreMoves (standing s) (standing after) (changes_of more)
  are_moves = subst (AreMoves (standing s) (standing after)) (sym changes_are) between

  read_stands : (st : Stand) → IsIn st (standing s) → IsVersion st.pair.version
  read_stands st i =
      let p = in_map (λ (q : Pair). record { pair = q; class = class_of_pair s.held.facts q }) (demanded s) st i in
      subst (λ (x : Stand). IsVersion x.pair.version) (sym p.1.1) (read.pairs p.0 p.1.0)

  differ : AllPairs (λ (m n : RecordedMove). m.change.pair ≡ n.change.pair → ⊥) more
  differ i j d l m same =
      let up = pairs_unmap (λ (x : RecordedMove). x.change) (λ (a b : Move). pair_cmp a.pair b.pair ≡ Less) more
      are_moves.in_order in
      cc (sym (up i j d l m) ∙ ap (λ p. pair_cmp p (get_or more j d).change.pair) same
      ∙ tied_itself pair_total (get_or more j d).change.pair)

  at_step : (m : RecordedMove) → IsIn m more → m.step ≡ s.step + 1
  at_step m i = by change.recording (ap (λ (x : State). x.moves) is.step.becomes) i
    where
      by : (recording : Recording) → moves_by recording s.moves ≡ moves_after s c
          → IsIn m (recorded_moves recording) → m.step ≡ s.step + 1
      by (Behind behind) e j = elim (more_is s.moves behind.items (records_of s c) (ends_period c.action) e) [
        | inl ended ↦ absurd (subst (IsIn m) ended.1 j)
        | inr goes_on ↦ (let x = in_map (recorded (s.step + 1) c.day) (moves_of s c.day c.action) m
            (subst (IsIn m) goes_on.1 j) in
            ap (λ (y : RecordedMove). y.step) x.1.1)
      ]
      by (Anew counts) e j = absurd j

  -- the rows once the moves are taken out, where a period begins
  abbrev cleared_rows : RowsValue
  cleared_rows = all_changed (clear_moves change.recording) (rows_of s)

  others_stay : (name : TableName) → (code name ≡ code table.Moves → ⊥) → cleared_rows name ≡ rows_of s name
  others_stay name apart = by change.recording
    where
      by : (recording : Recording) → all_changed (clear_moves recording) (rows_of s) name ≡ rows_of s name
      by (Behind more) = refl
      by (Anew counts) = cleared_elsewhere name table.Moves (rows_of s) apart

  moves_become : IsExchange (same_in table.Moves) [] (moves_added change.recording) (cleared_rows table.Moves)
      (map move_row (moves_by change.recording s.moves))
  moves_become = by change.recording at_step differ read.moves
    where
      by : (recording : Recording) → ((m : RecordedMove) → IsIn m (recorded_moves recording) → m.step ≡ s.step + 1)
          → AllPairs (λ (m n : RecordedMove). m.change.pair ≡ n.change.pair → ⊥) (recorded_moves recording)
          → MovesAreRead (recorded_moves recording)
          → IsExchange (same_in table.Moves) [] (moves_added recording)
          (all_changed (clear_moves recording) (rows_of s) table.Moves) (map move_row (moves_by recording s.moves))
      by (Behind behind) at apart read_moves =
          moves_behind s.moves behind.items (s.step + 1)
          (λ k d l. (let early = sound.moves.steps k d l in omega (arith, early))) at apart read_moves
      by (Anew counts) at apart read_moves = stays (same_in table.Moves) []

  abbrev exchanges : List Exchange
  exchanges = change_exchanges s change

  -- the exchange of a table leads to its rows after the change
  abbrev Becomes : TableName → List Row → Type 0
  Becomes name old = LeadsByDifference name (of_table exchanges name) old (rows_of after name)

  by_held : (name : TableName) → 1 ≤ code name → code name < held_end
      → LeadsByDifference name (of_table (held_exchanges change.edit s.held) name) (rows_of s name) (rows_of after name)
      → Becomes name (rows_of s name)
  by_held name low high =
      subst (λ (e : Exchange). LeadsByDifference name e (rows_of s name) (rows_of after name))
      (sym (held_part s change name low high))

  by_moves : (name : TableName) (old : List Row) → held_end ≤ code name → code name < moves_end
      → LeadsByDifference name (of_table (move_exchanges change.recording) name) old (rows_of after name)
      → Becomes name old
  by_moves name old low high =
      subst (λ (e : Exchange). LeadsByDifference name e old (rows_of after name))
      (sym (moves_part s change name low high))

  by_desk : (name : TableName) → moves_end ≤ code name → code name < desk_end
      → LeadsByDifference name (of_table (desk_exchanges change.desk s.desk) name) (rows_of s name) (rows_of after name)
      → Becomes name (rows_of s name)
  by_desk name low high =
      subst (λ (e : Exchange). LeadsByDifference name e (rows_of s name) (rows_of after name))
      (sym (desk_part s change name low high))

  by_days : (name : TableName) → desk_end ≤ code name
      → LeadsByDifference name (of_table (day_exchanges change.edit s.held) name) (rows_of s name) (rows_of after name)
      → Becomes name (rows_of s name)
  by_days name low =
      subst (λ (e : Exchange). LeadsByDifference name e (rows_of s name) (rows_of after name))
      (sym (days_part s change name low))

  desk_become : (t : DeskTable)
      → LeadsByDifference (table.Desk t) (of_table (desk_exchanges change.desk s.desk) (table.Desk t))
      (rows_of_desk s.desk t) (rows_of_desk after.desk t)
  desk_become Members = members_are s r.room.desk change.desk is.desk sound
  desk_become Reviews = reviews_are s r.room.desk change.desk after refl sound sound_after

  others_become : (name : TableName) → (code name ≡ code table.Moves → ⊥) → Becomes name (rows_of s name)
  others_become table.Meta apart = meta_becomes s after
  others_become (table.Facts t) apart =
      let at = in_place (table.Facts t) in
      by_held (table.Facts t) at.0 at.1
      (facts_become s.held r.room.held texts change.edit is.fits texts_after t)
  others_become (table.Demand t) apart =
      let at = in_place (table.Demand t) in
      by_held (table.Demand t) at.0 at.1
      (demand_become s.held r.room.held texts change.edit is.fits texts_after read.projects read.projects_held t)
  others_become table.Standing apart =
      by_moves table.Standing (rows_of s table.Standing) (omega arith) (omega arith)
      (standing_becomes (standing s) (standing after) more standing_up after_up are_moves read_stands read.moves)
  others_become table.Moves apart = absurd (apart refl)
  others_become (table.Desk t) apart =
      let at = in_place (table.Desk t) in by_desk (table.Desk t) at.0 at.1 (desk_become t)
  others_become (table.Days t) apart =
      by_days (table.Days t) (in_place (table.Days t))
      (days_become s.held r.room.held texts change.edit is.fits texts_after t)

  rows_become : (name : TableName) → Becomes name (cleared_rows name)
  rows_become name = elim (same_or_other name table.Moves) [
    | inl same ↦ subst (λ n. Becomes n (cleared_rows n)) (sym same)
        (by_moves table.Moves (cleared_rows table.Moves) (omega arith) (omega arith) moves_become)
    | inr apart ↦ subst (Becomes name) (sym (others_stay name apart)) (others_become name apart)
  ]

  abbrev the_changes : List RowChange
  the_changes = clear_moves change.recording ++ flat_map row_changes_of exchanges

  -- made in order, they lead to the rows of the next state
  pub changes_lead : SameRows (all_changed the_changes (rows_of s)) (rows_of (next s c))
  changes_lead =
      let made = changed-append (clear_moves change.recording) (flat_map row_changes_of exchanges) (rows_of s) in
      subst (λ rows. SameRows rows (rows_of (next s c))) (sym made)
      (subst (λ t. SameRows (all_changed (flat_map row_changes_of exchanges) cleared_rows) (rows_of t))
      is.step.becomes
      (exchanges_lead exchanges 0 days_end (all_rise s change) cleared_rows (rows_of after) rows_become))

  -- ---- numbers of rows that come

  reviews_come_fit : (e : Option DeskEdit) → All ReviewFits (desk_edited e s.desk).reviews → ReviewsFit e s.desk
  reviews_come_fit None fit = tt
  reviews_come_fit (Some e) fit = reviews_come e.change e.entry s.desk fit

  pub numbers_come : CountsFit after.first → AddedNumbersFit s change
  numbers_come counts =
      let numbers = numbers_fit after sound_after in
      record {
        entries = held_entries_come s.held r.room.held texts.facts change.edit is.fits numbers.entries numbers.peers;
        reviews = reviews_come_fit change.desk numbers.reviews;
        moves = moves_come change.recording s.moves numbers.moves;
        all = numbers;
        counts = counts;
      }

  -- ---- rows of the standing that go or come

  -- a row of a recorded move is that of a move of the command
  of_moves : (x : Row) (m : RecordedMove) → IsIn m more → x ≡ moved_row m → IsOfMove (moves_of s c.day c.action) x
  of_moves x m i e = (
    m.change,
    (
      subst (IsIn m.change) changes_are (map_in (λ (y : RecordedMove). y.change) more m i),
      (Int (class_or_none m.change.after), e),
    ),
  )

  clears_no_standing : (recording : Recording) (x : RowChange) → IsIn x (clear_moves recording)
      → IsOfMoves (moves_of s c.day c.action) x
  clears_no_standing (Behind more) x none = absurd none
  clears_no_standing (Anew counts) x (inl is) = subst (IsOfMoves (moves_of s c.day c.action)) (sym is) tt
  clears_no_standing (Anew counts) x (inr none) = absurd none

  -- so are those of the exchange of the standing, and the others are of other tables
  abbrev NamesMoves : Exchange → Type 0
  NamesMoves = Makes (IsOfMoves (moves_of s c.day c.action))

  moves_named : AllByRecursion NamesMoves (move_exchanges change.recording)
  moves_named = (
    (
      λ x i.
          (let m = in_map moved_row (filter leaves more) x i in
          of_moves x m.0 (in_filter leaves more m.0 m.1.0).0 m.1.1),
      λ x i.
          (let m = in_map moved_row (filter stands more) x i in
          of_moves x m.0 (in_filter stands more m.0 m.1.0).0 m.1.1),
    ),
    ((λ x i. tt, λ x i. tt), tt),
  )

  all_named : AllByRecursion NamesMoves exchanges
  all_named =
      of_parts s change NamesMoves (λ x i. tt, λ x i. tt)
      (others_named (moves_of s c.day c.action) (held_exchanges change.edit s.held) 1 held_end
      (held_rise change.edit s.held) (inl (omega arith)))
      moves_named
      (others_named (moves_of s c.day c.action) (desk_exchanges change.desk s.desk) moves_end desk_end
      (desk_rise change.desk s.desk) (inr (omega arith)))
      (others_named (moves_of s c.day c.action) (day_exchanges change.edit s.held) desk_end days_end
      (days_rise change.edit s.held) (inr (omega arith)))

  pub standing_named : (x : RowChange) → IsIn x the_changes → IsOfMoves (moves_of s c.day c.action) x
  standing_named x i = elim (in_append (clear_moves change.recording) (flat_map row_changes_of exchanges) x i) [
    | inl clears ↦ clears_no_standing change.recording x clears
    | inr made ↦ made_by (IsOfMoves (moves_of s c.day c.action)) exchanges all_named x made
  ]
