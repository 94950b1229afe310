-- The exchanges of a change are in the order of the tables, and each is in one of five parts.
use Rattle.std.proofs.Common.{◌≡◌, ℕ, ◌+◌, ◌<◌, ◌≤◌, List, [], ◌∷◌, ◌++◌, Option, Some, None, arith, refl, rules, ◌∙◌}
use Rattle.std.specs.Bool.{⊤}
use Rattle.std.specs.List.{AllByRecursion}
use Rattle.vet_desk.specs.declared.change.DeskChange.{DeskChange}
use Rattle.vet_desk.specs.declared.change.DeskChange.TheVariants.{Join, Open, Turn, Finish}
use Rattle.vet_desk.specs.Desk.{DeskState}
use Rattle.vet_entries.specs.declared.facts.Edit.{Edit}
use Rattle.vet_entries.specs.declared.facts.Edit.TheVariants as edit
use Rattle.vet_entries.specs.Facts.{Facts}
use Rattle.vet_register.specs.declared.change.Change.{Change}
use Rattle.vet_register.specs.declared.change.DeskEdit.{DeskEdit}
use Rattle.vet_register.specs.declared.held.HeldEdit.{HeldEdit}
use Rattle.vet_register.specs.declared.held.HeldEdit.TheVariants as held
use Rattle.vet_register.specs.declared.moves.Recording.{Recording}
use Rattle.vet_register.specs.Held.{HeldValue}
use Rattle.vet_register.specs.State.{State}
use Rattle.vet_rows.proofs.ExchangeParts.{Rise, both, of_back, of_front, of_table, rises}
use Rattle.vet_rows.specs.ChangedRows.{change_exchanges, meta_exchange}
use Rattle.vet_rows.specs.DayChanges.{day_exchanges, fact_day_exchanges}
use Rattle.vet_rows.specs.DeskChanges.{desk_change_exchanges, desk_exchanges}
use Rattle.vet_rows.specs.FactsRows.{fact_exchanges}
use Rattle.vet_rows.specs.HeldChanges.{held_exchanges}
use Rattle.vet_rows.specs.RowExchanges.{exchange_of}
use Rattle.vet_rows.specs.StandingChanges.{move_exchanges}
use Rattle.vet_rows.specs.declared.row_changes.exchange.Exchange.{Exchange}
use Rattle.vet_tables.proofs.TablePlaces.{each}
use Rattle.vet_tables.specs.Forms.{code}
use Rattle.vet_tables.specs.declared.table_name.DaysTable.TheVariants.{Lasts}
use Rattle.vet_tables.specs.declared.table_name.DemandTable.TheVariants.{Edges, Nodes, Policies}
use Rattle.vet_tables.specs.declared.table_name.DeskTable.TheVariants.{Reviews}
use Rattle.vet_tables.specs.declared.table_name.TableName.{TableName}
use Rattle.vet_tables.specs.declared.table_name.TableName.TheVariants as table

-- ---- places of the parts

-- the places after the tables of what is held, after the standing and moves, after the desk, and after days
abbrev pub held_end : ℕ
held_end = code table.Standing

abbrev pub moves_end : ℕ
moves_end = code table.Moves + 1

abbrev pub desk_end : ℕ
desk_end = code (table.Desk Reviews) + 1

abbrev pub days_end : ℕ
days_end = code (table.Days Lasts) + 1

held_first : held_end ≤ moves_end
held_first = omega arith

moves_first : moves_end ≤ desk_end
moves_first = omega arith

abbrev pub IsHeldPlace : ℕ → Type 0
IsHeldPlace at = (1 ≤ at) × (at < held_end)

-- each table is among those of its part
abbrev pub IsInPlace : TableName → Type 0
IsInPlace (table.Facts t) = IsHeldPlace (code (table.Facts t))
IsInPlace (table.Demand t) = IsHeldPlace (code (table.Demand t))
IsInPlace (table.Desk t) = (moves_end ≤ code (table.Desk t)) × (code (table.Desk t) < desk_end)
IsInPlace (table.Days t) = desk_end ≤ code (table.Days t)
IsInPlace _ = ⊤

pub in_place : (name : TableName) → IsInPlace name
in_place name = each IsInPlace (search rules) name

-- ---- of each edit

facts_rise : (e : Edit) (f : Facts) → Rise 1 held_end (fact_exchanges e f)
facts_rise (edit.Criteria criteria) f = (omega arith, omega arith)
facts_rise (edit.Insert place h) f = (omega arith, omega arith)
facts_rise (edit.Remove place) f = (omega arith, omega arith)
facts_rise (edit.Peer change) f = (omega arith, (omega arith, (omega arith, omega arith)))
facts_rise (edit.Settings settings) f = (omega arith, omega arith)
facts_rise (edit.Content name content) f = (omega arith, (omega arith, omega arith))
facts_rise (edit.Publishers change) f = (omega arith, omega arith)
facts_rise (edit.Today day) f = omega arith

pub held_rise : (e : HeldEdit) (h : HeldValue) → Rise 1 held_end (held_exchanges e h)
held_rise held.Nothing h = omega arith
held_rise (held.Facts e) h = facts_rise e h.facts
held_rise (held.Policies e) h = (omega arith, omega arith)
held_rise (held.Projects e) h = (omega arith, (omega arith, omega arith))
held_rise (held.Files files) h =
    (omega arith, (omega arith, (omega arith, (omega arith, (omega arith, omega arith)))))

pub moves_rise : (recording : Recording) → Rise held_end moves_end (move_exchanges recording)
moves_rise recording = (omega arith, (omega arith, omega arith))

desk_change_rises : (c : DeskChange) (entry : Option ℕ) (d : DeskState)
    → Rise moves_end desk_end (desk_change_exchanges c entry d)
desk_change_rises (Join change) entry d = (omega arith, omega arith)
desk_change_rises (Open review) entry d = (omega arith, omega arith)
desk_change_rises (Turn place state) entry d = (omega arith, omega arith)
desk_change_rises (Finish place made) None d = omega arith
desk_change_rises (Finish place made) (Some number) d = (omega arith, omega arith)

pub desk_rise : (e : Option DeskEdit) (d : DeskState) → Rise moves_end desk_end (desk_exchanges e d)
desk_rise None d = omega arith
desk_rise (Some e) d = desk_change_rises e.change e.entry d

fact_days_rise : (e : Edit) (f : Facts) → Rise desk_end days_end (fact_day_exchanges e f)
fact_days_rise (edit.Criteria criteria) f = omega arith
fact_days_rise (edit.Insert place h) f = (omega arith, omega arith)
fact_days_rise (edit.Remove place) f = (omega arith, omega arith)
fact_days_rise (edit.Peer change) f = omega arith
fact_days_rise (edit.Settings settings) f = omega arith
fact_days_rise (edit.Content name content) f = omega arith
fact_days_rise (edit.Publishers change) f = omega arith
fact_days_rise (edit.Today day) f = (omega arith, omega arith)

pub days_rise : (e : HeldEdit) (h : HeldValue) → Rise desk_end days_end (day_exchanges e h)
days_rise held.Nothing h = omega arith
days_rise (held.Facts e) h = fact_days_rise e h.facts
days_rise (held.Policies e) h = omega arith
days_rise (held.Projects e) h = omega arith
days_rise (held.Files files) h = (omega arith, (omega arith, omega arith))

-- an edit of facts leaves policies, nodes and edges
pub facts_leave : (e : Edit) (f : Facts)
    → (of_table (fact_exchanges e f) (table.Demand Policies) ≡ exchange_of (table.Demand Policies) [] [])
    × ((of_table (fact_exchanges e f) (table.Demand Nodes) ≡ exchange_of (table.Demand Nodes) [] [])
    × (of_table (fact_exchanges e f) (table.Demand Edges) ≡ exchange_of (table.Demand Edges) [] []))
facts_leave (edit.Criteria criteria) f = (refl, (refl, refl))
facts_leave (edit.Insert place h) f = (refl, (refl, refl))
facts_leave (edit.Remove place) f = (refl, (refl, refl))
facts_leave (edit.Peer change) f = (refl, (refl, refl))
facts_leave (edit.Settings settings) f = (refl, (refl, refl))
facts_leave (edit.Content name content) f = (refl, (refl, refl))
facts_leave (edit.Publishers change) f = (refl, (refl, refl))
facts_leave (edit.Today day) f = (refl, (refl, refl))

-- ---- of a change

module _ {K U : Type 0} (s : State) (change : Change K U) where
  abbrev of_meta : List Exchange
  of_meta = meta_exchange s change ∷ []

  abbrev of_held : List Exchange
  of_held = held_exchanges change.edit s.held

  abbrev of_moves : List Exchange
  of_moves = move_exchanges change.recording

  abbrev of_desk : List Exchange
  of_desk = desk_exchanges change.desk s.desk

  meta_rises : Rise 0 1 of_meta
  meta_rises = (omega arith, omega arith)

  held_then : Rise 0 held_end (of_meta ++ of_held)
  held_then = rises of_meta of_held 0 1 held_end meta_rises (held_rise change.edit s.held)

  moves_then : Rise 0 moves_end ((of_meta ++ of_held) ++ of_moves)
  moves_then = rises (of_meta ++ of_held) of_moves 0 held_end moves_end held_then (moves_rise change.recording)

  abbrev of_days : List Exchange
  of_days = day_exchanges change.edit s.held

  desk_then : Rise 0 desk_end (((of_meta ++ of_held) ++ of_moves) ++ of_desk)
  desk_then =
      rises ((of_meta ++ of_held) ++ of_moves) of_desk 0 moves_end desk_end moves_then (desk_rise change.desk s.desk)

  pub all_rise : Rise 0 days_end (change_exchanges s change)
  all_rise =
      rises (((of_meta ++ of_held) ++ of_moves) ++ of_desk) of_days 0 desk_end days_end desk_then
      (days_rise change.edit s.held)

  -- a table that isn't of days
  before_days : (name : TableName) → code name < desk_end
      → of_table (change_exchanges s change) name ≡ of_table (((of_meta ++ of_held) ++ of_moves) ++ of_desk) name
  before_days name high =
      of_front (((of_meta ++ of_held) ++ of_moves) ++ of_desk) of_days desk_end days_end name
      (days_rise change.edit s.held) high

  -- what is held, the standing and moves, the desk, and days
  pub held_part : (name : TableName) → 1 ≤ code name → code name < held_end
      → of_table (change_exchanges s change) name ≡ of_table (held_exchanges change.edit s.held) name
  held_part name low high =
      before_days name (omega (arith, high, held_first, moves_first))
      ∙ of_front ((of_meta ++ of_held) ++ of_moves) of_desk moves_end desk_end name (desk_rise change.desk s.desk)
      (omega (arith, high, held_first))
      ∙ of_front (of_meta ++ of_held) of_moves held_end moves_end name (moves_rise change.recording) high
      ∙ of_back of_meta of_held 0 1 name meta_rises low

  pub moves_part : (name : TableName) → held_end ≤ code name → code name < moves_end
      → of_table (change_exchanges s change) name ≡ of_table (move_exchanges change.recording) name
  moves_part name low high =
      before_days name (omega (arith, high, moves_first))
      ∙ of_front ((of_meta ++ of_held) ++ of_moves) of_desk moves_end desk_end name (desk_rise change.desk s.desk) high
      ∙ of_back (of_meta ++ of_held) of_moves 0 held_end name held_then low

  pub desk_part : (name : TableName) → moves_end ≤ code name → code name < desk_end
      → of_table (change_exchanges s change) name ≡ of_table (desk_exchanges change.desk s.desk) name
  desk_part name low high =
      before_days name high ∙ of_back ((of_meta ++ of_held) ++ of_moves) of_desk 0 moves_end name moves_then low

  pub days_part : (name : TableName) → desk_end ≤ code name
      → of_table (change_exchanges s change) name ≡ of_table (day_exchanges change.edit s.held) name
  days_part name low = of_back (((of_meta ++ of_held) ++ of_moves) ++ of_desk) of_days 0 desk_end name desk_then low

  -- what holds of each exchange of the parts holds of all
  pub of_parts : (Q : Exchange → Type 0) → Q (meta_exchange s change) → AllByRecursion Q of_held
      → AllByRecursion Q of_moves → AllByRecursion Q of_desk → AllByRecursion Q of_days
      → AllByRecursion Q (change_exchanges s change)
  of_parts Q first then_held then_moves then_desk then_days =
      both Q (((of_meta ++ of_held) ++ of_moves) ++ of_desk) of_days
      (both Q ((of_meta ++ of_held) ++ of_moves) of_desk
      (both Q (of_meta ++ of_held) of_moves (first, then_held) then_moves) then_desk) then_days
