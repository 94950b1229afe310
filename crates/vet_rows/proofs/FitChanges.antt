-- The rows that a change removes and adds have the columns of their tables, so that the changes fit.
use Rattle.std.proofs.Common.{inl, inr, ◌++◌, filter, subst, sym}
use Rattle.std.specs.List.{flat_map}
use Rattle.vet_base.proofs.ItemLemmas.{in_append}
use Rattle.vet_base.specs.Items.{IsIn}
use Rattle.vet_item_rows.specs.ProjectRows.{edge_rows, node_rows}
use Rattle.vet_register.specs.Changes.{changed}
use Rattle.vet_register.specs.Held.{HeldValue}
use Rattle.vet_register.specs.State.{State}
use Rattle.vet_register.specs.declared.change.Change.{Change}
use Rattle.vet_register.specs.declared.held.HeldEdit.{HeldEdit}
use Rattle.vet_register.specs.declared.held.HeldEdit.TheVariants as held
use Rattle.vet_register.specs.declared.moves.Recording.{Recording}
use Rattle.vet_register.specs.declared.moves.Recording.TheVariants.{Behind, Anew}
use Rattle.vet_rows.proofs.ChangeParts.{of_parts}
use Rattle.vet_rows.proofs.ExchangeParts.{Makes, made_by}
use Rattle.vet_rows.proofs.FitDays.{days_fit}
use Rattle.vet_rows.proofs.FitDemand.{policies_fit, project_edges_fit, project_nodes_fit, the_policy_fits}
use Rattle.vet_rows.proofs.FitDesk.{desk_fit}
use Rattle.vet_rows.proofs.FitFacts.{criteria_fit, entries_fit, facts_fit, peers_fit, publishers_fit}
use Rattle.vet_rows.proofs.FitLists.{AllFit, item_fits, none_fit}
use Rattle.vet_rows.proofs.FitRows.{moved_fit, moves_fit, rows_fit}
use Rattle.vet_rows.specs.ChangedRows.{change_exchanges}
use Rattle.vet_rows.specs.DemandRows.{the_policy}
use Rattle.vet_rows.specs.FitChanges.{Fits}
use Rattle.vet_rows.specs.HeldChanges.{held_exchanges}
use Rattle.vet_rows.specs.RowExchanges.{row_changes_of}
use Rattle.vet_rows.specs.StandingChanges.{clear_moves, leaves, move_exchanges, recorded_moves, stands}
use Rattle.vet_rows.specs.declared.row_change.RowChange.{RowChange}
use Rattle.vet_tables.specs.declared.table_name.DemandTable.TheVariants.{Edges, Nodes, Policies}
use Rattle.vet_tables.specs.declared.table_name.TableName.TheVariants as table
use Rattle.vet_tables.specs.declared.version.TablesVersion.TheVariants.{Second}

-- ---- by an edit of what is held, and by what is recorded

held_fit : (e : HeldEdit) (h : HeldValue) → AllFit (held_exchanges e h)
held_fit held.Nothing h = tt
held_fit (held.Facts e) h = facts_fit e h.facts
held_fit (held.Policies e) h = (item_fits (table.Demand Policies) the_policy the_policy_fits e h.policies, tt)
held_fit (held.Projects e) h = (
  item_fits (table.Demand Nodes) node_rows project_nodes_fit e h.projects,
  (item_fits (table.Demand Edges) edge_rows project_edges_fit e h.projects, tt),
)
held_fit (held.Files files) h = (
  (criteria_fit h.facts, criteria_fit files.facts.content),
  (
    (entries_fit h.facts, entries_fit files.facts.content),
    (
      (publishers_fit h.facts.publishers, publishers_fit files.facts.content.publishers),
      (
        (policies_fit h.policies, policies_fit files.policies.items),
        ((peers_fit h.facts.peers, peers_fit files.facts.content.peers), tt),
      ),
    ),
  ),
)

moves_made_fit : (recording : Recording) → AllFit (move_exchanges recording)
moves_made_fit recording = (
  (moved_fit (filter leaves (recorded_moves recording)), moved_fit (filter stands (recorded_moves recording))),
  ((none_fit table.Moves, moves_fit (recorded_moves recording)), tt),
)

-- ---- all changes

clears_fit : (recording : Recording) (c : RowChange) → IsIn c (clear_moves recording) → Fits c
clears_fit (Behind more) c none = absurd none
clears_fit (Anew counts) c (inl is) = subst Fits (sym is) tt
clears_fit (Anew counts) c (inr none) = absurd none

module _ {K U : Type 0} (s : State) (change : Change K U) where
  all_fit : AllFit (change_exchanges s change)
  all_fit =
      of_parts s change (Makes Fits) (none_fit table.Meta, rows_fit Second (changed change s) table.Meta)
      (held_fit change.edit s.held) (moves_made_fit change.recording) (desk_fit change.desk s.desk)
      (days_fit change.edit s.held)

  pub changes_fit : (c : RowChange)
      → IsIn c (clear_moves change.recording ++ flat_map row_changes_of (change_exchanges s change)) → Fits c
  changes_fit c i =
      elim (in_append (clear_moves change.recording) (flat_map row_changes_of (change_exchanges s change)) c i) [
        | inl clears ↦ clears_fit change.recording c clears
        | inr made ↦ made_by Fits (change_exchanges s change) all_fit c made
      ]
