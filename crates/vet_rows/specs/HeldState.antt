-- States whose rows can be read again (ours): each value in them can be held.
use Rattle.std.specs.Prelude.{◌≡◌}
use Rattle.std.specs.List.{All}
use Rattle.vet_base.specs.Items.{SameItems}
use Rattle.vet_item_rows.specs.HeldValues.{IsKeyedPolicy, IsNamedProject, IsReview}
use Rattle.vet_item_rows.specs.ReadHeld.{AreFactsValues}
use Rattle.vet_item_rows.specs.Values.{IsName}
use Rattle.vet_register.specs.Sound.{IsSound}
use Rattle.vet_register.specs.State.{State}
use Rattle.vet_rows.specs.HeldValues.{AreSettings, IsRecordedMove}
use Rattle.vet_rows.specs.RowsOf.{rows_of}
use Rattle.vet_tables.specs.Cells.{RowsValue}
use Rattle.vet_tables.specs.Forms.{code}
use Rattle.vet_tables.specs.declared.table_name.TableName.{TableName}
use Rattle.vet_tables.specs.declared.table_name.TableName.TheVariants as table

pub record IsHeldState (s : State) : Type 0 where
  pub facts : AreFactsValues s.held.facts
  pub policies : All IsKeyedPolicy s.held.policies
  pub projects : All IsNamedProject s.held.projects
  pub settings : AreSettings s.held.settings
  pub members : All IsName s.desk.members
  pub reviews : All IsReview s.desk.reviews
  pub moves : All IsRecordedMove s.moves

-- each table but `standing` has the same rows, in whatever order
abbrev pub SameButStanding : RowsValue → RowsValue → Type 0
SameButStanding a b =
    (name : TableName) → (code name ≡ code table.Standing → ⊥) → SameItems (a name) (b name)

-- two sound states that can be held, and that have these rows except for `standing`, are the same
abbrev pub AreOfOneState : RowsValue → Type 0
AreOfOneState rows = (s t : State) → IsSound s → IsSound t → IsHeldState s → IsHeldState t
    → SameButStanding rows (rows_of s) → SameButStanding rows (rows_of t) → s ≡ t
