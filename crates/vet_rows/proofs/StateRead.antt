-- A state of parts that are read.
use Rattle.std.proofs.Common.{◌≡◌, ◌⊎◌, ◌==◌, Bool, List, T, true, false, not, eq-eqb, inl, inr, refl, sym, subst}
use Rattle.vet_base.specs.Items.{SameItems}
use Rattle.vet_base.specs.declared.refusal.Refusal.TheVariants as refusal
use Rattle.vet_demand.specs.declared.policies.KeyedPolicy.{KeyedPolicy}
use Rattle.vet_demand.specs.declared.project.NamedProject.{NamedProject}
use Rattle.vet_desk.specs.Desk.{DeskState}
use Rattle.vet_entries.specs.Facts.{Facts}
use Rattle.vet_item_rows.specs.ReadBack.{refusal_of}
use Rattle.vet_item_rows.specs.ReadHeld.{AreRowsOf}
use Rattle.vet_item_rows.specs.declared.read.read_error.ReadError.{ReadError}
use Rattle.vet_item_rows.specs.declared.read.read_error.ReadError.TheVariants as read_error
use Rattle.vet_item_rows.proofs.ProjectsRead.{same_itself}
use Rattle.vet_register.specs.State.{State}
use Rattle.vet_register.specs.declared.moves.RecordedMove.{RecordedMove}
use Rattle.vet_rows.specs.HeldState.{SameButStanding}
use Rattle.vet_rows.specs.ReadState.{meta_in, state_in}
use Rattle.vet_rows.specs.RowsOf.{rows_by, rows_of}
use Rattle.vet_rows.specs.declared.meta.Meta.{Meta}
use Rattle.vet_tables.specs.Cells.{Row, RowsValue}
use Rattle.vet_tables.specs.Forms.{code}
use Rattle.vet_tables.specs.declared.table_name.DaysTable.TheVariants.{Lasts, Today}
use Rattle.vet_tables.specs.declared.table_name.FactsTable.TheVariants.{Criteria, Entries, Peers, Publishers}
use Rattle.vet_tables.specs.declared.table_name.TableName.{TableName}
use Rattle.vet_tables.specs.declared.table_name.TableName.TheVariants as table
use Rattle.vet_tables.specs.declared.version.TablesVersion.{TablesVersion}

-- ---- rows of tables

-- a table that isn't `standing`
apart : (name : TableName) → T (not (code name == code table.Standing)) → code name ≡ code table.Standing → ⊥
apart name t e = differ (code name == code table.Standing) (eq-eqb (code name) (code table.Standing) e) t
  where
    differ : (c : Bool) → c ≡ true → T (not c) → ⊥
    differ true h t = t
    differ false h t = cc h

module _ (rows : RowsValue) (version : TablesVersion) (s : State) (same : SameButStanding rows (rows_by version s))
  where
    pub table_rows : (name : TableName) → T (not (code name == code table.Standing)) → (shown : List Row)
        → shown ≡ rows name → SameItems shown (rows_by version s name)
    table_rows name t shown e =
        subst (λ these. SameItems these (rows_by version s name)) (sym e) (same name (apart name t))

    pub facts_rows : AreRowsOf rows s.held.facts
    facts_rows = record {
      criteria = table_rows (table.Facts Criteria) tt (rows (table.Facts Criteria)) refl;
      entries = table_rows (table.Facts Entries) tt (rows (table.Facts Entries)) refl;
      publishers = table_rows (table.Facts Publishers) tt (rows (table.Facts Publishers)) refl;
      peers = table_rows (table.Facts Peers) tt (rows (table.Facts Peers)) refl;
      today = table_rows (table.Days Today) tt (rows (table.Days Today)) refl;
      lasts = table_rows (table.Days Lasts) tt (rows (table.Days Lasts)) refl;
    }

-- the rows of a state are its own
pub own_rows : (s : State) → SameButStanding (rows_of s) (rows_of s)
own_rows s name other = same_itself (rows_of s name)

-- ---- the state

pub made_is : (version : TablesVersion) (s : State) (meta : Meta) (facts : Facts) (policies : List KeyedPolicy)
    (projects : List NamedProject) (desk : DeskState) (moves : List RecordedMove) → meta ≡ meta_in version s
    → facts ≡ s.held.facts → policies ≡ s.held.policies → projects ≡ s.held.projects → desk ≡ s.desk
    → moves ≡ s.moves → state_in meta facts policies projects desk moves ≡ s
made_is version s meta facts policies projects desk moves a f p q d m =
    λ i. state_in (a i) (f i) (p i) (q i) (d i) (m i)

-- ---- refusals

pub refused_as : (e : ReadError) → (refusal_of e ≡ refusal.NoMemory) ⊎ (refusal_of e ≡ refusal.NotARegister)
refused_as read_error.NotARegister = inr refl
refused_as read_error.NoMemory = inl refl
