-- The rows of a register that holds nothing, and those of tables that become the second version.
use Rattle.std.proofs.Common.{◌≡◌, ℕ, List, [], ◌∷◌, ◌++◌, map, ap, refl, inl, rules}
use Rattle.vet_base.specs.Criteria.{built_in_criteria}
use Rattle.vet_base.specs.declared.criterion.Criterion.{Criterion}
use Rattle.vet_base.specs.FurtherCriteria.{further}
use Rattle.vet_base.specs.Items.{SameItems}
use Rattle.vet_base.proofs.FurtherLaws.{further_are_defined}
use Rattle.vet_demand.specs.DemandOf.{NothingIsDemanded}
use Rattle.vet_demand.specs.declared.pair.Pair.{Pair}
use Rattle.vet_entries.specs.Facts.{no_facts}
use Rattle.vet_graph.specs.StandingOf.{standing_of}
use Rattle.vet_item_rows.specs.Columns.{own_peer}
use Rattle.vet_item_rows.specs.SettingRows.{criterion_row}
use Rattle.vet_item_rows.specs.StandingRows.{standing_row}
use Rattle.vet_register.specs.State.{State, start}
use Rattle.vet_rows.specs.RowsOf.{meta_row, rows_by, rows_of}
use Rattle.vet_tables.proofs.TablePlaces.{each}
use Rattle.vet_tables.specs.Cells.{no_rows, put}
use Rattle.vet_tables.specs.declared.table_name.FactsTable.TheVariants.{Criteria}
use Rattle.vet_tables.specs.declared.table_name.TableName.{TableName}
use Rattle.vet_tables.specs.declared.table_name.TableName.TheVariants.{Facts, Meta, Standing}
use Rattle.vet_tables.specs.declared.version.TablesVersion.TheVariants.{First}

nothing_among : {X : Type 0} (xs : List X) → SameItems xs [] → xs ≡ []
nothing_among [] same = refl
nothing_among (x ∷ xs) same = absurd (same.0 x (inl refl))

pub none_further : further built_in_criteria ≡ []
none_further = nothing_among (further built_in_criteria) (further_are_defined [] (search rules) (search rules)).0

-- the tables that have a row for each thing of some
abbrev IsAtStart : ℕ → TableName → Type 0
IsAtStart limit n = rows_of (start limit) n ≡ put Meta (meta_row (start limit)) no_rows n

no_criteria : (limit : ℕ) → IsAtStart limit (Facts Criteria)
no_criteria limit = ap (λ (criteria : List Criterion). map (criterion_row own_peer) criteria ++ []) none_further

no_standing : NothingIsDemanded → (limit : ℕ) → IsAtStart limit Standing
no_standing law limit =
    ap (λ (demand : List Pair). map standing_row (standing_of no_facts demand)) (law [] built_in_criteria)

at_table : NothingIsDemanded → (limit : ℕ) (n : TableName) → IsAtStart limit n
at_table law limit n = each (IsAtStart limit) (search (no_criteria limit, no_standing law limit)) n

-- just the one row of `meta`
pub start_rows : NothingIsDemanded → (limit : ℕ) → rows_of (start limit) ≡ put Meta (meta_row (start limit)) no_rows
start_rows law limit = λ i n. at_table law limit n i

-- ---- tables of the first version

abbrev IsSecond : State → TableName → Type 0
IsSecond s n = put Meta (meta_row s) (rows_by First s) n ≡ rows_of s n

-- the row of `meta` in place of the one that is there makes the rows of the second version
pub second_rows : (s : State) → put Meta (meta_row s) (rows_by First s) ≡ rows_of s
second_rows s = λ i n. each (IsSecond s) (assumption refl) n i
