-- A row as its tree keeps it.
use Rattle.std.proofs.Common.{◌≡◌, ◌+◌, ◌++◌, ◌/◌, ℕ, ℤ, [], ◌∷◌, Bool, true, false, cond, None, Some, Option, length}
use Rattle.std.proofs.Common.{refl, rules, subst, sym, if◌then◌else◌}
use Rattle.sqlite.specs.Cast.{cast}
use Rattle.sqlite.specs.Edit.{edit_of}
use Rattle.sqlite.specs.Effect.{value_rows}
use Rattle.sqlite.specs.Kind.TheVariants as kind
use Rattle.sqlite.specs.Rowids.TheVariants.{Chosen}
use Rattle.sqlite_rules.specs.Edit.{next_rowid}
use Rattle.sqlite_schema.specs.Names.{is_key}
use Rattle.sqlite_sql.specs.Ops.{unary}
use Rattle.sqlite_trees.specs.Tree.{Trees, rowid}
use Rattle.sqlite_trees.specs.View.{is_int}
use Rattle.sqlite_value.specs.Order.{Row as Cells, column}
use Rattle.sqlite_value.specs.declared.value.Value.{Value}
use Rattle.sqlite_value.specs.declared.value.Value.TheVariants.{Int, Null}
use Rattle.vet_tables.proofs.Shapes.{insert_terms}
use Rattle.vet_tables.proofs.TablePlaces.{each}
use Rattle.vet_tables.specs.Form.{TableForm, rowid_of, shown, table_of}
use Rattle.vet_tables.proofs.Payloads.{Payloads, cells_of, payloads}
use Rattle.vet_tables.specs.Forms.{form_of}
use Rattle.vet_tables.specs.Typed.{AreSorts, kinds_of}
use Rattle.vet_tables.specs.declared.table_name.TableName.{TableName}

abbrev pub rowid_cell : Option ℕ → ℤ → Cells → Value
rowid_cell None next cells = Int next
rowid_cell (Some at) next cells = column cells at

abbrev pub kept_from : Option ℕ → ℕ → Cells → Cells
kept_from key at [] = []
kept_from key at (v ∷ more) = (if is_key key at then Null else v) ∷ kept_from key (at + 1) more

-- the rowid, and then the cells but for that of the rowid
abbrev pub stored_row : TableForm → ℤ → Cells → Cells
stored_row form next cells = rowid_cell (rowid_of form) next cells ∷ kept_from (rowid_of form) 0 cells

abbrev pub sorts_of : TableName → Type 0
sorts_of n = Payloads (kinds_of (form_of n))

abbrev pub made : (n : TableName) → sorts_of n → Cells
made n all = cells_of (kinds_of (form_of n)) all

made_shows : (n : TableName) (all : sorts_of n) (next : ℤ)
    → shown (form_of n) (stored_row (form_of n) next (made n all)) ≡ made n all
made_shows n all next =
    each (λ n. (all : sorts_of n) → shown (form_of n) (stored_row (form_of n) next (made n all)) ≡ made n all)
    (search rules) n all

made_rowid : (n : TableName) (all : sorts_of n) (next : ℤ)
    → is_int (rowid (stored_row (form_of n) next (made n all))) ≡ true
made_rowid n all next =
    each (λ n. (all : sorts_of n) → is_int (rowid (stored_row (form_of n) next (made n all))) ≡ true)
    (search rules) n all

either : (b : Bool) (x : Value) → cond b x x ≡ x
either true x = refl
either false x = refl

pub cast_null : cast kind.Integer Null ≡ Null
unfolding unary
cast_null = either _ Null

pub cast_int : (n : ℤ) → cast kind.Integer (Int n) ≡ Int n
unfolding unary
cast_int n = either _ (Int n)

-- what an INSERT of the cells adds
abbrev pub News : (n : TableName) → Trees → ℕ → Cells → Type 0
News n db tree cells =
    (edit_of db (table_of (form_of n) tree) [] Chosen 0
    (value_rows (cells ++ []) (length (form_of n).columns + 1)
    (length (insert_terms (form_of n)) / (length (form_of n).columns + 1)) (insert_terms (form_of n)))).news
    ≡ stored_row (form_of n) (next_rowid (db tree)) cells ∷ []

module _ (n : TableName) (cells : Cells) (sorts : AreSorts (kinds_of (form_of n)) cells) where
  pub shows_cells : (next : ℤ) → shown (form_of n) (stored_row (form_of n) next cells) ≡ cells
  shows_cells next =
      let it = payloads (kinds_of (form_of n)) cells sorts in
      subst (λ c. shown (form_of n) (stored_row (form_of n) next c) ≡ c) (sym it.1) (made_shows n it.0 next)

  pub has_rowid : (next : ℤ) → is_int (rowid (stored_row (form_of n) next cells)) ≡ true
  has_rowid next =
      let it = payloads (kinds_of (form_of n)) cells sorts in
      subst (λ c. is_int (rowid (stored_row (form_of n) next c)) ≡ true) (sym it.1) (made_rowid n it.0 next)
