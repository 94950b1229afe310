-- The columns of a form, by their names and their kinds.
use Rattle.std.proofs.Common.{◌≡◌, [], map, ℕ, ◌<◌, ◌≤◌, ◌+◌, length, get_or, Bor, List, sym, ap, ◌∙◌, subst}
use Rattle.std.proofs.Common.{arith, below_more}
use Rattle.std.proofs.lemmas.List.{get_or-map, get_or_default, length-map, ext_get_or}
use Rattle.sqlite_schema.specs.declared.schema.Column.{Column}
use Rattle.sqlite_schema.specs.declared.schema.Kind.{Kind}
use Rattle.sqlite_schema.specs.declared.schema.Kind.TheVariants.{Integer}
use Rattle.vet_tables.specs.Form.{ColumnForm, column_of}

-- a column as the code has it
abbrev pub Given : Type 0
Given = Bor (List ℕ) × Kind

abbrev pub value : Given → ColumnForm
value c = (c.0.now, c.1)

-- columns are those of a form as far as they were compared
abbrev pub Agree : List ColumnForm → List Column → ℕ → Type 0
Agree forms columns n = (at : ℕ) (d : Column) → at < n → get_or columns at d ≡ get_or (map column_of forms) at d

module _ (given : List Given) (forms : List ColumnForm) (same : map value given ≡ forms) where
  pub as_many : length given ≡ length forms
  as_many = sym (length-map given value) ∙ ap length same

  pub as_many_kinds : length given ≡ length (map (λ (f : ColumnForm). f.1) forms)
  as_many_kinds = as_many ∙ sym (length-map forms (λ (f : ColumnForm). f.1))

  form_at : (at : ℕ) → at < length given → (d : Given) → get_or forms at ([], Integer) ≡ value (get_or given at d)
  form_at at low d =
      let none : ColumnForm = ([], Integer) in
      ap (λ l. get_or l at none) (sym same) ∙ get_or-map value given at d none low

  -- the kind at a place
  pub kind_at : (at : ℕ) → at < length given → (d : Given) (k : Kind)
      → get_or (map (λ (f : ColumnForm). f.1) forms) at k ≡ (get_or given at d).1
  kind_at at low d k =
      let none : ColumnForm = ([], Integer) in
      let within : at < length forms = subst (λ m. at < m) as_many low in
      get_or-map (λ (f : ColumnForm). f.1) forms at none k within ∙ ap (λ (f : ColumnForm). f.1) (form_at at low d)

  -- the column that has the name and the kind at a place
  pub column_at : (at : ℕ) → at < length given → (d : Given) (c : Column)
      → get_or (map column_of forms) at c ≡ column_of (value (get_or given at d))
  column_at at low d c =
      let none : ColumnForm = ([], Integer) in
      let within : at < length forms = subst (λ m. at < m) as_many low in
      get_or-map column_of forms at none c within ∙ ap column_of (form_at at low d)

  pub agree_more : (columns : List Column) (at : ℕ) → at < length columns → length columns ≡ length given → (d : Given)
      (here : Column) → here ≡ get_or columns at here → here ≡ column_of (value (get_or given at d))
      → Agree forms columns at → Agree forms columns (at + 1)
  agree_more columns at low many d here is said all i c =
      below_more (λ j. get_or columns j c ≡ get_or (map column_of forms) j c) at (λ j. all j c)
      (get_or_default columns at c here low ∙ sym is ∙ said ∙ sym (column_at at (omega arith) d c)) i

  pub agree_all : (columns : List Column) (n : ℕ) → length columns ≡ length given → length columns ≤ n
      → Agree forms columns n → columns ≡ map column_of forms
  agree_all columns n many far all =
      let c : Column = column_of ([], Integer) in
      ext_get_or c columns (map column_of forms) (many ∙ as_many ∙ sym (length-map forms column_of))
      (λ at low. all at c (omega arith))

  -- another column at a place
  pub apart_at : (columns : List Column) (at : ℕ) → at < length columns → length columns ≡ length given → (d : Given)
      (here : Column) → here ≡ get_or columns at here → columns ≡ map column_of forms
      → here ≡ column_of (value (get_or given at d))
  apart_at columns at low many d here is all =
      is ∙ ap (λ l. get_or l at here) all ∙ column_at at (omega arith) d here
