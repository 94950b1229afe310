-- What a test of keys, as DELETE has it, is lowered to.
use Rattle.std.proofs.Common.{◌≡◌, List, [], ◌∷◌, ℕ, zero, suc, option_map, ◌+◌, ◌-◌, ◌<◌, nat_lt, Bool, true, false}
use Rattle.std.proofs.Common.{Ok, None, Some, slice_get, refl, sym, subst, unwrap_or, length, arith, cond, ◌==◌}
use Rattle.sqlite_ast.specs.declared.Binary.TheVariants as binary
use Rattle.sqlite_ast.specs.declared.Expr.{Expr, out-Expr}
use Rattle.sqlite_ast.specs.Layer.{Layer}
use Rattle.sqlite_ast.specs.declared.Expr.TheOpen.{Expr-F}
use Rattle.sqlite_draft.specs.declared.join.Step.TheVariants.{Inner}
use Rattle.sqlite_resolve.specs.Body.{tests}
use Rattle.sqlite_resolve.specs.Compare.{affinity_of, compared, converted, may_be_text, of_column, of_declared, spelled}
use Rattle.sqlite_resolve.specs.Expr.{both, combine, lower_to, node, opened, operation, passes, tests_alias}
use Rattle.sqlite_resolve.specs.Expr.{tests_truth, wanted_truth}
use Rattle.sqlite_resolve.specs.Lowering.{Lowering, begin, chosen, finish, nothing, passed, spend}
use Rattle.sqlite_resolve.specs.Scope.{Context, Name, column, column_at, column_in, declared, find, hit, in_level}
use Rattle.sqlite_resolve.specs.Scope.{is_among, only, term_of}
use Rattle.sqlite_resolve.specs.Terms.{conjuncts}
use Rattle.sqlite_resolve.specs.Write.{deleted, over, picked, simple}
use Rattle.sqlite_resolve.specs.declared.compare.Affinity.{Affinity}
use Rattle.sqlite_resolve.specs.declared.compare.Affinity.TheVariants as affinity
use Rattle.sqlite_resolve.specs.declared.state.Carried.{Carried}
use Rattle.sqlite_resolve.specs.declared.state.State.{State}
use Rattle.sqlite_schema.specs.Names.{column_named, place_of}
use Rattle.sqlite_schema.specs.declared.schema.Column.{Column}
use Rattle.sqlite_schema.specs.declared.schema.Schema.{Schema}
use Rattle.sqlite_schema.specs.declared.schema.Table.{Table}
use Rattle.sqlite_sql.specs.Term.{Term, lit, col, op2}
use Rattle.sqlite_sql.specs.declared.ops.BinaryOp.TheVariants as by
use Rattle.sqlite_sql.specs.declared.ops.CompareOp.TheVariants.{Eq}
use Rattle.sqlite_value.specs.declared.keys.Collation.TheVariants.{Binary}
use Rattle.sqlite_value.specs.declared.value.Value.TheVariants as value
use Rattle.std.proofs.lemmas.Bool.{lt-ltb}
use Rattle.std.specs.List.{AllByRecursion}

-- nothing but the budget and what was read last changes
abbrev pub in_state : ℕ → Carried → State
in_state budget last = record { next = 2; steps = []; aggregates = []; budget = budget; written = None; last = last }

pub reads_column : (schema : Schema) (at : ℕ) (table : Table) (owner name : Name) (k : ℕ) (c : Column)
    → slice_get schema.tables at ≡ Some table → column_named table name ≡ Some k
    → slice_get table.columns k ≡ Some c → (s : State)
    → column (over schema at owner) None name s ≡ Ok (col 1 (place_of table k), record s { last = declared table k c })
unfolding column find in_level only hit column_in is_among term_of column_at
reads_column schema at table owner name k c there named has s = rw (there, named) (rw (there, has))

-- an expression is read as a term
abbrev pub IsRead : (Context → Expr → Lowering Term) → Context → Expr → Term → Carried → ℕ → ℕ → Type 0
IsRead low cx e t now b rest = (l : Carried) → low cx e (in_state b l) ≡ Ok (t, in_state rest now)

module _ (low : Context → Expr → Lowering Term) (cx : Context) (e : Expr) where
  pub node_is : (t : Term) (b rest : ℕ) (now : Carried) → nat_lt 1 b ≡ true
      → opened low cx e (in_state (b - 1) nothing) ≡ Ok (t, in_state rest now)
      → IsRead (node low) cx e t (passed (passes e) now) b rest
  unfolding node spend begin finish
  node_is t b rest now pays is l = rw (pays, is)

  pub column_is : (name : Name) (t : Term) (c : Carried) (b : ℕ) → nat_lt 1 b ≡ true
      → out-Expr e ≡ Expr-F.Column None name → ((s : State) → column cx None name s ≡ Ok (t, record s { last = c }))
      → IsRead (node low) cx e t c b (b - 1)
  unfolding opened passes
  column_is name t c b pays is reads = rw is at (node_is t b (b - 1) c pays (rw (is, reads)))

  parameter_is : (n b : ℕ) → nat_lt 1 b ≡ true → out-Expr e ≡ Expr-F.Parameter n
      → IsRead (node low) cx e (col 0 (n - 1)) nothing b (b - 1)
  unfolding opened passes
  parameter_is n b pays is = rw is at (node_is (col 0 (n - 1)) b (b - 1) nothing pays (rw is))

  equal_is : (x y : Expr) (t u : Term) (p q : Carried) (b mid rest : ℕ) → nat_lt 1 b ≡ true
      → out-Expr e ≡ Expr-F.Binary binary.Eq x y
      → IsRead low cx x t p (b - 1) mid → IsRead low cx y u q mid rest → chosen p q ≡ Binary
      → compared cx (by.Compare Eq Binary) t u ≡ op2 (by.Compare Eq Binary) t u
      → IsRead (node low) cx e (op2 (by.Compare Eq Binary) t u) nothing b rest
  unfolding opened passes operation both wanted_truth tests_truth tests_alias combine
  equal_is x y t u p q b mid rest pays is left right how same =
      rw is at (node_is (op2 (by.Compare Eq Binary) t u) b rest q pays (rw (is, left, right, how, same)))

  and_is : (x y : Expr) (t u : Term) (p q : Carried) (b mid rest : ℕ) → nat_lt 1 b ≡ true
      → out-Expr e ≡ Expr-F.Binary binary.And x y
      → IsRead low cx x t p (b - 1) mid → IsRead low cx y u q mid rest
      → IsRead (node low) cx e (op2 by.And t u) nothing b rest
  unfolding opened passes operation both wanted_truth tests_truth tests_alias combine
  and_is x y t u p q b mid rest pays is left right =
      rw is at (node_is (op2 by.And t u) b rest q pays (rw (is, left, right)))

-- the test of a column by a parameter
pub record IsKeyColumn (cx : Context) (name : Name) (t : Term) : Type 0 where
  pub carried : Carried
  pub reads : (s : State) → column cx None name s ≡ Ok (t, record s { last = carried })
  pub how : chosen carried nothing ≡ Binary
  pub same : (i : ℕ) → compared cx (by.Compare Eq Binary) t (col 0 i) ≡ op2 (by.Compare Eq Binary) t (col 0 i)

-- the sides of an operation
abbrev pub left_at : Expr → Layer → Expr
left_at e (Expr-F.Binary op x y) = x
left_at e _ = e

abbrev pub right_at : Expr → Layer → Expr
right_at e (Expr-F.Binary op x y) = y
right_at e _ = e

abbrev pub left_of : Expr → Expr
left_of e = left_at e (out-Expr e)

abbrev pub right_of : Expr → Expr
right_of e = right_at e (out-Expr e)

abbrev pub IsEqual : Name → ℕ → Expr → Type 0
IsEqual name n e =
    (out-Expr e ≡ Expr-F.Binary binary.Eq (left_of e) (right_of e)) × (out-Expr (left_of e) ≡ Expr-F.Column None name)
    × (out-Expr (right_of e) ≡ Expr-F.Parameter (n + 1))

abbrev pub Key : Type 0
Key = Name × Term

-- the tests of the keys, the last of which stands first in the list
abbrev pub AreTests : List Key → Expr → Type 0
AreTests [] e = ⊥
AreTests (k ∷ []) e = IsEqual k.0 0 e
AreTests (k ∷ next ∷ more) e =
    (out-Expr e ≡ Expr-F.Binary binary.And (left_of e) (right_of e)) × AreTests (next ∷ more) (left_of e)
    × IsEqual k.0 (length (next ∷ more)) (right_of e)

abbrev pub equal_term : Term → ℕ → Term
equal_term t n = op2 (by.Compare Eq Binary) t (col 0 n)

abbrev pub test_term : List Key → Term
test_term [] = lit value.Null
test_term (k ∷ []) = equal_term k.1 0
test_term (k ∷ next ∷ more) = op2 by.And (test_term (next ∷ more)) (equal_term k.1 (length (next ∷ more)))

abbrev pub depth : List Key → ℕ → ℕ
depth [] d = suc d
depth (k ∷ more) d = suc (depth more d)

deep : (more : List Key) (d : ℕ) → (n : ℕ) × (depth more d ≡ suc n)
deep [] d = (d, refl)
deep (k ∷ more) d = (depth more d, refl)

abbrev pub cost : List Key → ℕ
cost [] = 1
cost (k ∷ more) = 4 + cost more

pays : (b : ℕ) → 1 < b → nat_lt 1 b ≡ true
pays b low = lt-ltb 1 b low

module _ (cx : Context) where
  equal_read : (d : ℕ) (name : Name) (t : Term) (n b : ℕ) (e : Expr) → IsKeyColumn cx name t → IsEqual name n e
      → 4 < b → IsRead (lower_to (suc (suc d))) cx e (equal_term t n) nothing b (b - 1 - 1 - 1)
  unfolding lower_to
  equal_read d name t n b e key is low =
      let right = parameter_is (lower_to d) cx (right_of e) (n + 1) (b - 1 - 1)
      (pays (b - 1 - 1) (omega (arith, low))) is.2 in
      let same : n + 1 - 1 ≡ n = omega arith in
      equal_is (lower_to (suc d)) cx e (left_of e) (right_of e) t (col 0 n) key.carried nothing b (b - 1 - 1)
      (b - 1 - 1 - 1) (pays b (omega (arith, low))) is.0
      (column_is (lower_to d) cx (left_of e) name t key.carried (b - 1)
      (pays (b - 1) (omega (arith, low))) is.1 key.reads)
      (rw same at right) key.how (key.same n)

  -- the budget that is left
  tests_read : (ks : List Key) (d b : ℕ) (e : Expr) → AllByRecursion (λ k. IsKeyColumn cx k.0 k.1) ks → AreTests ks e
      → cost ks < b
      → (rest : ℕ) × (b < rest + cost ks) × IsRead (lower_to (depth ks d)) cx e (test_term ks) nothing b rest
  unfolding lower_to
  tests_read [] d b e all is low = absurd is
  tests_read (k ∷ []) d b e all is low = (
    b - 1 - 1 - 1,
    omega (arith, low),
    equal_read d k.0 k.1 0 b e all.0 is (omega (arith, low)),
  )
  tests_read (k ∷ next ∷ more) d b e all is low =
      let left = tests_read (next ∷ more) d (b - 1) (left_of e) all.1 is.1 (omega (arith, low)) in
      let n = deep more d in
      let right = equal_read n.0 k.0 k.1 (length (next ∷ more)) left.0 (right_of e) all.0 is.2
      (omega (arith, low, left.1)) in (
        left.0 - 1 - 1 - 1,
        omega (arith, low, left.1),
        and_is (lower_to (depth (next ∷ more) d)) cx e (left_of e) (right_of e) (test_term (next ∷ more))
            (equal_term k.1 (length (next ∷ more))) nothing nothing b left.0 (left.0 - 1 - 1 - 1)
            (pays b (omega (arith, low))) is.0
            left.2 (subst (λ m. IsRead (lower_to (suc m)) cx (right_of e)
            (equal_term k.1 (length (next ∷ more))) nothing left.0 (left.0 - 1 - 1 - 1)) (sym n.1) right),
      )

module _ (schema : Schema) (at : ℕ) (table : Table) (ks : List Key) (d : ℕ) (e : Expr) where
  -- DELETE reads the rowids of the rows that pass the tests
  pub deleted_is : depth ks d ≡ 700 → AllByRecursion (λ k. IsKeyColumn (over schema at table.name) k.0 k.1) ks
      → AreTests ks e → cost ks < 100000
      → deleted schema at table (Some e) ≡ Ok (simple (Inner table.tree ∷ []) (conjuncts (test_term ks)) (col 1 0 ∷ []))
  unfolding deleted picked tests
  deleted_is whole all is low =
      let read = tests_read (over schema at table.name) ks d 100000 e all is low in
      let lowered = rw whole at (read.2 nothing) in
      rw lowered

-- without a test it reads those of all rows
pub all_deleted : (schema : Schema) (at : ℕ) (table : Table)
    → deleted schema at table None ≡ Ok (simple (Inner table.tree ∷ []) [] (col 1 0 ∷ []))
unfolding deleted picked tests
all_deleted schema at table = refl

-- ---- the columns of a table

abbrev pub affinity_in : Table → ℕ → Affinity
affinity_in table zero = affinity.Numeric
affinity_in table (suc at) = unwrap_or (option_map of_declared (slice_get table.columns at)) affinity.None

-- a parameter beside it is left as it is
abbrev pub is_settled : Affinity → Bool
is_settled affinity.Numeric = true
is_settled affinity.Text = true
is_settled affinity.Blob = true
is_settled _ = false

settled_left : (a : Affinity) (t : Term) → is_settled a ≡ true → converted a affinity.None t ≡ t
unfolding converted
settled_left affinity.Numeric t h = refl
settled_left affinity.Text t h = refl
settled_left affinity.Blob t h = refl
settled_left affinity.None t h = absurd cc
settled_left affinity.Loose t h = absurd cc

settled_right : (a : Affinity) (i : ℕ) → is_settled a ≡ true → converted affinity.None a (col 0 i) ≡ col 0 i
unfolding converted may_be_text spelled
settled_right affinity.Numeric i h = refl
settled_right affinity.Text i h = refl
settled_right affinity.Blob i h = refl
settled_right affinity.None i h = absurd cc
settled_right affinity.Loose i h = absurd cc

-- what is told of a column of a key, where the table is known
pub record IsColumn (table : Table) (name : Name) (k : ℕ) (c : Column) : Type 0 where
  pub named : column_named table name ≡ Some k
  pub has : slice_get table.columns k ≡ Some c
  pub how : chosen (declared table k c) nothing ≡ Binary
  pub settled : is_settled (affinity_in table (place_of table k)) ≡ true

module _ (schema : Schema) (at : ℕ) (table : Table) (owner : Name)
    (there : slice_get schema.tables at ≡ Some table) where
  of_place : (p : ℕ) → of_column (over schema at owner) 1 p ≡ affinity_in table p
  unfolding of_column
  of_place zero = refl
  of_place (suc p) = rw there

  of_parameter : (i : ℕ) → of_column (over schema at owner) 0 i ≡ affinity.None
  unfolding of_column
  of_parameter i = go (i == 0)
    where
      go : (b : Bool) → cond b affinity.None affinity.None ≡ affinity.None
      go true = refl
      go false = refl

  pub key_column : (name : Name) (k : ℕ) (c : Column) → IsColumn table name k c
      → IsKeyColumn (over schema at owner) name (col 1 (place_of table k))
  unfolding affinity_of compared of_column
  key_column name k c is = record {
    carried = declared table k c;
    reads = reads_column schema at table owner name k c there is.named is.has;
    how = is.how;
    same = λ i. rw (
      of_place (place_of table k),
      of_parameter i,
      settled_left (affinity_in table (place_of table k)) (col 1 (place_of table k)) is.settled,
      settled_right (affinity_in table (place_of table k)) i is.settled,
    );
  }
