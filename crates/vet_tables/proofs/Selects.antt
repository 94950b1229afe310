-- What a SELECT of the rowid and all columns is lowered to.
use Rattle.std.proofs.Common.{◌≡◌, ◌⊎◌, inl, inr, List, [], ◌∷◌, ℕ, ◌-◌, ◌^◌, nat_lt, Bool, true, false, codes, Ok, Err}
use Rattle.std.proofs.Common.{None, Some, slice_get, refl, length, map, negsuc}
use Rattle.sqlite_ast.specs.declared.Core.{Core, out-Core}
use Rattle.sqlite_ast.specs.declared.Expr.{Expr, out-Expr}
use Rattle.sqlite_ast.specs.declared.Expr.TheOpen.{Expr-F, Shown-F}
use Rattle.sqlite_ast.specs.declared.Origin.TheVariants as origin
use Rattle.sqlite_ast.specs.declared.Select.{Select, out-Select}
use Rattle.sqlite_ast.specs.declared.Shown.{Shown, out-Shown}
use Rattle.sqlite_ast.specs.declared.Sort.{Sort, out-Sort}
use Rattle.sqlite_ast.specs.declared.Source.{Source, out-Source}
use Rattle.sqlite_draft.specs.declared.join.Step.TheVariants.{Inner}
use Rattle.sqlite_draft.specs.declared.query.Draft.{Draft}
use Rattle.sqlite_resolve.specs.Body.{body, bound, bounds, columns_from, columns_of, heading, inner_join, is_column}
use Rattle.sqlite_resolve.specs.Body.{join, joins, matching, outputs, result, shared, stars, table_in, tests, within}
use Rattle.sqlite_resolve.specs.Body as body
use Rattle.sqlite.specs.Command.TheVariants.{Select as Select'}
use Rattle.sqlite_ast.specs.declared.Statement.TheVariants as written
use Rattle.sqlite_draft.specs.Query.{query_of}
use Rattle.sqlite_resolve.specs.Compile.{command, compiled, first, meaning, planned, read, returning, timed}
use Rattle.sqlite_resolve.specs.Program as program
use Rattle.sqlite_resolve.specs.Program.{Building, level, program, query, query_to, single, source, sources, viewing}
use Rattle.sqlite_resolve.specs.Program.{whole as whole', with}
use Rattle.sqlite_resolve.specs.Program.{Shown as Answer}
use Rattle.sqlite_resolve.specs.declared.error.CompileError.TheVariants.{Mismatch}
use Rattle.sqlite_syntax.specs.declared.statement.Parsed.{Parsed}
use Rattle.vet_tables.proofs.Meanings.{compiled_of, Lowered, Means, means_if, programmed}
use Rattle.sqlite_resolve.specs.Expr.{lower, lower_to}
use Rattle.sqlite_resolve.specs.Lowering.{alone, fresh, nothing, take_slot}
use Rattle.sqlite_resolve.specs.Order.{alias_in, collation_of, is_numeral, key, keys, peeled, placed, sort, sorts}
use Rattle.sqlite_resolve.specs.Order.{written_on}
use Rattle.sqlite_resolve.specs.Scope.{Context, Name, column, column_in, find, hit, in_level, is_among, is_rowid, only}
use Rattle.sqlite_resolve.specs.Scope.{rowid_in, term_of, alias_of}
use Rattle.sqlite_resolve.specs.Select.{assembled, having, named, outermost, paging, parts, ungrouped, constant_or}
use Rattle.sqlite_resolve.specs.Terms.{number}
use Rattle.sqlite_resolve.specs.declared.body.Body.{Body}
use Rattle.sqlite_resolve.specs.declared.scope.Bound.{Bound}
use Rattle.sqlite_resolve.specs.declared.scope.Output.{Output}
use Rattle.sqlite_resolve.specs.declared.state.Carried.{Carried}
use Rattle.sqlite_resolve.specs.declared.state.State.{State}
use Rattle.sqlite_schema.specs.Names.{column_named, same_name, table_named}
use Rattle.sqlite_schema.specs.declared.schema.Schema.{Schema}
use Rattle.sqlite_schema.specs.declared.schema.Table.{Table}
use Rattle.sqlite_sql.specs.Term.{lit, col}
use Rattle.sqlite_value.specs.Keys.{ascending}
use Rattle.sqlite_value.specs.declared.keys.Collation.TheVariants.{Binary}
use Rattle.sqlite_value.specs.declared.value.Value.TheVariants.{Int}
use Rattle.vet_tables.proofs.KeyTests.{column_is, in_state, IsRead}

abbrev pub rowid_name : Name
rowid_name = codes "rowid"

abbrev pub bound_at : Name → ℕ → Bound
bound_at name at = record { name = name; table = at; slot = 1; shared = [] }

abbrev pub rowid_output : Schema → ℕ → Name → Expr → Name → Output
rowid_output schema at name e text = record {
  name = heading (record {
    schema = schema;
    levels = record { tables = bound_at name at ∷ []; shown = [] }
        ∷ [];
    may_aggregate = true;
    may_alias = true;
  }) e text;
  is_alias = false;
  is_column = is_column e;
  term = col 1 0;
  carried = nothing;
}

-- the columns of the result
abbrev pub outputs_of : Schema → ℕ → Table → Name → Expr → Name → List Output
outputs_of schema at table name e text = columns_from None table (bound_at name at) 0
    (rowid_output schema at name e text ∷ []) table.columns

module _ (schema : Schema) (at : ℕ) (table : Table) (name : Name) (named_there : table_named schema name ≡ Some at)
    (there : slice_get schema.tables at ≡ Some table)
    (low : nat_lt table.tree (2 ^ 31) ≡ true) (nameless : column_named table rowid_name ≡ None) where
  -- the rowid is no column, and so is itself
  reads_rowid : (shown : List Output) (may_aggregate may_alias : Bool) (s : State)
      → column (record {
        schema = schema;
        levels = record { tables = bound_at name at ∷ []; shown = shown }
            ∷ [];
        may_aggregate = may_aggregate;
        may_alias = may_alias;
      }) None rowid_name s
      ≡ Ok (col 1 0, record s { last = nothing })
  unfolding column find in_level only hit column_in is_among rowid_in is_rowid term_of same_name
  reads_rowid shown may_aggregate may_alias s = rw (there, nameless, low)

  abbrev here : Bound
  here = bound_at name at

  abbrev cx_with : List Output → Bool → Context
  cx_with shown may_aggregate = record {
    schema = schema;
    levels = record { tables = here ∷ []; shown = shown }
        ∷ [];
    may_aggregate = may_aggregate;
    may_alias = true;
  }

  rowid_read : (e : Expr) (shown : List Output) (may_aggregate : Bool) → out-Expr e ≡ Expr-F.Column None rowid_name
      → IsRead lower (cx_with shown may_aggregate) e (col 1 0) nothing 100000 (100000 - 1)
  unfolding lower_to
  rowid_read e shown may_aggregate is = column_is (lower_to 699) (cx_with shown may_aggregate) e rowid_name
      (col 1 0) nothing 100000 refl is (reads_rowid shown may_aggregate true)

  abbrev first_output : Expr → Name → Output
  first_output = rowid_output schema at name

  abbrev all_outputs : Expr → Name → List Output
  all_outputs = outputs_of schema at table name

  module _ (from : Source) (from_is : out-Source from ≡ record {
    is_left = false;
    origin = origin.Table name;
    alias =
        None;
    on = None;
    using = [];
  }) where
    bounds_are : bounds schema (from ∷ []) (fresh 1 100000) ≡ Ok (here ∷ [], in_state 100000 nothing)
    unfolding bounds bound table_in take_slot
    bounds_are = rw (from_is, named_there)

    joins_are : (shown : List Output) (b : ℕ) (l : Carried)
        → joins lower (cx_with shown false) (here ∷ []) (from ∷ []) (in_state b l) ≡ Ok
        (record { steps = Inner table.tree ∷ []; filter = [] }, in_state b l)
    unfolding joins join shared inner_join tests
    joins_are shown b l = rw (from_is, there)

    module _ (e : Expr) (text : Name) (one all : Shown) (e_is : out-Expr e ≡ Expr-F.Column None rowid_name)
        (one_is : out-Shown one ≡ Shown-F.One e None text) (all_is : out-Shown all ≡ Shown-F.All)
        (few : nat_lt 2000 (length (all_outputs e text)) ≡ false)
        (some : nat_lt 1 (length (all_outputs e text)) ≡ true) where
      stars_are : stars schema None (first_output e text ∷ []) (here ∷ []) ≡ Ok (all_outputs e text)
      unfolding stars columns_of
      stars_are = rw (there, few, some)

      shown_one : body.shown lower (cx_with [] true) (here ∷ []) [] one (in_state 100000 nothing) ≡ Ok
          (first_output e text ∷ [], in_state (100000 - 1) nothing)
      unfolding body.shown
      shown_one = let read = rowid_read e [] true e_is nothing in rw (one_is, read)

      shown_all : body.shown lower (cx_with [] true) (here ∷ []) (first_output e text ∷ []) all
          (in_state (100000 - 1) nothing) ≡ Ok (all_outputs e text, in_state (100000 - 1) nothing)
      unfolding body.shown
      shown_all = rw (all_is, stars_are)

      outputs_are : outputs lower (cx_with [] true) (here ∷ []) (one ∷ all ∷ []) (in_state 100000 nothing) ≡ Ok
          (all_outputs e text, in_state (100000 - 1) nothing)
      unfolding outputs
      outputs_are = rw (shown_one, shown_all)

      module _ (core : Core) (distinct_is : (out-Core core).distinct ≡ false) (shown_is : (out-Core core).shown ≡ one
          ∷ all ∷ []) (comes : (out-Core core).from ≡ from ∷ [])
          (filter_is : (out-Core core).filter ≡ None) (group_is : (out-Core core).group ≡ [])
          (having_is : (out-Core core).having ≡ None)
          (by : Sort) (k : Expr) (by_is : (out-Sort by).key ≡ k) (rises : (out-Sort by).descending ≡ false)
          (no_nulls : (out-Sort by).nulls_first ≡ None) (k_is : out-Expr k ≡ Expr-F.Column None rowid_name)
          (unnamed : alias_of rowid_name (all_outputs e text) ≡ None) where
        abbrev whole : Body
        whole = record {
          level = record { tables = here ∷ []; shown = all_outputs e text };
          steps = Inner table.tree
              ∷ [];
          filter = [];
        }

        result_is : result lower (outermost schema) (record { tables = here ∷ []; shown = [] }) core
            (in_state 100000 nothing) ≡ Ok (all_outputs e text, in_state (100000 - 1) nothing)
        unfolding result
        result_is = rw (shown_is, outputs_are)

        matching_is : matching lower (outermost schema)
            (record { tables = here ∷ []; shown = all_outputs e text }) core (in_state (100000 - 1) nothing)
            ≡ Ok (record { steps = Inner table.tree ∷ []; filter = [] }, in_state (100000 - 1) nothing)
        unfolding matching tests
        matching_is = let joined = joins_are (all_outputs e text) (100000 - 1) nothing in rw (comes, joined, filter_is)

        body_is : body lower (outermost schema) core (fresh 1 100000) ≡ Ok (whole, in_state (100000 - 1) nothing)
        unfolding body
        body_is = rw (comes, bounds_are, result_is, matching_is)

        key_read : (b : ℕ) (l : Carried) → nat_lt 1 b ≡ true
            → IsRead lower (cx_with (all_outputs e text) false) k (col 1 0) nothing b (b - 1)
        unfolding lower_to
        key_read b l pays = column_is (lower_to 699) (cx_with (all_outputs e text) false) k rowid_name
            (col 1 0) nothing b pays k_is (reads_rowid (all_outputs e text) false true)

        peel : peeled (out-Sort by).key ≡ k
        unfolding peeled
        peel = rw (by_is, k_is)

        no_alias : alias_in (all_outputs e text) k ≡ None
        unfolding alias_in
        no_alias = rw k_is unnamed

        key_is : key lower (cx_with (all_outputs e text) false) (all_outputs e text) k
            (in_state (100000 - 1) nothing) ≡ Ok (col 1 0, in_state (100000 - 1 - 1) nothing)
        unfolding key is_numeral
        key_is = let read = key_read (100000 - 1) nothing refl nothing in rw (read, k_is)

        how_is : collation_of (out-Sort by).key (in_state (100000 - 1 - 1) nothing) ≡ Ok
            (Binary, in_state (100000 - 1 - 1) nothing)
        unfolding collation_of written_on alone
        how_is = rw (by_is, k_is)

        sort_is : sort lower (cx_with (all_outputs e text) false) (all_outputs e text) [] by
            (in_state (100000 - 1) nothing) ≡ Ok ((col 1 0, ascending Binary) ∷ [], in_state (100000 - 1 - 1) nothing)
        unfolding sort placed
        sort_is = rw (peel, no_alias, key_is, how_is, rises, no_nulls)

        sorts_are : sorts lower (cx_with (all_outputs e text) false) (all_outputs e text) (by ∷ [])
            (in_state (100000 - 1) nothing) ≡ Ok ((col 1 0, ascending Binary) ∷ [], in_state (100000 - 1 - 1) nothing)
        unfolding sorts
        sorts_are = rw sort_is

        parts_are : parts schema core (by ∷ []) (fresh 1 100000)
            ≡ Ok (
              record {
                body = whole;
                is_grouped = false;
                keys = [];
                collations = [];
                having = [];
                order =
                    (col 1 0, ascending Binary) ∷ [];
              },
              in_state (100000 - 1 - 1) nothing,
            )
        unfolding parts keys having tests
        parts_are = rw (body_is, group_is, having_is, sorts_are)

        abbrev draft : Draft
        draft = ungrouped (Inner table.tree ∷ []) [] (all_outputs e text) false ((col 1 0, ascending Binary) ∷ [])
            (lit (Int (negsuc 0))) (number 0)

        named_is : named schema core (by ∷ []) (lit (Int (negsuc 0)), number 0)
            ≡ Ok (draft, map (λ o. o.name) (all_outputs e text), map (λ o. o.carried.collation) (all_outputs e text))
        unfolding named assembled
        named_is = rw (parts_are, distinct_is)

        module _ (sel : Select) (with_is : (out-Select sel).with ≡ []) (first_is : (out-Select sel).first ≡ core)
            (others_is : (out-Select sel).others ≡ []) (order_is : (out-Select sel).order ≡ by ∷ [])
            (limit_is : (out-Select sel).limit ≡ None) (offset_is : (out-Select sel).offset ≡ None) where
          abbrev heads : List Name
          heads = map (λ o. o.name) (all_outputs e text)

          paging_is : paging schema sel ≡ Ok (lit (Int (negsuc 0)), number 0)
          unfolding paging constant_or
          paging_is = rw (limit_is, offset_is)

          sources_are : (again : Schema → Select → Building Answer)
              → sources again schema (from ∷ []) [] ≡ Ok (schema, [])
          unfolding sources source
          sources_are again = rw from_is

          alone_is : (again : Schema → Select → Building Answer)
              → program.alone again schema core (by ∷ []) (lit (Int (negsuc 0)), number 0) []
              ≡ Ok ((draft, heads, map (λ o. o.carried.collation) (all_outputs e text)), [])
          unfolding program.alone single viewing
          alone_is again = let from_first = sources_are again in rw (comes, from_first, named_is)

          level_is : (again : Schema → Select → Building Answer)
              → level again schema sel [] ≡ Ok ((draft, heads, map (λ o. o.carried.collation) (all_outputs e text)), [])
          unfolding level with whole'
          level_is again = let it = alone_is again in rw (with_is, paging_is, others_is, first_is, order_is, it)

          query_is : query schema sel ≡ Ok ((draft, heads, map (λ o. o.carried.collation) (all_outputs e text)), [])
          unfolding query query_to
          query_is = level_is (query_to 15)

          pub select_means : (statement : List ℕ) (p : Parsed) → first statement ≡ Ok p
              → p.statement ≡ written.Select sel → p.formats ≡ []
              → Means schema statement (Select' (record { lets = []; body = query_of draft }) heads)
          unfolding compiled planned meaning timed returning command read
          select_means statement p parses is unformatted =
              means_if schema statement (Select' (record { lets = []; body = query_of draft }) heads) p
              (go (programmed schema draft))
            where
              go : Lowered schema draft (program schema [] draft)
                  → (compiled schema statement ≡ Ok
                  (compiled_of (Select' (record { lets = []; body = query_of draft }) heads) p))
                  ⊎ (compiled schema statement ≡ Err Mismatch)
              go (inl good) = inl (rw (parses, is, unformatted, query_is, good))
              go (inr bad) = inr (rw (parses, is, unformatted, query_is, bad))
