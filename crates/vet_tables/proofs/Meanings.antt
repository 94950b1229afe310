-- What a text means, where it is understood.
use Rattle.std.proofs.Common.{◌≡◌, ◌⊎◌, inl, inr, List, [], ◌+◌, ℕ, true, false, Ok, Err, None, Some, Option, slice_get}
use Rattle.std.proofs.Common.{refl, sym, ap, ◌∙◌, cond, Bool}
use Rattle.sqlite.specs.Command.TheVariants.{Insert, Delete}
use Rattle.sqlite.specs.Listing.{misses_table, reads_listing, understood}
use Rattle.sqlite_ast.specs.declared.Conflict.TheVariants as conflict
use Rattle.sqlite_ast.specs.declared.Expr.{Expr}
use Rattle.sqlite_ast.specs.declared.Rows.{Rows}
use Rattle.sqlite_ast.specs.declared.Statement.TheVariants as written
use Rattle.sqlite_draft.specs.Query.{query_of}
use Rattle.sqlite_draft.specs.declared.query.Draft.{Draft}
use Rattle.sqlite_resolve.specs.Compile.{command, compiled, delete, first, formats_of, insert, insert_or_abort, meaning}
use Rattle.sqlite_resolve.specs.Compile.{new_rows, planned, returning, shows, small, timed}
use Rattle.sqlite_resolve.specs.Lowering.{Checked}
use Rattle.sqlite_resolve.specs.Program.{program}
use Rattle.sqlite_resolve.specs.Write.{deleted}
use Rattle.sqlite_resolve.specs.declared.compiled.Compiled.{Compiled}
use Rattle.sqlite_resolve.specs.declared.error.CompileError.{CompileError}
use Rattle.sqlite_resolve.specs.declared.error.CompileError.TheVariants.{Mismatch}
use Rattle.sqlite_schema.specs.Names.{table_named}
use Rattle.sqlite_schema.specs.declared.command.Command.{Command}
use Rattle.sqlite_schema.specs.declared.command.Source.{Source}
use Rattle.sqlite_schema.specs.declared.program.Program.{Program}
use Rattle.sqlite_schema.specs.declared.schema.Schema.{Schema}
use Rattle.sqlite_schema.specs.declared.schema.Table.{Table}
use Rattle.sqlite_syntax.specs.declared.statement.Parsed.{Parsed}
use Rattle.sqlite_typing.specs.Types.{accepts_program}

-- where the text is understood at all, it is this command, with no RETURNING and without the time
pub record Means (schema : Schema) (text : List ℕ) (does : Command) : Type 0 where
  pub stored : understood schema text ≡ compiled schema text
  pub unlisted : reads_listing schema text ≡ false
  pub means : (c : Compiled) → compiled schema text ≡ Ok c → (c.command ≡ does) × (c.returning ≡ None)
      × (c.formats ≡ [])

abbrev pub compiled_of : Command → Parsed → Compiled
compiled_of does p = record {
  command = does;
  returning = None;
  names = p.names;
  formats = [];
  start = p.start;
  end =
      p.end;
  tail = p.tail;
}

pub means_now : (schema : Schema) (text : List ℕ) (does : Command) (p : Parsed)
    → compiled schema text ≡ Ok (compiled_of does p) → Means schema text does
unfolding understood
means_now schema text does p is = record {
  stored = rw is;
  unlisted = ap misses_table is;
  means =
      λ c other. go c (sym is ∙ other);
}
  where
    go : (c : Compiled) → ◌≡◌ {A = Checked Compiled} (Ok (compiled_of does p)) (Ok c) → (c.command ≡ does)
        × (c.returning ≡ None) × (c.formats ≡ [])
    go c e = let same : compiled_of does p ≡ c = cc in rw (← same) (refl, refl, refl)

-- a text that is refused, by an error that is no missing table
pub means_never : (schema : Schema) (text : List ℕ) (does : Command) (e : CompileError) → compiled schema text ≡ Err e
    → misses_table (Err e) ≡ false → Means schema text does
unfolding understood
means_never schema text does e is known = record {
  stored = rw (is, known);
  unlisted = ap misses_table is
      ∙ known;
  means = λ c other. absurd (let both = sym is ∙ other in cc);
}

pub means_if : (schema : Schema) (text : List ℕ) (does : Command) (p : Parsed)
    → (compiled schema text ≡ Ok (compiled_of does p)) ⊎ (compiled schema text ≡ Err Mismatch) → Means schema text does
unfolding understood
means_if schema text does p (inl is) = means_now schema text does p is
means_if schema text does p (inr is) = record {
  stored = rw is;
  unlisted = ap misses_table is;
  means =
      λ c other. absurd (let e = sym is ∙ other in cc);
}

abbrev pub Lowered : Schema → Draft → Checked Program → Type 0
Lowered schema d r = (r ≡ Ok (record { lets = []; body = query_of d })) ⊎ (r ≡ Err Mismatch)

pub programmed : (schema : Schema) (d : Draft) → Lowered schema d (program schema [] d)
unfolding program
programmed schema d = go (accepts_program schema [] (query_of d) [])
  where
    go : (b : Bool) → Lowered schema d (cond b (Ok (record { lets = []; body = query_of d })) (Err Mismatch))
    go true = inl refl
    go false = inr refl

module _ (schema : Schema) (at : ℕ) (table : Table) (name text : List ℕ) (named : table_named schema name ≡ Some at)
    (there : slice_get schema.tables at ≡ Some table) (p : Parsed)
    (parses : first text ≡ Ok p) (unformatted : p.formats ≡ []) where
  untimed : table.stamps.formats ≡ [] → formats_of schema name ≡ []
  untimed plain = rw (named, there) plain

  pub insert_means : (rows : Rows) (source : Source) → table.stamps.formats ≡ []
      → p.statement ≡ written.Insert conflict.Abort name [] rows [] []
      → new_rows schema table (small p.names + small []) [] rows ≡ Ok source → Means schema text (Insert at source)
  unfolding compiled planned meaning timed returning shows command insert_or_abort insert
  insert_means rows source plain is gives =
      means_now schema text (Insert at source) p (rw (parses, is, unformatted, untimed plain, named, there, gives))

  pub delete_means : (test : Option Expr) (d : Draft) → p.statement ≡ written.Delete name test []
      → deleted schema at table test ≡ Ok d
      → Means schema text (Delete at (record { lets = []; body = query_of d }))
  unfolding compiled planned meaning timed returning shows command delete
  delete_means test d is gives = means_if schema text (Delete at (record { lets = []; body = query_of d })) p
      (go (programmed schema d))
    where
      go : Lowered schema d (program schema [] d) → (compiled schema text ≡ Ok
          (compiled_of (Delete at (record { lets = []; body = query_of d })) p)) ⊎ (compiled schema text ≡ Err Mismatch)
      go (inl good) = inl (rw (parses, is, unformatted, named, there, gives, good))
      go (inr bad) = inr (rw (parses, is, unformatted, named, there, gives, bad))
