-- What CREATE TABLE of one of our tables means.
use Rattle.std.proofs.Common.{◌≡◌, ◌⊎◌, inl, inr, List, [], ◌&&◌, not, ◌==◌, ℕ, Bool, true, false, Ok, Err, cond}
use Rattle.std.proofs.Common.{is_some, length, refl, sym, ap, ◌∙◌, if◌then◌else◌}
use Rattle.std.proofs.lemmas.Bool.{true≢false}
use Rattle.std.specs.Option.{option_or}
use Rattle.sqlite.specs.Command.TheVariants as does
use Rattle.sqlite.specs.Listing.{misses_table}
use Rattle.sqlite.specs.State.{text_of}
use Rattle.sqlite_ast.specs.declared.CreateTable.{CreateTable}
use Rattle.sqlite_ast.specs.declared.Statement.{Statement}
use Rattle.sqlite_ast.specs.declared.Statement.TheVariants as written
use Rattle.sqlite_resolve.specs.Compile.{command, compiled, create_table, creates, first, is_attached, is_reserved}
use Rattle.sqlite_resolve.specs.Compile.{meaning, planned, returning, table_defined_by, timed}
use Rattle.sqlite_resolve.specs.Define as define
use Rattle.sqlite_resolve.specs.Lowering.{Checked, and_then}
use Rattle.sqlite_resolve.specs.declared.compiled.Compiled.{Compiled}
use Rattle.sqlite_resolve.specs.declared.error.CompileError.{CompileError}
use Rattle.sqlite_resolve.specs.declared.error.CompileError.TheVariants.{Exists, Misuse, Unsupported}
use Rattle.sqlite_schema.specs.Names.{index_named, table_named, view_named}
use Rattle.sqlite_schema.specs.declared.command.Command.{Command}
use Rattle.sqlite_schema.specs.declared.schema.Schema.{Schema}
use Rattle.sqlite_syntax.specs.declared.statement.Parsed.{Parsed}
use Rattle.sqlite_tied.specs.Compute.{everything}
use Rattle.vet_tables.proofs.Meanings.{Means, compiled_of, means_never, means_now}
use Rattle.vet_tables.proofs.Shapes.{parsed}
use Rattle.vet_tables.proofs.TablePlaces.{each}
use Rattle.vet_tables.specs.Form.{table_of}
use Rattle.vet_tables.specs.Forms.{form_of}
use Rattle.vet_tables.specs.Texts.{create_text}
use Rattle.vet_tables.specs.declared.table_name.TableName.{TableName}

abbrev pub created : TableName → Parsed
created n = parsed (first (create_text (form_of n)))

-- the definition can be made, whatever the schema is
abbrev makes : CreateTable → Checked Command
makes def = and_then (define.table [] def) (λ t. if length t.computed == length t.stamps.places
    && not def.resolves then Ok does.CreateTable else Err Unsupported)

abbrev IsCreation : Statement → Type 0
IsCreation (written.CreateTable def) = (def.if_missing ≡ false) × (makes def ≡ Ok does.CreateTable)
IsCreation _ = ⊥

create_parses : (n : TableName) → (first (create_text (form_of n)) ≡ Ok (created n))
    × IsCreation (created n).statement × ((created n).formats ≡ [])
unfolding everything
create_parses n =
    each (λ n. (first (create_text (form_of n)) ≡ Ok (created n)) × IsCreation (created n).statement
    × ((created n).formats ≡ [])) (assumption refl) n

pub defines : (n : TableName) → table_defined_by (create_text (form_of n)) ≡ Ok (table_of (form_of n) 0)
unfolding everything
defines n = each (λ n. table_defined_by (create_text (form_of n)) ≡ Ok (table_of (form_of n) 0)) (assumption refl) n

-- the whole text is the statement
whole_text : (n : TableName) → text_of (create_text (form_of n))
    (compiled_of does.CreateTable (created n)) ≡ create_text (form_of n)
unfolding everything
whole_text n =
    each (λ n. text_of (create_text (form_of n)) (compiled_of does.CreateTable (created n)) ≡ create_text (form_of n))
    (assumption refl) n

-- it is made, or else refused by an error that is no missing table
abbrev MakesOr : Checked Command → Type 0
MakesOr r = (r ≡ Ok does.CreateTable) ⊎ ((e : CompileError) × (r ≡ Err e) × (misses_table (Err e) ≡ false))

checked : (k : Checked Command) → k ≡ Ok does.CreateTable → (m : Bool) → m ≡ false → (a r o s : Bool)
    → MakesOr
    (cond a (Err Unsupported) (and_then (cond r (Err Misuse)
    (cond o (Err Exists) (cond s (cond m (Ok false) (Err Exists)) (Ok true))))
    (λ is_new. cond is_new k (Ok does.Nothing))))
checked k is m never true r o s = inr (Unsupported, refl, refl)
checked k is m never false true o s = inr (Misuse, refl, refl)
checked k is m never false false true s = inr (Exists, refl, refl)
checked k is true never false false false true = absurd (true≢false never)
checked k is false never false false false true = inr (Exists, refl, refl)
checked k is m never false false false false = inl is

module _ (n : TableName) (schema : Schema) where
  creates_or : (def : CreateTable) → def.if_missing ≡ false → makes def ≡ Ok does.CreateTable
      → MakesOr (create_table schema [] def)
  unfolding create_table creates
  creates_or def never is =
      checked (makes def) is def.if_missing never (is_attached schema def.name) (is_reserved def.name)
      (is_some (index_named schema def.name)) (is_some
      (option_or (table_named schema def.name) (view_named schema def.name)))

  abbrev text : List ℕ
  text = create_text (form_of n)

  compiles : (def : CreateTable) → (created n).statement ≡ written.CreateTable def → (r : Checked Command)
      → create_table schema [] def ≡ r
      → compiled schema text ≡ and_then r (λ c. Ok (compiled_of c (created n)))
  unfolding compiled planned meaning timed returning command
  compiles def is (Ok c) made = let p = create_parses n in rw (p.0, is, p.2, made)
  compiles def is (Err e) made = let p = create_parses n in rw (p.0, is, p.2, made)

  pub create_is : Means schema text does.CreateTable
  create_is = let p = create_parses n in go (created n).statement refl p.1
    where
      go : (s : Statement) → (created n).statement ≡ s → IsCreation s → Means schema text does.CreateTable
      go (written.CreateTable def) is parts = by (creates_or def parts.0 parts.1)
        where
          by : MakesOr (create_table schema [] def) → Means schema text does.CreateTable
          by (inl made) =
              let p = create_parses n in
              let lowered : compiled schema text ≡ Ok (compiled_of does.CreateTable (created n)) =
              compiles def is (Ok does.CreateTable) made in
              means_now schema text does.CreateTable (created n) lowered
          by (inr refused) =
              let lowered : compiled schema text ≡ Err refused.0 = compiles def is (Err refused.0) refused.1 in
              means_never schema text does.CreateTable refused.0 lowered refused.2
      go _ is parts = absurd parts

  -- the text of the statement is the whole text
  pub text_whole : (c : Compiled) → compiled schema text ≡ Ok c → text_of text c ≡ text
  text_whole c known = let p = create_parses n in go (created n).statement refl p.1
    where
      go : (s : Statement) → (created n).statement ≡ s → IsCreation s → text_of text c ≡ text
      go (written.CreateTable def) is parts = by (creates_or def parts.0 parts.1)
        where
          by : MakesOr (create_table schema [] def) → text_of text c ≡ text
          by (inl made) =
              let both : ◌≡◌ {A = Checked Compiled} (Ok c) (Ok (compiled_of does.CreateTable (created n))) = sym known
              ∙ compiles def is (Ok does.CreateTable) made in
              let same : c ≡ compiled_of does.CreateTable (created n) = cc in
              ap (text_of text) same ∙ whole_text n
          by (inr refused) = absurd (let both = sym known ∙ compiles def is (Err refused.0) refused.1 in cc)
      go _ is parts = absurd parts
