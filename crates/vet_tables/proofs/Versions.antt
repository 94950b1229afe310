-- The tables of the versions.
use Rattle.std.proofs.Common.{◌≡◌, ◌<◌, ◌≤◌, ◌∙◌, ℕ, None, Option, Some, arith, refl, rules, sym}
use Rattle.sqlite_schema.specs.declared.schema.Schema.{Schema}
use Rattle.vet_tables.proofs.Extends.{unused}
use Rattle.vet_tables.proofs.TablePlaces.{few}
use Rattle.vet_tables.specs.Form.{TableForm}
use Rattle.vet_tables.specs.Forms.{code}
use Rattle.vet_tables.specs.Free.{IsFree}
use Rattle.vet_tables.specs.Has.{HasTable, HasTables}
use Rattle.vet_tables.specs.Versions.{HasVersion, table_count}
use Rattle.vet_tables.specs.declared.table_name.DaysTable.TheVariants.{Today}
use Rattle.vet_tables.specs.declared.table_name.TableName.TheVariants.{Days}
use Rattle.vet_tables.specs.declared.table_name.TheConstants.{TABLE_COUNT}
use Rattle.vet_tables.specs.declared.version.TablesVersion.{TablesVersion}
use Rattle.vet_tables.specs.declared.version.TablesVersion.TheVariants.{First, Second}

-- each version has tables: that of `meta` is the first
pub some_tables : (version : TablesVersion) → 0 < table_count version
some_tables First = search rules
some_tables Second = search rules

-- all tables are those of the second version
pub has_second : (schema : Schema) → HasTables schema → HasVersion Second schema
has_second schema has = record {
  has = λ n low. has n;
  free = λ n high. (let beyond : TABLE_COUNT ≤ code n = high in absurd (omega (arith, beyond, few n)));
}

-- a name is not free where its table is
pub not_free : (schema : Schema) (form : TableForm) → IsFree schema form.name → HasTable schema form → ⊥
not_free schema form free has =
    let none = (unused schema form.name free.unused).0 in
    absurd (let e : ◌≡◌ {A = Option ℕ} None (Some has.at) = sym none ∙ has.named in cc)

first_or_second : (schema : Schema) → HasVersion First schema → HasVersion Second schema → ⊥
first_or_second schema one two =
    not_free schema _ (one.free (Days Today) (search rules)) (two.has (Days Today) (search rules))

-- so the tables are those of one version
pub one_version : (schema : Schema) (v w : TablesVersion) → HasVersion v schema → HasVersion w schema → v ≡ w
one_version schema First First a b = refl
one_version schema Second Second a b = refl
one_version schema First Second a b = absurd (first_or_second schema a b)
one_version schema Second First a b = absurd (first_or_second schema b a)
