use Rattle.std.proofs.Common.{sym, ◌∙◌}
use Rattle.std.proofs.lemmas.Bool.{false≢true}
use Rattle.vet_tables.proofs.TablePlaces.{few}
use Rattle.vet_tables.proofs.Versions.{has_second}
use Rattle.vet_tables.proofs.find.version_of.Goals as goal
use Rattle.vet_tables.specs.Versions.{HasVersion}
use Rattle.vet_tables.specs.declared.version.TablesVersion.{TablesVersion}
use Rattle.vet_tables.specs.declared.version.TablesVersion.TheVariants.{First, Second}

pub returns-then-has_tables-clause-found : goal.returns-then-has_tables-clause-found
returns-then-has_tables-clause-found c =
    has_second c.args.schema.now (c.has_tables.ensures.0 c.if-has_tables.true)

pub returns-clause-none : goal.returns-clause-none
returns-clause-none c _ some = none some.0 some.1
  where
    none : (version : TablesVersion) → HasVersion version c.args.schema.now → ⊥
    none First has = c.has_first_version.ensures.other c.if-has_first_version.false has
    none Second has =
        false≢true (sym c.if-has_tables.false ∙ c.has_tables.ensures.1 (λ n. has.has n (few n)))
