-- The table of an audits file, as a function of its content (The Cargo Vet Book, audits file).
use Rattle.std.specs.Prelude.{List, [], ◌∷◌, Option, Some, map}
use Rattle.std.specs.FinSet as set
use Rattle.toml.specs.Data.{Data, table, Members}
use Rattle.vet_base.specs.Names.{NameSet}
use Rattle.vet_base.specs.Words.{Key}
use Rattle.vet_base.specs.declared.criterion.Criterion.{Criterion}
use Rattle.vet_entries.specs.declared.entry.Entry.{Entry}
use Rattle.vet_files.specs.KeyNames.{AUDITS, CRITERIA, DESCRIPTION, DESCRIPTION_URL, IMPLIES, TRUSTED, WILDCARD_AUDITS}
use Rattle.vet_files.specs.declared.audits_file.AuditsContent.{AuditsContent}
use Rattle.vet_files.specs.declared.write.sections.Listing.TheVariants.{Audits, Trusted, WildcardAudits}
use Rattle.vet_files.specs.EntryTables.{listed_entries, package_lists, some_text}
use Rattle.vet_files.specs.Tables.{by_name, fields, some_set, unless_empty}

-- a criterion's table
abbrev pub criterion_fields : Criterion → List (Key × Option Data)
criterion_fields c = (DESCRIPTION, some_text c.description) ∷ (DESCRIPTION_URL, some_text c.url) ∷
    (IMPLIES, some_set c.implies) ∷ []

abbrev pub criterion_table : Criterion → Members
criterion_table c = fields (criterion_fields c)

-- the criteria, by name
abbrev pub criteria_table : List Criterion → Members
criteria_table criteria = by_name (map (λ c. (c.name, table (criterion_table c))) criteria)

-- criteria and entries, less the entries of excluded packages. The table `audits` is there even if it is empty.
abbrev pub audits_file_fields : NameSet → List Criterion → List Entry → List (Key × Option Data)
audits_file_fields exclude criteria entries =
    (AUDITS, Some (table (package_lists (listed_entries Audits exclude entries))))
    ∷ (CRITERIA, unless_empty (criteria_table criteria))
    ∷ (TRUSTED, unless_empty (package_lists (listed_entries Trusted exclude entries)))
    ∷ (WILDCARD_AUDITS, unless_empty (package_lists (listed_entries WildcardAudits exclude entries))) ∷ []

abbrev pub audits_file_table : NameSet → List Criterion → List Entry → Members
audits_file_table exclude criteria entries = fields (audits_file_fields exclude criteria entries)

-- the table of an audits file
abbrev pub audits_table : AuditsContent → Members
audits_table content = audits_file_table set.empty content.criteria content.entries
