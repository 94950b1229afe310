-- The tables in which entries are written (The Cargo Vet Book, audits and config files).
use Rattle.std.specs.Prelude.{pos, ◌&&◌, not, Bool, true, false, List, [], ◌∷◌, Option, Some, None, filter, map}
use Rattle.std.specs.Prelude.{option_map}
use Rattle.std.specs.FinSet as set
use Rattle.std.specs.Str.{bytes_eq}
use Rattle.toml.specs.Data.{Data, string, integer, boolean, array, table, Items, Members}
use Rattle.toml.specs.View.{items_of}
use Rattle.vet_base.specs.Day.{day_text}
use Rattle.vet_base.specs.Delta.{delta_text}
use Rattle.vet_base.specs.Names.{NameSet}
use Rattle.vet_base.specs.Version.{version_text}
use Rattle.vet_base.specs.Words.{Key, Name, Text}
use Rattle.vet_entries.specs.declared.entry.Entry.{Entry}
use Rattle.vet_entries.specs.declared.kind.Audit.{Audit}
use Rattle.vet_entries.specs.declared.kind.Kind.{Kind}
use Rattle.vet_entries.specs.declared.kind.Kind.TheVariants.{Full, Delta, Violation, Wildcard, Trusted, Exemption}
use Rattle.vet_files.specs.KeyNames.{CRITERIA, DELTA, END, IMPORTABLE, NOTES, RENEW, START, SUGGEST, USER_ID, VERSION}
use Rattle.vet_files.specs.KeyNames.{VIOLATION, WHO}
use Rattle.vet_files.specs.declared.write.sections.Listing.{Listing}
use Rattle.vet_files.specs.declared.write.sections.Listing.TheVariants as listing
use Rattle.vet_files.specs.Tables.{by_name, fields, set_data, some_set, with_key}

-- ---- one entry

-- a text or a truth value, if there is one
abbrev pub some_text : Option Text → Option Data
some_text = option_map string

abbrev pub some_flag : Option Bool → Option Data
some_flag = option_map boolean

-- the keys of an entry's table, by its kind, with its criteria and notes
abbrev pub entry_fields : Data → Option Data → Kind → List (Key × Option Data)
entry_fields criteria notes (Full version audit) =
    (CRITERIA, Some criteria) ∷ (IMPORTABLE, some_flag audit.importable) ∷ (NOTES, notes)
    ∷ (VERSION, Some (string (version_text version))) ∷ (WHO, some_set audit.who) ∷ []
entry_fields criteria notes (Delta delta audit) =
    (CRITERIA, Some criteria) ∷ (DELTA, Some (string (delta_text delta))) ∷
    (IMPORTABLE, some_flag audit.importable)
    ∷ (NOTES, notes) ∷ (WHO, some_set audit.who) ∷ []
entry_fields criteria notes (Violation req audit) =
    (CRITERIA, Some criteria) ∷ (IMPORTABLE, some_flag audit.importable) ∷ (NOTES, notes)
    ∷ (VIOLATION, Some (string req)) ∷ (WHO, some_set audit.who) ∷ []
entry_fields criteria notes (Wildcard window grant) =
    (CRITERIA, Some criteria) ∷ (END, Some (string (day_text window.last))) ∷ (NOTES, notes)
    ∷ (RENEW, some_flag grant.renew) ∷ (START, Some (string (day_text window.first)))
    ∷ (USER_ID, Some (integer (pos window.user))) ∷ (WHO, some_set grant.who) ∷ []
entry_fields criteria notes (Trusted window) =
    (CRITERIA, Some criteria) ∷ (END, Some (string (day_text window.last))) ∷ (NOTES, notes)
    ∷ (START, Some (string (day_text window.first))) ∷ (USER_ID, Some (integer (pos window.user))) ∷ []
entry_fields criteria notes (Exemption version suggest last) =
    (CRITERIA, Some criteria) ∷ (NOTES, notes) ∷ (SUGGEST, some_flag suggest)
    ∷ (VERSION, Some (string (version_text version))) ∷ []

-- the values that the tables of all audits have, by key
abbrev pub audit_fields : Entry → Audit → List (Key × Option Data)
audit_fields e audit =
    (CRITERIA, Some (set_data e.criteria)) ∷ (IMPORTABLE, some_flag audit.importable) ∷ (NOTES, some_text e.notes)
    ∷ (WHO, some_set audit.who) ∷ []

-- the table of an audit, which has its subject at a key
abbrev pub audit_table : Entry → Audit → Key → Data → Members
audit_table e audit key subject = with_key (fields (audit_fields e audit)) key (Some subject)

abbrev pub entry_table : Entry → Members
entry_table e = fields (entry_fields (set_data e.criteria) (some_text e.notes) e.kind)

-- ---- lists of entries, by package

-- the kinds whose entries are in a table of lists; no table has exemptions with a last day, since no file has a key for
-- that day
abbrev pub is_listed : Listing → Kind → Bool
is_listed listing.Audits (Full v a) = true
is_listed listing.Audits (Delta d a) = true
is_listed listing.Audits (Violation r a) = true
is_listed listing.WildcardAudits (Wildcard w g) = true
is_listed listing.Trusted (Trusted w) = true
is_listed listing.Exemptions (Exemption v s None) = true
is_listed _ _ = false

-- the entries in such a table, less those of excluded packages, in order
abbrev pub listed_entries : Listing → NameSet → List Entry → List Entry
listed_entries which exclude entries = filter (λ e. is_listed which e.kind && not (set.contains exclude e.«package»))
    entries

-- the entries of a package, in order
abbrev pub of_package : Name → List Entry → List Entry
of_package name entries = filter (λ e. bytes_eq name e.«package») entries

-- their tables, in order
abbrev pub entry_items : List Entry → Items
entry_items entries = items_of (map (λ e. table (entry_table e)) entries)

-- the table with the list of each package's entries at its name
abbrev pub package_lists : List Entry → Members
package_lists entries = by_name (map (λ e. (e.«package», array (entry_items (of_package e.«package» entries)))) entries)
