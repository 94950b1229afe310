-- The document of the command that sets publisher records (The Cargo Vet Book, imports.lock; the rest is ours).
use Rattle.std.specs.Prelude.{ℕ, List, [], ◌∷◌, ◌++◌, codes, Ok}
use Rattle.std.specs.Fmt.{decimal}
use Rattle.toml.specs.Data.{Data, Members, as_array, as_table}
use Rattle.vet_base.specs.Gives.{Told, found_or, ◌>>=◌}
use Rattle.vet_base.specs.Words.{Key, Path}
use Rattle.vet_entries.specs.declared.publisher.Publisher.{Publisher}
use Rattle.vet_files.specs.Field.{a_text, a_user, fault, optional, required}
use Rattle.vet_files.specs.KeyNames.{USER_ID, USER_LOGIN, USER_NAME, VERSION, WHEN}
use Rattle.vet_files.specs.Publishers.{in_order}
use Rattle.vet_files.specs.Walk.{each_item}
use Rattle.vet_documents.specs.DocumentField.{a_day, a_package, a_version, no_others, only}
use Rattle.vet_documents.specs.DocumentKeys.{COMMAND, PACKAGE, RECORDS}
use Rattle.vet_register.specs.declared.command.Action.{Action}
use Rattle.vet_register.specs.declared.command.Action.TheVariants.{SetPublishers}

-- the path of a record: `records[0]`
abbrev pub record_path : ℕ → Path
record_path place = codes "records[" ++ (decimal place ++ codes "]")

-- the record that a table states; an unknown key comes before the next table
abbrev pub record_told : Path → Members → Told Publisher
record_told path ms =
    required a_version path VERSION ms >>= λ version.
    required a_day path WHEN ms >>= λ day.
    required a_user path USER_ID ms >>= λ user.
    optional a_text path USER_LOGIN ms >>= λ login.
    optional a_text path USER_NAME ms >>= λ name.
    no_others path (VERSION ∷ WHEN ∷ USER_ID ∷ USER_LOGIN ∷ USER_NAME ∷ []) ms >>= λ _.
    Ok (record { version = version; user = user; day = day; login = login; name = name })

-- the record at a place of the list; a value that is not a table is a fault of the list
abbrev pub record_at : ℕ → Data → Told Publisher
record_at place d = found_or (fault COMMAND RECORDS) (as_table d) >>= record_told (record_path place)

-- the list with one more record
abbrev pub next_record : List Publisher → ℕ → Data → Told (List Publisher)
next_record found place d = record_at place d >>= λ more. Ok (found ++ more ∷ [])

abbrev pub records_told : Path → Key → Data → Told (List Publisher)
records_told path key d = found_or (fault path key) (as_array d) >>= each_item next_record [] 0

abbrev pub set_publishers_told : Members → Told Action
set_publishers_told ms =
    required a_package COMMAND PACKAGE ms >>= λ name.
    required records_told COMMAND RECORDS ms >>= λ records.
    only (PACKAGE ∷ RECORDS ∷ []) ms >>= λ _.
    Ok (SetPublishers name (in_order records))
