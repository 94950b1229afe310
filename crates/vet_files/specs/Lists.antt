-- Tables by name, such as `[imports.mozilla]`, and lists of tables by package, such as `[[audits.serde]]` (The Cargo
-- Vet Book, audits, config and imports files).
use Rattle.std.specs.Prelude.{ℕ, ◌-◌, List, [], ◌++◌, codes, Option, Some, None, Ok, Err, IfOk, if◌then◌else◌, length}
use Rattle.std.specs.Fmt.{decimal}
use Rattle.std.specs.Option.{option_to_list}
use Rattle.toml.specs.Data.{Data, Members, no_members, as_array, as_table, get_member}
use Rattle.toml.specs.View.{table_view}
use Rattle.vet_base.specs.Gives.{Told, found_or, ◌>>=◌}
use Rattle.vet_base.specs.Name.{is_name, is_package_name}
use Rattle.vet_base.specs.Words.{Key, Name, Path}
use Rattle.vet_files.specs.declared.found.Found.{Found}
use Rattle.vet_files.specs.declared.read.package_tables.PackageTable.{PackageTable}
use Rattle.vet_files.specs.Field.{fault}
use Rattle.vet_files.specs.Notices.{no_notices, one_skipped, only_doubles, only_keys, sum_of_notices}
use Rattle.vet_files.specs.KeyNames.{TOP}
use Rattle.vet_files.specs.Walk.{KeysRise, each_item, each_member}

-- the result if nothing was found
abbrev pub nothing : {A : Type 0} → Found (List A)
nothing = record { content = []; notices = no_notices }

-- a result, followed by another
abbrev pub found_with : {A : Type 0} → Found (List A) → Found (List A) → Found (List A)
found_with found more = record
    { content = found.content ++ more.content; notices = sum_of_notices found.notices more.notices }

-- one value with this many unknown keys, and the result for one that is skipped
abbrev pub found_one : {A : Type 0} → A → ℕ → Found (Option A)
found_one x keys = record { content = Some x; notices = only_keys keys }

abbrev pub skipped : {A : Type 0} → Found (Option A)
skipped = record { content = None; notices = one_skipped }

abbrev pub listed : {A : Type 0} → Found (Option A) → Found (List A)
listed found = record { content = option_to_list found.content; notices = found.notices }

-- each once; those that equal an earlier one are counted
abbrev pub each_once : {A : Type 0} → (List A → List A) → Found (List A) → Found (List A)
each_once distinct found = record {
  content = distinct found.content;
  notices = sum_of_notices found.notices (only_doubles (length found.content - length (distinct found.content)));
}

-- the table at a key; a missing one is empty
abbrev pub table_of : Path → Key → Option Data → Told Members
table_of path key None = Ok no_members
table_of path key (Some d) = found_or (fault path key) (as_table d)

abbrev pub table_at : Path → Key → Members → Told Members
table_at path key ms = table_of path key (get_member key ms)

-- the keys of the table at a key increase
abbrev pub RisesAt : Path → Key → Members → Type 0
RisesAt path key ms = IfOk (table_at path key ms) KeysRise

-- the path of the value at a key of a table: `criteria.ours`
abbrev pub path_below : Path → Key → Path
path_below path key = path ++ (codes "." ++ key)

-- the path of a table in a list: `audits.serde[0]`
abbrev pub path_in_list : Path → Name → ℕ → Path
path_in_list path name place = path ++ (codes "." ++ (name ++ (codes "[" ++ (decimal place ++ codes "]"))))

-- the reading of a table, given the name of a package or its own, and its path
abbrev pub Reading : Type 0 → Type 0
Reading A = Name → Path → Members → Told (Found (Option A))

-- the table at a name
abbrev pub named_table : {A : Type 0} → Reading A → Path → Name → Data → Told (Found (Option A))
named_table read path name d = found_or (fault path name) (as_table d) >>= read name (path_below path name)

-- one more of the tables by name
abbrev pub next_named : {A : Type 0} → Reading A → Path → Found (List A) → Name → Data → Told (Found (List A))
next_named read path found name d =
    if is_name name then named_table read path name d >>= (λ more. Ok (found_with found (listed more)))
    else Err (fault path name)

-- the tables by name at a key of a file
abbrev pub named_tables : {A : Type 0} → Reading A → Key → Members → Told (Found (List A))
named_tables read key ms = table_at TOP key ms >>= each_member (next_named read key) nothing

-- the result of reading one table of a package's list
abbrev pub table_told : {A : Type 0} → Reading A → PackageTable → Told (Found (Option A))
table_told read at = read at.«package».now at.path.now (table_view at.table.now)

-- one more table of a package's list
abbrev pub next_table : {A : Type 0} → Reading A → Path → Name → Found (List A) → ℕ → Data → Told (Found (List A))
next_table read path name found place d =
    found_or (fault path name) (as_table d) >>= read name (path_in_list path name place) >>= λ more.
    Ok (found_with found (listed more))

-- the tables of a package: a list of them at the package's name
abbrev pub tables_of_package : {A : Type 0} → Reading A → Path → Name → Data → Told (Found (List A))
tables_of_package read path name d =
    if is_package_name name
    then found_or (fault path name) (as_array d) >>= each_item (next_table read path name) nothing 0
    else Err (fault path name)
