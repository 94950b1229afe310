-- The values at the keys of a command document (ours). They are read as in a file, except that a text which is not a
-- name, version, requirement, day or delta has a refusal of its own.
use Rattle.std.specs.Prelude.{ℕ, Bool, List, ◌∷◌, ℤ, pos, negsuc, Option, Some, None, Ok, Err, if◌then◌else◌}
use Rattle.std.specs.Prelude.{nat_lt, option_and_then}
use Rattle.std.specs.FinSet as set
use Rattle.std.specs.List.{list_any}
use Rattle.std.specs.Str.{bytes_eq}
use Rattle.toml.specs.Data.{Data, string, Members, no_members, member, as_array, as_integer, as_str}
use Rattle.vet_base.specs.Day.{DayValue, read_day}
use Rattle.vet_base.specs.Delta.{read_delta}
use Rattle.vet_base.specs.Gives.{Told, found_or, ◌>>=◌}
use Rattle.vet_base.specs.Name.{read_name, read_package_name}
use Rattle.vet_base.specs.Names.{NameSet}
use Rattle.vet_base.specs.Req.{read_req}
use Rattle.vet_base.specs.Version.{VersionValue, read_version}
use Rattle.vet_base.specs.Words.{Key, Name, Path, Text}
use Rattle.vet_base.specs.declared.delta.Delta.{Delta}
use Rattle.vet_base.specs.declared.refusal.Refusal.{Refusal}
use Rattle.vet_base.specs.declared.refusal.Refusal.TheVariants.{BadDay, BadDelta, BadName, BadRequirement, BadVersion}
use Rattle.vet_demand.specs.PolicyKey.{key_told}
use Rattle.vet_demand.specs.declared.policy_key.PolicyKey.{PolicyKey}
use Rattle.vet_files.specs.Field.{day_of, fault, items_told, one_or_list_told}
use Rattle.vet_documents.specs.DocumentKeys.{COMMAND}

-- ---- the reader of each type

-- a text, however long it is
abbrev pub any_text : Path → Key → Data → Told Text
any_text path key d = found_or (fault path key) (as_str d)

-- a value that a text states, or the refusal of a malformed text
abbrev pub a_word : {A : Type 0} → (Text → Option A) → Refusal → Path → Key → Data → Told A
a_word read refusal path key d = any_text path key d >>= λ text. found_or refusal (read text)

-- the name of a criterion, a peer or a member
abbrev pub a_name : Path → Key → Data → Told Name
a_name = a_word read_name BadName

-- the name of a package or a project
abbrev pub a_package : Path → Key → Data → Told Name
a_package = a_word read_package_name BadName

abbrev pub a_version : Path → Key → Data → Told VersionValue
a_version = a_word read_version BadVersion

abbrev pub a_requirement : Path → Key → Data → Told Text
a_requirement = a_word read_req BadRequirement

abbrev pub a_delta : Path → Key → Data → Told Delta
a_delta = a_word read_delta BadDelta

-- the key of a policy: a package's name, perhaps with a version after it
abbrev pub a_policy_key : Path → Key → Data → Told PolicyKey
a_policy_key path key d = any_text path key d >>= key_told

-- a day: a text, or a local date
abbrev pub a_day : Path → Key → Data → Told DayValue
a_day path key (string text) = found_or BadDay (read_day text)
a_day path key d = found_or (fault path key) (day_of d)

-- the number of an entry or a review: a whole number from 1
abbrev pub number_of : ℤ → Option ℕ
number_of (pos n) = if nat_lt 0 n then Some n else None
number_of (negsuc n) = None

abbrev pub a_number : Path → Key → Data → Told ℕ
a_number path key d = found_or (fault path key) (option_and_then number_of (as_integer d))

-- names: one, or a list of them, which gives its first item at fault
abbrev pub names : Path → Key → Data → Told NameSet
names path key d = one_or_list_told a_name path key d >>= λ found. Ok (set.from_list found)

-- names of packages, which are always a list
abbrev pub package_names : Path → Key → Data → Told NameSet
package_names path key d =
    found_or (fault path key) (as_array d) >>= items_told (a_package path key) >>= λ found. Ok (set.from_list found)

-- ---- no other keys

abbrev pub is_among : List Key → Key → Bool
is_among known key = list_any (λ k. bytes_eq k key) known

-- the first key that is not among the known ones is a fault of the table; keys are in the order of their bytes
abbrev pub no_others : Path → List Key → Members → Told (Unit {0})
no_others path known no_members = Ok tt
no_others path known (member key d rest) =
    if is_among known key then no_others path known rest else Err (fault path key)

-- a document has only these keys, and that of its command
abbrev pub only : List Key → Members → Told (Unit {0})
only known = no_others COMMAND (COMMAND ∷ known)
