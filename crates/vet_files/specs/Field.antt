-- The value at a key of a table, by its type (The Cargo Vet Book, the three files; the faults are ours).
use Rattle.std.specs.Prelude.{ℕ, Bool, List, [], ◌∷◌, ◌++◌, ℤ, pos, negsuc, Option, Some, None, Ok, Err, if◌then◌else◌}
use Rattle.std.specs.Prelude.{length, nat_le, nat_lt, option_and_then}
use Rattle.std.specs.FinSet as set
use Rattle.toml.specs.Data.{Data, string, array, Items, no_items, item, Members, get_member, as_str, as_bool}
use Rattle.toml.specs.Data.{as_integer, as_datetime, as_array}
use Rattle.toml_datetime.specs.declared.datetime.Date.{Date}
use Rattle.toml_datetime.specs.declared.datetime.Datetime.{Datetime}
use Rattle.toml_datetime.specs.declared.datetime.Offset.{Offset}
use Rattle.toml_datetime.specs.declared.datetime.Time.{Time}
use Rattle.vet_base.specs.Day.{DayValue, checked_day, read_day}
use Rattle.vet_base.specs.Delta.{read_delta}
use Rattle.vet_base.specs.Gives.{Told, found_or, ◌>>=◌}
use Rattle.vet_base.specs.KeyText.{told_key}
use Rattle.vet_base.specs.Name.{read_name, read_package_name}
use Rattle.vet_base.specs.Names.{NameSet}
use Rattle.vet_base.specs.Req.{read_req}
use Rattle.vet_base.specs.Version.{VersionValue, read_version}
use Rattle.vet_base.specs.Words.{Key, Name, Path, Text}
use Rattle.vet_base.specs.declared.delta.Delta.{Delta}
use Rattle.vet_base.specs.declared.limits.TheConstants.{MOST_TEXT_BYTES}
use Rattle.vet_base.specs.declared.refusal.Limit.TheVariants as limit
use Rattle.vet_base.specs.declared.refusal.Refusal.{Refusal}
use Rattle.vet_base.specs.declared.refusal.Refusal.TheVariants.{FieldRefused, TooLarge}
use Rattle.vet_files.specs.Walk.{each_item}
use Rattle.vet_entries.specs.declared.user.TheConstants.{LAST_USER}

-- the refusal of a value at a key of a table that is at fault or missing
abbrev pub fault : Path → Key → Refusal
fault path key = FieldRefused (told_key path) (told_key key)

-- ---- a key that need not be there, and one that must

-- the result of reading a value, if there is one
abbrev pub told_if_some : {A : Type 0} → (Data → Told A) → Option Data → Told (Option A)
told_if_some read None = Ok None
told_if_some read (Some d) = read d >>= λ x. Ok (Some x)

abbrev pub optional : {A : Type 0} → (Path → Key → Data → Told A) → Path → Key → Members → Told (Option A)
optional read path key ms = told_if_some (read path key) (get_member key ms)

abbrev pub required : {A : Type 0} → (Path → Key → Data → Told A) → Path → Key → Members → Told A
required read path key ms = found_or (fault path key) (get_member key ms) >>= read path key

-- ---- one definition for each type

-- a truth value
abbrev pub a_flag : Path → Key → Data → Told Bool
a_flag path key d = found_or (fault path key) (as_bool d)

-- a free text, whose length is limited
abbrev pub short_text : Text → Told Text
short_text text = if nat_lt MOST_TEXT_BYTES (length text) then Err (TooLarge limit.Text) else Ok text

abbrev pub a_text : Path → Key → Data → Told Text
a_text path key d = found_or (fault path key) (as_str d) >>= short_text

-- a text that reads as a value
abbrev pub a_reading : {A : Type 0} → (Text → Option A) → Path → Key → Data → Told A
a_reading read path key d = found_or (fault path key) (option_and_then read (as_str d))

abbrev pub a_version : Path → Key → Data → Told VersionValue
a_version = a_reading read_version

abbrev pub a_delta : Path → Key → Data → Told Delta
a_delta = a_reading read_delta

abbrev pub a_requirement : Path → Key → Data → Told Text
a_requirement = a_reading read_req

-- a day: a text, or a local date
abbrev pub date_alone : Option Date → Option Time → Option Offset → Option Date
date_alone date None None = date
date_alone date _ _ = None

abbrev pub local_date : Datetime → Option Date
local_date t = date_alone t.date t.time t.offset

abbrev pub day_of_date : Date → Option DayValue
day_of_date d = checked_day (record { year = d.year; month = d.month; day = d.day })

abbrev pub day_of : Data → Option DayValue
day_of (string text) = read_day text
day_of d = option_and_then (λ t. option_and_then day_of_date (local_date t)) (as_datetime d)

abbrev pub a_day : Path → Key → Data → Told DayValue
a_day path key d = found_or (fault path key) (day_of d)

-- a user: a whole number from 0
abbrev pub user_of : ℤ → Option ℕ
user_of (pos n) = if nat_le n LAST_USER then Some n else None
user_of (negsuc n) = None

abbrev pub a_user : Path → Key → Data → Told ℕ
a_user path key d = found_or (fault path key) (option_and_then user_of (as_integer d))

-- the items of a value: a text is a list of one
abbrev pub items_of : Data → Option Items
items_of (string t) = Some (item (string t) no_items)
items_of (array ds) = Some ds
items_of _ = None

-- the values read from these items, in their order, or the fault of the first item at fault
abbrev pub next_item : {A : Type 0} → (Data → Told A) → List A → ℕ → Data → Told (List A)
next_item read found place d = read d >>= λ x. Ok (found ++ x ∷ [])

abbrev pub items_told : {A : Type 0} → (Data → Told A) → Items → Told (List A)
items_told read = each_item (next_item read) [] 0

-- the same for a value, which is a text or a list
abbrev pub one_or_list_told : {A : Type 0} → (Path → Key → Data → Told A) → Path → Key → Data → Told (List A)
one_or_list_told read path key d = found_or (fault path key) (items_of d) >>= items_told (read path key)

-- the set of the values read from these items
abbrev pub with_item : (Data → Told Name) → NameSet → ℕ → Data → Told NameSet
with_item read found place d = read d >>= λ text. Ok (set.insert found text)

abbrev pub set_of_items : (Data → Told Name) → Items → Told NameSet
set_of_items read = each_item (with_item read) set.empty 0

-- a name of a criterion
abbrev pub a_name : Path → Key → Data → Told Name
a_name = a_reading read_name

-- names: one, or a list of them
abbrev pub names : Path → Key → Data → Told NameSet
names path key d = found_or (fault path key) (items_of d) >>= set_of_items (a_name path key)

-- texts: one, or a list of them
abbrev pub texts : Path → Key → Data → Told NameSet
texts path key d = found_or (fault path key) (items_of d) >>= set_of_items (a_text path key)

-- names of packages, which are always a list
abbrev pub a_package : Path → Key → Data → Told Name
a_package = a_reading read_package_name

abbrev pub package_names : Path → Key → Data → Told NameSet
package_names path key d = found_or (fault path key) (as_array d) >>= set_of_items (a_package path key)
