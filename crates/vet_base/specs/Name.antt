-- The texts that are names (ours).
use Rattle.std.specs.Prelude.{ℕ, ◌==◌, ◌&&◌, ◌||◌, nat_le, Bool, length, Option, Some, None, if◌then◌else◌}
use Rattle.std.specs.List.{list_all}
use Rattle.std.specs.Char.{is_ascii_alphanumeric, is_ascii_graphic}
use Rattle.vet_base.specs.declared.limits.TheConstants.{MOST_NAME_BYTES}
use Rattle.vet_base.specs.Words.{Name, Text}

-- a text has from 1 byte to so many, each with this property
abbrev pub is_short : ℕ → (ℕ → Bool) → Text → Bool
is_short most p text = nat_le 1 (length text) && nat_le (length text) most && list_all p text

-- the bytes of a package's name are ASCII letters, digits, `-` and `_`
abbrev pub is_package_byte : ℕ → Bool
is_package_byte b = is_ascii_alphanumeric b || (b == 45) || (b == 95)

abbrev pub is_package_name : Text → Bool
is_package_name = is_short MOST_NAME_BYTES is_package_byte

-- the name that a text is read as, if it is one
abbrev pub read_package_name : Text → Option Name
read_package_name text = if is_package_name text then Some text else None

-- the bytes of other names are the ASCII characters from `!` to `~`
abbrev pub is_name : Text → Bool
is_name = is_short MOST_NAME_BYTES is_ascii_graphic

abbrev pub read_name : Text → Option Name
read_name text = if is_name text then Some text else None
