-- The texts that are versions (Semantic Versioning 2.0.0, 2, 9 and 10), and the text printed for each.
use Rattle.std.specs.Prelude.{ℕ, ◌≡◌, ◌==◌, ◌&&◌, nat_lt, Bool, [], ◌∷◌, ◌++◌, length, map, codes, Option, Some, None}
use Rattle.std.specs.Prelude.{if◌then◌else◌, option_map, drop, nat_eq}
use Rattle.std.specs.List.{list_all, starts_with, position_or_len, before_first, after_first}
use Rattle.std.specs.Result.{result_ok}
use Rattle.std.specs.Char.{is_ascii_hexdigit, to_ascii_lowercase}
use Rattle.std.specs.Prelude.{String, string_bytes}
use Rattle.std.specs.declared.alloc.Global.{Global}
use Rattle.vet_base.specs.declared.limits.TheConstants.{MOST_VERSION_BYTES, REVISION_DIGITS}
use Rattle.semver.specs.declared.Version.{Version}
use Rattle.semver.specs.Parse.{Parts, version_parts}
use Rattle.semver.specs.Identifiers.{parts_text, parts_of}
use Rattle.vet_base.specs.Words.{Text}

-- a version: the parts of V, and the revision if there is one
pub record VersionValue : Type 0 where
  pub parts : Parts
  pub revision : Option Text

-- a revision: 40 hexadecimal digits
abbrev pub is_revision : Text → Bool
is_revision text = (length text == REVISION_DIGITS) && list_all is_ascii_hexdigit text

-- a byte is `@`
abbrev pub is_at : ℕ → Bool
is_at b = b == 64

-- the mark of a revision
abbrev pub mark : Text
mark = codes "git:"

-- only V, without a revision
abbrev pub plain_version : Text → Option VersionValue
plain_version v = option_map (λ p. record { parts = p; revision = None }) (result_ok (version_parts v))

-- V with a revision, which is held in lower case
abbrev pub version_at : Text → Text → Option VersionValue
version_at v rev = option_map (λ p. record { parts = p; revision = Some (map to_ascii_lowercase rev) })
    (result_ok (version_parts v))

-- V and the text after the first `@`
abbrev pub revised_version : Text → Text → Option VersionValue
revised_version v rest =
    if starts_with nat_eq rest mark && is_revision (drop 4 rest) then version_at v (drop 4 rest) else None

-- the version that a text is read as, if it is one
abbrev pub read_version : Text → Option VersionValue
read_version text =
    if nat_lt MOST_VERSION_BYTES (length text) then None
    else if position_or_len is_at text == length text then plain_version text
    else revised_version (before_first is_at text) (after_first is_at text)

-- the text of a version
abbrev pub revision_text : Option Text → Text
revision_text None = []
revision_text (Some rev) = 64 ∷ (mark ++ rev)

abbrev pub version_text : VersionValue → Text
version_text v = parts_text v.parts ++ revision_text v.revision

-- the text of the value is read back as that value
abbrev pub IsVersion : VersionValue → Type 0
IsVersion v = read_version (version_text v) ≡ Some v

-- the value of a version that the code holds
abbrev pub value_of : Version × Option (String Global) → VersionValue
value_of p = record { parts = parts_of p.0; revision = option_map string_bytes p.1 }
