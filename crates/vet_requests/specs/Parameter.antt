-- The parameters of a target: the texts between its slashes, with their bytes as they came (ours).
use Rattle.std.specs.Prelude.{ℕ, Bool, ◌==◌}
use Rattle.std.specs.List.{after_first, before_first}
use Rattle.vet_base.specs.Gives.{Told, found_or}
use Rattle.vet_base.specs.Name.{read_name, read_package_name}
use Rattle.vet_base.specs.Version.{VersionValue, read_version}
use Rattle.vet_base.specs.Words.{Name, Text}
use Rattle.vet_base.specs.declared.refusal.Refusal.TheVariants.{BadName, BadVersion}

abbrev pub is_slash : ℕ → Bool
is_slash b = b == 47

-- the text before the first slash, or all of it if there is none
abbrev pub before_slash : Text → Text
before_slash text = before_first is_slash text

-- the text after the first slash, which is empty if there is none
abbrev pub after_slash : Text → Text
after_slash text = after_first is_slash text

-- the first parameter, after the second slash
abbrev pub first_parameter : Text → Text
first_parameter target = before_slash (after_slash (after_slash target))

-- the second parameter, after the third slash
abbrev pub second_parameter : Text → Text
second_parameter target = first_parameter (after_slash target)

-- the third parameter, after the fourth slash
abbrev pub third_parameter : Text → Text
third_parameter target = second_parameter (after_slash target)

-- ---- a parameter as a value, or its refusal

abbrev pub package_told : Text → Told Name
package_told text = found_or BadName (read_package_name text)

abbrev pub name_told : Text → Told Name
name_told text = found_or BadName (read_name text)

abbrev pub version_told : Text → Told VersionValue
version_told text = found_or BadVersion (read_version text)
