-- A path or a key as a refusal prints it (ours).
use Rattle.std.specs.Prelude.{Bool, codes, if◌then◌else◌}
use Rattle.std.specs.Char.{is_ascii_graphic}
use Rattle.vet_base.specs.declared.limits.TheConstants.{MOST_KEY_BYTES}
use Rattle.vet_base.specs.Name.{is_short}
use Rattle.vet_base.specs.Words.{Text}

-- 1 to 200 ASCII characters from `!` to `~`
abbrev pub is_visible : Text → Bool
is_visible = is_short MOST_KEY_BYTES is_ascii_graphic

-- the path or the key, or `?` if it cannot be printed
abbrev pub told_key : Text → Text
told_key text = if is_visible text then text else codes "?"
