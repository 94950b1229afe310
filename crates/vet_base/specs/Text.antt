-- The texts that are short enough to be held (ours).
use Rattle.std.specs.Prelude.{nat_le, length, Option, Some, None, if◌then◌else◌}
use Rattle.vet_base.specs.declared.limits.TheConstants.{MOST_TEXT_BYTES}
use Rattle.vet_base.specs.Words as words

-- the text itself, if it has at most 65,536 bytes
abbrev pub read_text : words.Text → Option words.Text
read_text text = if nat_le (length text) MOST_TEXT_BYTES then Some text else None
