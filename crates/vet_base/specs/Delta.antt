-- The texts that are deltas from one version to another (The Cargo Vet Book: audit entries), and the text printed.
--
-- A text is split at its only > (ends_of, read_delta). A delta is printed as FROM -> TO (delta_text), and that text is
-- read back as the delta. A delta is equal only to itself (delta_eq).
use Rattle.std.specs.Prelude.{ℕ, ◌==◌, ◌-◌, ◌&&◌, Bool, ◌++◌, length, slice_index, codes, Option, Some, None}
use Rattle.std.specs.Prelude.{if◌then◌else◌, option_map, take, drop}
use Rattle.std.specs.List.{prefix_len, suffix_len, position_or_len, before_first, after_first}
use Rattle.std.specs.Option.{option_and_then}
use Rattle.vet_base.specs.Version.{VersionValue, read_version, version_text}
use Rattle.vet_base.specs.VersionOrder.{version_eq}
use Rattle.vet_base.specs.declared.delta.Delta.{Delta}
use Rattle.vet_base.specs.Words.{Text}

-- a byte is a space
abbrev pub is_space : ℕ → Bool
is_space b = b == 32

-- a byte is `>`
abbrev pub is_head : ℕ → Bool
is_head b = b == 62

-- a text without the spaces at its start, and without those at its end
abbrev pub without_leading : Text → Text
without_leading text = drop (prefix_len is_space text) text

abbrev pub without_ending : Text → Text
without_ending text = take (length text - suffix_len is_space text) text

-- a text without the spaces around it
abbrev pub without_spaces : Text → Text
without_spaces text = without_ending (without_leading text)

-- the text before the `-` at its end, if it ends in one
abbrev pub before_dash : Text → Option Text
before_dash text = if slice_index text (length text - 1) == 45 then Some (take (length text - 1) text) else None

-- the texts on both sides of the arrow, which is the only `>`, directly after a `-`
abbrev pub ends_of : Text → Option (Text × Text)
ends_of text =
    let after = after_first is_head text in
    if position_or_len is_head text == length text then None
    else if position_or_len is_head after == length after
    then option_map (λ before. (without_spaces before, without_spaces after)) (before_dash (before_first is_head text))
    else None

-- the delta between two versions, if both are present
abbrev pub delta_between : Option VersionValue → Option VersionValue → Option Delta
delta_between (Some a) (Some b) = Some (record { from = a; to = b })
delta_between (Some a) None = None
delta_between None b = None

-- the delta that a text is read as, if it is one
abbrev pub read_delta : Text → Option Delta
read_delta text = option_and_then (λ ends. delta_between (read_version ends.0) (read_version ends.1)) (ends_of text)

-- the text of a delta
abbrev pub delta_text : Delta → Text
delta_text d = version_text d.from ++ (codes " -> " ++ version_text d.to)

-- both versions are the same
abbrev pub delta_eq : Delta → Delta → Bool
delta_eq a b = version_eq a.from b.from && version_eq a.to b.to
