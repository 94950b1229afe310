-- Columns of reports, and lines of them (ours). A width counts characters, and cuts nothing.
use Rattle.std.specs.Prelude.{ℕ, ◌-◌, List, [], ◌∷◌, ◌++◌, codes, replicate}
use Rattle.std.specs.Fmt.{char_count}
use Rattle.std.specs.List.{flat_map}
use Rattle.vet_base.specs.Version.{VersionValue, version_text}
use Rattle.vet_base.specs.Words.{Name, Text}
use Rattle.vet_demand.specs.declared.pair.Pair.{Pair}

-- the spaces that fill a text up to a width in characters; none if it is that long
abbrev pub spaces_beside : ℕ → Text → Text
spaces_beside width text = replicate (width - char_count text) 32

-- a text aligned left in a width, and aligned right in it
unfoldable pub left_in : ℕ → Text → Text
left_in width text = text ++ spaces_beside width text

unfoldable pub right_in : ℕ → Text → Text
right_in width text = spaces_beside width text ++ text

-- a line: columns, with a gap between each two, and a line feed
abbrev pub line_with : Text → List Text → Text
line_with gap [] = codes "\n"
line_with gap (column ∷ []) = column ++ codes "\n"
line_with gap (column ∷ next ∷ rest) = column ++ (gap ++ line_with gap (next ∷ rest))

-- a line with one space between its columns, and one with nothing between them
abbrev pub line : List Text → Text
line columns = line_with (codes " ") columns

abbrev pub close_line : List Text → Text
close_line columns = line_with [] columns

-- the beginning of a line that has these columns, if others follow
abbrev pub begun : List Text → Text
begun [] = []
begun (column ∷ rest) = column ++ (codes " " ++ begun rest)

-- the columns of a version of a package, and of a pair
abbrev pub version_columns : Name → VersionValue → List Text
version_columns name version = left_in 24 name ∷ left_in 20 (version_text version) ∷ []

abbrev pub pair_columns : Pair → List Text
pair_columns p = version_columns p.«package» p.version ++ left_in 20 p.criterion ∷ []

-- names, each after a comma
abbrev pub others_text : List Name → Text
others_text names = flat_map (λ name. codes "," ++ name) names

unfoldable pub comma_list : List Name → Text
comma_list [] = []
comma_list (first ∷ rest) = first ++ others_text rest
