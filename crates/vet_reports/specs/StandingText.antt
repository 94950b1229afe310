-- The report of the standing (ours): a line for each demanded pair, with its class, or for those that are asked for.
use Rattle.std.specs.Prelude.{◌&&◌, Bool, true, List, [], ◌∷◌, ◌++◌, Option, Some, None, filter}
use Rattle.std.specs.List.{flat_map}
use Rattle.std.specs.Str.{bytes_eq}
use Rattle.vet_base.specs.Words.{Name, Text}
use Rattle.vet_graph.specs.Class.{class_word}
use Rattle.vet_graph.specs.Standing.{same_class}
use Rattle.vet_graph.specs.declared.class.Class.{Class}
use Rattle.vet_graph.specs.declared.standing.Stand.{Stand}
use Rattle.vet_register.specs.State.{State, standing}
use Rattle.vet_reports.specs.Columns.{line, pair_columns}
use Rattle.vet_reports.specs.declared.standing_text.Filter.{Filter}

-- the package is the one asked for, if one is
abbrev pub is_package_asked : Option Name → Name → Bool
is_package_asked None name = true
is_package_asked (Some asked) name = bytes_eq asked name

-- the class is the one asked for, if one is
abbrev pub is_class_asked : Option Class → Class → Bool
is_class_asked None class = true
is_class_asked (Some asked) class = same_class asked class

-- a pair is shown if its package and its class are those asked for
abbrev pub is_shown : Filter → Stand → Bool
is_shown asked s = is_package_asked asked.«package» s.pair.«package» && is_class_asked asked.class s.class

-- the line of a pair
unfoldable pub stand_line : Stand → Text
stand_line s = line (pair_columns s.pair ++ class_word s.class ∷ [])

-- the lines of the pairs that are shown
abbrev pub stands_text : Filter → List Stand → Text
stands_text asked stands = flat_map stand_line (filter (is_shown asked) stands)

-- the report, by package, version and criterion, as the standing is
abbrev pub standing_text : Filter → State → Text
standing_text asked s = stands_text asked (standing s)
