-- The report of counts (ours): for each class, how many pairs were in it when the period began, how many recorded moves
-- arrived and departed, and how many pairs are in it now; last, the sums.
use Rattle.std.specs.Prelude.{ℕ, List, [], ◌∷◌, ◌++◌, codes}
use Rattle.std.specs.Fmt.{decimal}
use Rattle.vet_base.specs.Words.{Text}
use Rattle.vet_graph.specs.Class.{class_word}
use Rattle.vet_graph.specs.Standing.{count_in, counts_of, total_of}
use Rattle.vet_graph.specs.declared.class.Class.{Class}
use Rattle.vet_graph.specs.declared.class.Class.TheVariants.{Conflicting, Full, Partial, Exempted, Unvetted}
use Rattle.vet_graph.specs.declared.standing.Counts.{Counts}
use Rattle.vet_register.specs.Flow.{arrivals, departures}
use Rattle.vet_register.specs.State.{State, changes_of, standing}
use Rattle.vet_reports.specs.Columns.{close_line, left_in, right_in}
use Rattle.vet_reports.specs.declared.counts_text.CountsTable.{CountsTable}

-- the counts of a state
abbrev pub counts_table : State → CountsTable
counts_table s = record {
  first = s.first;
  arrived = arrivals (changes_of s.moves);
  departed = departures (changes_of s.moves);
  present = counts_of (standing s);
}

-- a line: a name, and four texts below first, arrived, departed and now
unfoldable pub row : Text → Text → Text → Text → Text → Text
row name first arrived departed now = close_line
    (left_in 12 name ∷ right_in 10 first ∷ right_in 10 arrived ∷ right_in 10 departed ∷ right_in 10 now ∷ [])

abbrev pub header_row : Text
header_row = row (codes "class") (codes "first") (codes "arrived") (codes "departed") (codes "now")

-- the line of one count of each kind, for a class or for all
abbrev pub count_row : Text → (Counts → ℕ) → CountsTable → Text
count_row name count table = row name (decimal (count table.first)) (decimal (count table.arrived))
    (decimal (count table.departed)) (decimal (count table.present))

abbrev pub class_row : Class → CountsTable → Text
class_row class table = count_row (class_word class) (count_in class) table

abbrev pub sums_row : CountsTable → Text
sums_row table = count_row (codes "demand") total_of table

-- the header, the classes in their order, and the sums
abbrev pub table_text : CountsTable → Text
table_text table =
    header_row ++ (class_row Conflicting table ++ (class_row Full table ++ (class_row Partial table
    ++ (class_row Exempted table ++ (class_row Unvetted table ++ sums_row table)))))

-- the report
abbrev pub counts_text : State → Text
counts_text s = table_text (counts_table s)
