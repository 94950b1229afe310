-- The reports of a register: their words, layouts and texts (ours).
use Rattle.std.specs.Prelude.{Option, Some, None, codes, if◌then◌else◌}
use Rattle.std.specs.Str.{bytes_eq}
use Rattle.vet_base.specs.Words.{Text}
use Rattle.vet_register.specs.State.{State}
use Rattle.vet_reports.specs.CountsText.{counts_text}
use Rattle.vet_reports.specs.DeskText.{desk_text}
use Rattle.vet_reports.specs.LapsesText.{lapses_text}
use Rattle.vet_reports.specs.MovesText.{moves_text}
use Rattle.vet_reports.specs.StandingCsv.{standing_csv}
use Rattle.vet_reports.specs.StandingText.{standing_text}
use Rattle.vet_reports.specs.declared.report.Layout.{Layout}
use Rattle.vet_reports.specs.declared.report.Layout.TheVariants.{Csv, Lines}
use Rattle.vet_reports.specs.declared.report.Report.{Report}
use Rattle.vet_reports.specs.declared.report.Report.TheVariants.{Counts, Desk, Lapses, Moves, Standing}
use Rattle.vet_reports.specs.declared.report.Report.TheVariants.{StandingCsv}

-- the report that a word names
abbrev pub report_named : Text → Option Report
report_named word =
    if bytes_eq word (codes "counts") then Some Counts
    else (if bytes_eq word (codes "standing") then Some Standing
    else (if bytes_eq word (codes "standing-csv") then Some StandingCsv
    else (if bytes_eq word (codes "moves") then Some Moves
    else (if bytes_eq word (codes "desk") then Some Desk
    else (if bytes_eq word (codes "lapses") then Some Lapses else None)))))

-- the layout of its text
abbrev pub layout_of : Report → Layout
layout_of StandingCsv = Csv
layout_of _ = Lines

-- its text
abbrev pub report_text : Report → State → Text
report_text Counts s = counts_text s
report_text Standing s = standing_text (record { «package» = None; class = None }) s
report_text StandingCsv s = standing_csv s
report_text Moves s = moves_text s
report_text Desk s = desk_text s
report_text Lapses s = lapses_text s
