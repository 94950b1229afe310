-- The lines so far.
use Rattle.std.proofs.Common.{◌≡◌, ◌++◌, take}
use Rattle.std.specs.List.{flat_map}
use Rattle.std.specs.Prelude.{string_bytes}
use Rattle.vet_reports.specs.LapsesText.{lapse_line}
use Rattle.vet_reports.proofs.lapses_text.push_lapses.Given as goal

abbrev pub invariant-entries : goal.invariant-entries
invariant-entries l =
    string_bytes l.text
    ≡ string_bytes l.fn.text
    ++ flat_map (lapse_line l.facts.content.today) (take l.held-index l.facts.content.entries)
