-- The records of the pairs so far.
use Rattle.std.proofs.Common.{◌≡◌, ◌++◌, map, take}
use Rattle.std.specs.List.{flat_map}
use Rattle.std.specs.Prelude.{string_bytes}
use Rattle.vet_reports.specs.StandingCsv.{stand_record}
use Rattle.vet_reports.proofs.standing_csv.push_stands.Given as goal

abbrev pub invariant-stands : goal.invariant-stands
invariant-stands l =
    string_bytes l.text
    ≡ string_bytes l.fn.text ++ flat_map stand_record (map (λ s. s.now) (take l.stand-index l.stands))
