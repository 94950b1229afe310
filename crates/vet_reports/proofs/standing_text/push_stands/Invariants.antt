-- The lines of the pairs so far.
use Rattle.std.proofs.Common.{◌≡◌, ◌++◌, map, take}
use Rattle.std.specs.Prelude.{string_bytes}
use Rattle.vet_reports.specs.StandingText.{stands_text}
use Rattle.vet_reports.proofs.standing_text.push_stands.Given as goal

abbrev pub invariant-stands : goal.invariant-stands
invariant-stands l =
    string_bytes l.text
    ≡ string_bytes l.fn.text ++ stands_text l.filter (map (λ s. s.now) (take l.stand-index l.stands))
