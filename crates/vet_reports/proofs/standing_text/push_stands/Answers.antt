use Rattle.std.specs.Prelude.{string_bytes}
use Rattle.vet_reports.specs.StandingText.{stands_text}
use Rattle.vet_reports.proofs.StandingLemmas.{next_written, stands_text-append}
use Rattle.vet_reports.proofs.standing_text.push_stands.Goals as goal

pub stands-preserved : goal.stands-preserved
stands-preserved c = next_written (stands_text c.args.filter.now) (stands_text-append c.args.filter.now)
    c.args.stands.now c.stands.stand-index c.stand-item.result (string_bytes c.args.text.now)
    (string_bytes c.stands.text) (string_bytes c.push_if_shown.new.text) c.stands-test.true c.stand-item.is
    c.stands.invariant c.in_ok-push_if_shown.ensures
