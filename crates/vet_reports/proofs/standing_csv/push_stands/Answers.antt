use Rattle.std.proofs.Common.{ℕ, List, ◌++◌, ◌∙◌, ap, append-nil, sym}
use Rattle.std.proofs.lemmas.List.Concat.{flat_map-append}
use Rattle.std.specs.Prelude.{string_bytes}
use Rattle.std.specs.List.{flat_map}
use Rattle.vet_reports.specs.StandingCsv.{stand_record}
use Rattle.vet_reports.proofs.StandingLemmas.{next_written}
use Rattle.vet_reports.proofs.standing_csv.push_stands.Goals as goal

pub stands-preserved : goal.stands-preserved
stands-preserved c = next_written (flat_map stand_record) (flat_map-append stand_record) c.args.stands.now
    c.stands.stand-index c.stand-item.result (string_bytes c.args.text.now) (string_bytes c.stands.text)
    (string_bytes c.push_stand.new.text) c.stands-test.true c.stand-item.is c.stands.invariant
    (c.in_ok-push_stand.ensures ∙ ap (λ (t : List ℕ). string_bytes c.stands.text ++ t)
    (sym (append-nil (stand_record c.stand-item.result.now))))
