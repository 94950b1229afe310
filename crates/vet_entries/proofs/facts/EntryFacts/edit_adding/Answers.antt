use Rattle.std.proofs.Common.{◌<◌, length, arith, sym, ap, subst, ◌∙◌}
use Rattle.std.specs.List.{All, insert}
use Rattle.vet_entries.specs.Numbered.{AreByNumber}
use Rattle.vet_entries.proofs.RisingNumbers.{one_behind}
use Rattle.vet_entries.proofs.facts.EntryFacts.edit_adding.Goals as goal

pub returns-clause-fits : goal.returns-clause-fits
returns-clause-fits c =
    let held = c.entries-place.result.now in
    let same = c.entries-place.ensures.value in
    let old = c.reserve.ensures.entries ∙ ap (λ f. f.content.entries) c.self.view_is in
    let below : All (λ h. h.number < c.args.number) c.reserve.new.self.entries = rw old c.requires in (
      omega (arith, ap length same),
      (
        c.in_ok-reserve.ensures.ok,
        subst (λ n. AreByNumber
            (insert c.reserve.new.self.entries n (record { number = c.args.number; entry = c.args.entry })))
            (sym (ap length same))
            (one_behind c.reserve.new.self.entries (record { number = c.args.number; entry = c.args.entry })
            c.entries-place.ensures.by_number below),
      ),
    )
