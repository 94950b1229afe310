use Rattle.std.proofs.Common.{ap, sym, ◌∙◌}
use Rattle.vet_base.specs.Criteria.{placed}
use Rattle.vet_base.proofs.Tables.{placed-empty}
use Rattle.vet_entries.proofs.PeerWords.{beyond_held, beyond_missing}
use Rattle.vet_entries.proofs.local_criteria.word_beyond.Goals as goal

pub returns-then-has : goal.returns-then-has
returns-then-has c =
    let table = c.args.criteria.now in
    c.empty.ensures
    ∙ sym (ap (placed table)
    (beyond_held c.args.definitions.now c.args.map.now c.args.name.now (sym c.has.ensures ∙ c.if-has.true))
    ∙ placed-empty table)

pub returns : goal.returns
returns c =
    c.word.ensures
    ∙ ap (placed c.args.criteria.now)
    (sym (beyond_missing c.args.definitions.now c.args.map.now c.args.name.now
    (sym c.has.ensures ∙ c.if-has.false)))
