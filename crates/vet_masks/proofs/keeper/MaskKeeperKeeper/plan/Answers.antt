use Rattle.vet_masks.proofs.Planning.{holds-still, planned-still, spends}
use Rattle.vet_masks.proofs.keeper.MaskKeeperKeeper.plan.Goals as goal

pub returns-in_err-reserve-clause-keeps : goal.returns-in_err-reserve-clause-keeps
returns-in_err-reserve-clause-keeps c facts demand h =
    holds-still c.args.self.now c.reserve.new.self facts demand c.reserve.ensures.same h

pub returns-in_err-reserve-clause-stays_planned : goal.returns-in_err-reserve-clause-stays_planned
returns-in_err-reserve-clause-stays_planned c u facts demand p =
    planned-still c.args.self.now c.reserve.new.self u facts demand c.reserve.ensures.same p

pub planned-requires-clause-kept : goal.planned-requires-clause-kept
planned-requires-clause-kept c = (
  c.requires.outside.0,
  (holds-still c.args.self.now c.reserve.new.self c.requires.outside.0 c.requires.outside.1 c.reserve.ensures.same
      c.requires.outside.2).kept,
)

pub returns-clause-keeps : goal.returns-clause-keeps
returns-clause-keeps c facts demand h =
    holds-still c.args.self.now c.reserve.new.self facts demand c.reserve.ensures.same h

pub returns-clause-stays_planned : goal.returns-clause-stays_planned
returns-clause-stays_planned c u facts demand p =
    planned-still c.args.self.now c.reserve.new.self u facts demand c.reserve.ensures.same p

pub returns-clause-spent : goal.returns-clause-spent
returns-clause-spent c = spends c.args.self.now c.reserve.new.self c.args.facts.now.content c.args.touched.now
    c.in_ok-names.names c.as_slice.result.now c.planned.result c.reserve.ensures.same c.in_ok-names.ensures.touched
    c.as_slice.ensures.rising c.as_slice.ensures.members c.as_slice.ensures.set c.planned.ensures.each
    c.planned.ensures.names
