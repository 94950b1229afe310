use Rattle.std.proofs.Common.{◌≡◌, true, sym, subst}
use Rattle.std.specs.List.{All}
use Rattle.vet_masks.specs.Packages.{has_kept_slot}
use Rattle.vet_masks.specs.Standings.{has_slot}
use Rattle.vet_masks.proofs.Naming.{not-among}
use Rattle.vet_masks.proofs.Planning.{changes-moves, changes-planned}
use Rattle.vet_masks.proofs.keeper.MaskKeeper.planned.Goals as goal

pub counts_after-counts-requires : goal.counts_after-counts-requires
counts_after-counts-requires c =
    let k = c.args.self.now in
    let names = c.as_slice.result.now in
    changes-moves k c.args.facts.now.content c.args.demand.now names c.in_ok-changes.changes c.is_by_package.ensures
    c.pairs.ensures.in_order c.as_slice.ensures.rising c.in_ok-changes.ensures.changes
    (subst (All (λ name. has_slot k.standing name ≡ true)) (sym c.as_slice.ensures.members) c.requires.slots)
    (λ name none. c.requires.others name (not-among c.args.names.now names name c.as_slice.ensures.set none))

pub returns-clause-plans : goal.returns-clause-plans
returns-clause-plans c =
    let k = c.args.self.now in
    let names = c.as_slice.result.now in
    changes-planned k c.args.facts.now.content c.args.demand.now names c.in_ok-changes.changes c.is_by_package.ensures
    c.pairs.ensures.in_order c.as_slice.ensures.rising c.in_ok-changes.ensures.changes
    (subst (All (λ name. has_slot k.standing name ≡ true)) (sym c.as_slice.ensures.members) c.requires.slots)
    (λ name none. c.requires.others name (not-among c.args.names.now names name c.as_slice.ensures.set none))
    (subst (All (λ name. has_kept_slot k.packages name ≡ true)) (sym c.as_slice.ensures.members)
    c.requires.kept_slots) c.counts_after-counts.result
    c.in_ok-criteria_after.field-0 c.in_ok-clone.field-0 c.counts_after-counts.ensures
    c.in_ok-criteria_after.ensures.criteria

pub returns-clause-moves : goal.returns-clause-moves
returns-clause-moves c =
    let k = c.args.self.now in
    let names = c.as_slice.result.now in
    changes-moves k c.args.facts.now.content c.args.demand.now names c.in_ok-changes.changes c.is_by_package.ensures
    c.pairs.ensures.in_order c.as_slice.ensures.rising c.in_ok-changes.ensures.changes
    (subst (All (λ name. has_slot k.standing name ≡ true)) (sym c.as_slice.ensures.members) c.requires.slots)
    (λ name none. c.requires.others name (not-among c.args.names.now names name c.as_slice.ensures.set none))
