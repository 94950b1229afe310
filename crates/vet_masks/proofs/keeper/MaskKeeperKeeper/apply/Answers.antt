use Rattle.std.proofs.Common.{◌≡◌, ◌+◌, ◌-◌, ◌^◌, IfSome, min, sym, ap, subst, ◌∙◌}
use Rattle.vet_graph.specs.Standing.{counts_of}
use Rattle.vet_masks.specs.Keeper.{looks_of}
use Rattle.vet_masks.specs.Standings.{all_stands}
use Rattle.vet_masks.proofs.Planning.{changes-own, planned-standing, put-none}
use Rattle.vet_masks.proofs.keeper.MaskKeeperKeeper.apply.Goals as goal

pub exchange-requires-clause-own : goal.exchange-requires-clause-own
exchange-requires-clause-own c = changes-own c.args.update.changes.stands.items c.requires.2.by_package

pub exchange-requires-clause-counts : goal.exchange-requires-clause-counts
exchange-requires-clause-counts c =
    let planned = c.requires.2 in
    planned.counts ∙ sym (ap counts_of
    (planned-standing c.args.self.now c.args.update c.requires.0 c.requires.1 c.is_by_package.ensures planned))

pub returns-clause-standing : goal.returns-clause-standing
returns-clause-standing c facts demand planned = ap all_stands c.exchange.ensures
    ∙ planned-standing c.args.self.now c.args.update facts demand c.is_by_package.ensures planned

pub returns-clause-keeps : goal.returns-clause-keeps
returns-clause-keeps c facts demand planned =
    let changed = c.args.update.changes.kept.items in
    record {
      standing = returns-clause-standing c facts demand planned;
      criteria = subst (λ o. IfSome o (λ table. table ≡ facts.criteria))
          (sym (c.put_criteria.ensures ∙ planned.criteria)) (λ i. facts.criteria);
      kept = c.exchange-2.ensures.kept facts planned.kept planned.kept_beside;
      steps = λ name none. (let gone = put-none changed name _ (sym (c.exchange-2.ensures.at name) ∙ none) in
          planned.steps_beside name gone.0 gone.1);
    }

pub returns-clause-looks : goal.returns-clause-looks
returns-clause-looks c = c.saturating_add-self.ensures
    ∙ ap (λ n. min (c.args.self.now.looks + n) (2 ^ 128 - 1)) c.requires.2.looks

pub returns-clause-package_looks : goal.returns-clause-package_looks
returns-clause-package_looks c name = ap looks_of (c.exchange-2.ensures.at name)
