use Rattle.vet_register.specs.State.{demanded}
use Rattle.vet_store.proofs.laws.classes_are_of_chains.Goals as goal

pub returns-clause-classes : goal.returns-clause-classes
returns-clause-classes g c =
    let s = c.args.register.now.state in
    let sound = c.counts.ensures.sound in
    record {
      classes = λ pair. c.each_pair_has_its_class.ensures.stands s.held.facts (demanded s) pair;
      demand = c.demand_is_least.ensures.least s.held.projects s.held.policies s.held.facts.criteria
          sound.held.facts.criteria sound.held.policies.known;
    }
