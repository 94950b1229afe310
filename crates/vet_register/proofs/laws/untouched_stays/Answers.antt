use Rattle.vet_register.proofs.TouchesLaws.{untouched_classes_stay, untouched_stays}
use Rattle.vet_register.proofs.laws.untouched_stays.Goals as goal

pub returns-clause-depends : goal.returns-clause-depends
returns-clause-depends c = untouched_stays

pub returns-clause-classes : goal.returns-clause-classes
returns-clause-classes c = untouched_classes_stay
