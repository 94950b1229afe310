use Rattle.vet_entries.proofs.SameOfPackage.{same_itself, same_onward}
use Rattle.vet_entries.proofs.SameSteps.{same_condemned, same_steps}
use Rattle.vet_entries.proofs.laws.same_packages_have_same_steps.Goals as goal

pub returns : goal.returns
returns c = record {
  steps = same_steps;
  condemned = same_condemned;
  itself = same_itself;
  onward = same_onward;
}
