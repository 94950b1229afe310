-- The steps of the entries so far.
use Rattle.std.proofs.Common.{◌≡◌, take}
use Rattle.std.specs.List.{flat_map}
use Rattle.vet_entries.specs.LocalCriteria.{AreLocal}
use Rattle.vet_entries.specs.Step.{entry_steps}
use Rattle.vet_entries.specs.Taken.{all_sourced}
use Rattle.vet_entries.proofs.package_entries.all_steps.Given as goal

abbrev pub invariant-loop-entry : goal.invariant-loop-entry
invariant-loop-entry l = record {
  steps : l.steps.items ≡ flat_map (entry_steps l.facts.content.today l.facts.content.criteria l.records)
      (all_sourced l.facts.content.peers (take l.entry-index l.taken));
  local : AreLocal l.facts.content l.local;
}
