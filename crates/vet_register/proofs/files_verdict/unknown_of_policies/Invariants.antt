-- The least of the one handed in and of the policies so far.
use Rattle.std.proofs.Common.{◌≡◌, take}
use Rattle.std.specs.FinMap as map
use Rattle.std.specs.Option.{option_copied}
use Rattle.vet_register.specs.NamesOfFiles.{unknown_of_policies}
use Rattle.vet_register.proofs.files_verdict.unknown_of_policies.Given as goal

abbrev pub invariant-policies : goal.invariant-policies
invariant-policies l = option_copied l.least ≡ unknown_of_policies (map.contains_key l.table) (option_copied l.first)
    (take l.held-index l.policies)
