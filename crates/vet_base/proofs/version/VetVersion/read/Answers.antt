use Rattle.std.proofs.Common.{sym}
use Rattle.vet_base.proofs.VersionLemmas.{read_version-IsVersion}
use Rattle.vet_base.proofs.version.VetVersion.read.Goals as goal

pub invariant_of-result : goal.invariant_of-result
invariant_of-result c = read_version-IsVersion c.args.text.now _ (sym (rw c.in-Some.is at c.in_ok-version.ensures.ok))
