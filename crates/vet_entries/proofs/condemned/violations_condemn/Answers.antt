use Rattle.vet_entries.proofs.Violations.{violations_condemn}
use Rattle.vet_entries.proofs.condemned.violations_condemn.Goals as goal

pub returns : goal.returns
returns c = violations_condemn c.led_to.ensures
