use Rattle.vet_entries.proofs.ImportLaws.{holds_its_content}
use Rattle.vet_entries.proofs.import.import_holds_its_content.Goals as goal

pub returns : goal.returns
returns c = holds_its_content
