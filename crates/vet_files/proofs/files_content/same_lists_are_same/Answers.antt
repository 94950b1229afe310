use Rattle.vet_files.proofs.FilesSame.{same-lists-same}
use Rattle.vet_files.proofs.files_content.same_lists_are_same.Goals as goal

pub returns : goal.returns
returns c = same-lists-same
