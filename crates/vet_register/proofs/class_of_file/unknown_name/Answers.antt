use Rattle.std.proofs.Common.{◌∙◌}
use Rattle.std.specs.FinSet as set
use Rattle.vet_register.proofs.ClassOfFileLemmas.{by_table}
use Rattle.vet_register.proofs.class_of_file.unknown_name.Goals as goal

pub returns : goal.returns
returns c = c.unknown_outside.ensures ∙ by_table (set.contains c.args.known.now) c.args.word.now c.args.content.now
    c.requires
