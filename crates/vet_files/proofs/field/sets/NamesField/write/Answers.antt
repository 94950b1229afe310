use Rattle.vet_files.specs.Field.{a_name}
use Rattle.vet_files.proofs.SetsRead.{set_read}
use Rattle.vet_files.proofs.field.sets.NamesField.write.Goals as goal

pub returns-clause-read : goal.returns-clause-read
returns-clause-read c =
    let names = c.as_slice-names in
    set_read a_name names.result.now c.args.self.now names.ensures.set c.in_ok-write_items.ensures.read
    names.ensures.members
