use Rattle.vet_files.specs.Field.{a_package}
use Rattle.vet_files.proofs.SetsRead.{list_read}
use Rattle.vet_files.proofs.field.sets.PackageNamesField.write.Goals as goal

pub returns-clause-read : goal.returns-clause-read
returns-clause-read c =
    list_read a_package c.as_slice.result.now c.args.self.now c.as_slice.ensures.set c.in_ok-write_items.ensures.read
    c.as_slice.ensures.members
