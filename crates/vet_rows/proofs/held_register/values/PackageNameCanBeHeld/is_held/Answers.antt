use Rattle.vet_base.specs.Name.{is_package_name}
use Rattle.vet_item_rows.proofs.PackedTexts.{read_as_itself}
use Rattle.vet_rows.proofs.held_register.values.PackageNameCanBeHeld.is_held.Goals as goal

pub returns : goal.returns
returns c =
    read_as_itself is_package_name c.args.self.now c.as_str.result.now c.as_str.utf8 c.as_str.ensures.value
    c.as_str.ensures.name
