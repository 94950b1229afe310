use Rattle.std.proofs.lemmas.Result.{IfOk-at_ok}
use Rattle.toml.specs.View.{table_view}
use Rattle.vet_files.specs.Imports.{imports_file_told}
use Rattle.vet_files.proofs.Rising.{Rising}
use Rattle.vet_files.proofs.RisingTables.{file-rises}
use Rattle.vet_files.proofs.Stands.{answered}
use Rattle.vet_files.proofs.StandsImports.{ImportsStand, imports-stand}
use Rattle.vet_files.proofs.imports_file.read_imports.Goals as goal

pub returns-clause-stands : goal.returns-clause-stands
returns-clause-stands c =
    let ms = table_view c.in_ok-file.file in
    answered ImportsStand (imports_file_told ms) c.read_imports_file.result
    (imports-stand ms (IfOk-at_ok Rising c.in_ok-file.ensures (file-rises c.args.bytes.now)))
    c.read_imports_file.ensures
