use Rattle.std.proofs.lemmas.Result.{IfOk-at_ok, IfOk-weaker}
use Rattle.toml.specs.View.{table_view}
use Rattle.vet_files.specs.Config.{config_file_told}
use Rattle.vet_files.specs.SameContent.{AreUndated, IsConfig}
use Rattle.vet_files.proofs.Rising.{Rising}
use Rattle.vet_files.proofs.RisingTables.{file-rises}
use Rattle.vet_files.proofs.Stands.{answered}
use Rattle.vet_files.proofs.StandsConfig.{ConfigStands, config-stands}
use Rattle.vet_files.proofs.config_file.read_config.Goals as goal

pub returns-clause-stands : goal.returns-clause-stands
returns-clause-stands c =
    let ms = table_view c.in_ok-file.file in
    IfOk-weaker c.read_config_file.result ConfigStands (λ f. IsConfig f.content) (λ f h. h.0)
    (answered ConfigStands (config_file_told ms) c.read_config_file.result
    (config-stands ms (IfOk-at_ok Rising c.in_ok-file.ensures (file-rises c.args.bytes.now)))
    c.read_config_file.ensures)

pub returns-clause-undated : goal.returns-clause-undated
returns-clause-undated c =
    let ms = table_view c.in_ok-file.file in
    IfOk-weaker c.read_config_file.result ConfigStands (λ f. AreUndated f.content.exemptions) (λ f h. h.1)
    (answered ConfigStands (config_file_told ms) c.read_config_file.result
    (config-stands ms (IfOk-at_ok Rising c.in_ok-file.ensures (file-rises c.args.bytes.now)))
    c.read_config_file.ensures)
