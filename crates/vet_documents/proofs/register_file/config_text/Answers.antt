-- The file of what is held.
use Rattle.std.proofs.Common.{refl, string_bytes}
use Rattle.vet_files.specs.Config.{config_told}
use Rattle.vet_files.specs.ConfigTable.{config_table}
use Rattle.vet_files.specs.ReadAgain.{GivesBack}
use Rattle.vet_files.specs.SameContent.{IsConfig, SameConfig}
use Rattle.vet_documents.specs.declared.register_file.RegisterFile.TheVariants.{Config}
use Rattle.vet_documents.proofs.FileLemmas.{file_of_held}
use Rattle.vet_documents.proofs.register_file.config_text.Goals as goal

pub returns-clause-file : goal.returns-clause-file
returns-clause-file g c =
    file_of_held Config c.args.register.now.state _ config_table IsConfig
    (λ content. GivesBack config_told (SameConfig content))
    string_bytes refl (λ t b. b) c.in_ok-content.content c.write_config.result c.in_ok-content.ensures.content
    c.in_ok-content.ensures.readable c.write_config.ensures.table c.write_config.ensures.read
