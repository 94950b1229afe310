use Rattle.std.proofs.Common.{◌≡◌, Some, string_bytes}
use Rattle.toml.specs.Parse.{parse_document}
use Rattle.vet_files.specs.Config.{config_told}
use Rattle.vet_files.specs.ConfigTable.{config_table}
use Rattle.vet_files.specs.ReadAgain.{GivesBack}
use Rattle.vet_files.specs.SameContent.{IsConfig, SameConfig}
use Rattle.vet_files.proofs.Depths.{config_depth}
use Rattle.vet_files.proofs.Printed.{config_back, ok_then}
use Rattle.vet_files.proofs.config_file.write_config.Goals as goal

pub returns-clause-table : goal.returns-clause-table
returns-clause-table c =
    let content = c.args.content.now in
    ok_then _ (λ s. parse_document (string_bytes s) ≡ Some (config_table content)) c.print.result
    (λ s back. rw c.in_ok-file.ensures.table at back (config_depth content)) c.print.ensures.parsed

pub returns-clause-read : goal.returns-clause-read
returns-clause-read c =
    let content = c.args.content.now in
    ok_then _ (λ s. IsConfig content → GivesBack config_told (SameConfig content) (string_bytes s)) c.print.result
    (λ s back stands. config_back content (string_bytes s) c.in_ok-file.ensures.read stands
    (rw c.in_ok-file.ensures.table at back (config_depth content))) c.print.ensures.read
