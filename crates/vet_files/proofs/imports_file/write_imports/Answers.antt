use Rattle.std.proofs.Common.{◌≡◌, Some, string_bytes}
use Rattle.toml.specs.Parse.{parse_document}
use Rattle.vet_files.specs.Imports.{imports_told}
use Rattle.vet_files.specs.ImportsTable.{imports_table}
use Rattle.vet_files.specs.ReadAgain.{GivesBack}
use Rattle.vet_files.specs.SameContent.{IsImports, SameImports}
use Rattle.vet_files.proofs.Depths.{imports_depth}
use Rattle.vet_files.proofs.Printed.{imports_back, ok_then}
use Rattle.vet_files.proofs.imports_file.write_imports.Goals as goal

pub returns-clause-table : goal.returns-clause-table
returns-clause-table c =
    let settings = c.args.settings.now in
    let content = c.args.content.now in
    ok_then _ (λ s. parse_document (string_bytes s) ≡ Some (imports_table settings content)) c.print.result
    (λ s back. rw c.in_ok-file.ensures.table at back (imports_depth settings content)) c.print.ensures.parsed

pub returns-clause-read : goal.returns-clause-read
returns-clause-read c =
    let settings = c.args.settings.now in
    let content = c.args.content.now in
    ok_then _ (λ s. IsImports content → GivesBack imports_told (SameImports settings content) (string_bytes s))
    c.print.result
    (λ s back stands. imports_back settings content (string_bytes s) c.in_ok-file.ensures.read stands
    (rw c.in_ok-file.ensures.table at back (imports_depth settings content))) c.print.ensures.read
