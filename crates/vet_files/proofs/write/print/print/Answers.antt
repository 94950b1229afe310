use Rattle.std.proofs.Common.{◌≡◌, Some, string_bytes, refl}
use Rattle.std.proofs.lemmas.Str.{IsUtf8-string_bytes, is_utf8-from_IsUtf8}
use Rattle.toml.specs.Parse.{parse_document}
use Rattle.toml.specs.View.{table_view}
use Rattle.vet_files.proofs.write.print.print.Goals as goal

pub returns-in-Ok-clause-read : goal.returns-in-Ok-clause-read
returns-in-Ok-clause-read c = λ shallow.
    let utf8 = is_utf8-from_IsUtf8 (string_bytes c.in-Ok.text) (IsUtf8-string_bytes c.in-Ok.text) in
    let back : parse_document (string_bytes c.in-Ok.text) ≡ Some (table_view c.args.table.now) =
    c.in-Ok.ensures.reads_back shallow in
    rw (utf8, back) refl
