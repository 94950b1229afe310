use Rattle.std.proofs.lemmas.Result.{IfOk-weaker}
use Rattle.toml.specs.Data.{string}
use Rattle.vet_files.specs.Field.{a_text, texts}
use Rattle.vet_files.specs.ReadAgain.{IsReadAs}
use Rattle.vet_files.specs.Tables.{set_data}
use Rattle.vet_files.proofs.SetsRead.{only_one, set_read}
use Rattle.vet_files.proofs.field.sets.TextsField.write.Goals as goal

pub returns-then-texts-eq1-clause-read : goal.returns-then-texts-eq1-clause-read
returns-then-texts-eq1-clause-read c =
    let held = c.as_slice-texts in
    let ts = held.result.now in
    let s = c.args.self.now in
    let t = c.index-texts-0.result in
    IfOk-weaker c.write.result (λ _. IsReadAs a_text (string t) t) (λ _. IsReadAs texts (set_data s) s)
    (λ _ read. set_read a_text ts s held.ensures.set
    (only_one (λ u. IsReadAs a_text (string u) u) ts t c.if-texts-eq1.true c.index-texts-0.is read)
    held.ensures.members)
    c.write.ensures.read

pub returns-clause-read : goal.returns-clause-read
returns-clause-read c =
    let held = c.as_slice-texts in
    set_read a_text held.result.now c.args.self.now held.ensures.set c.in_ok-write_items.ensures.read
    held.ensures.members
