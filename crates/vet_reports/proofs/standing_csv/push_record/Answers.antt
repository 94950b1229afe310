use Rattle.std.proofs.Common.{List, ℕ}
use Rattle.std.specs.Prelude.{string_bytes}
use Rattle.std.proofs.lemmas.Result.{IfOk-equal}
use Rattle.csv.specs.Writing.{default_writer, field_text, fields_text, is_blank}
use Rattle.vet_reports.proofs.CsvLemmas.{four_fields}
use Rattle.vet_reports.proofs.standing_csv.push_record.Goals as goal

abbrev shown : List ℕ → List ℕ
shown field = field_text default_writer field

pub returns : goal.returns
unfolding fields_text is_blank
returns c =
    IfOk-equal c.push_field-4.result _ _ _ c.push_field-4.ensures (four_fields (string_bytes c.args.text.now)
    (string_bytes c.push_field.new.text) (string_bytes c.push_field-2.new.text) (string_bytes c.push_field-3.new.text)
    (shown c.args.first.now) (shown c.args.second.now) (shown c.args.third.now) (shown c.args.fourth.now)
    c.in_ok-push_field.ensures c.in_ok-push_field-2.ensures c.in_ok-push_field-3.ensures)
