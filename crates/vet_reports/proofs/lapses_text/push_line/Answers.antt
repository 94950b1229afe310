use Rattle.std.proofs.Common.{◌≡◌, [], ◌∷◌, ◌++◌, OnOk, rules}
use Rattle.std.proofs.lemmas.Result.{IfOk-equal}
use Rattle.std.specs.Fmt.{decimal}
use Rattle.std.specs.Prelude.{string_bytes}
use Rattle.vet_base.specs.Day.{day_text}
use Rattle.vet_base.specs.Names.{members}
use Rattle.vet_base.specs.Version.{version_text}
use Rattle.vet_reports.specs.Columns.{comma_list, left_in, right_in}
use Rattle.vet_reports.specs.LapsesText.{lapse_word, line_for}
use Rattle.vet_reports.proofs.LapseLemmas.{written}
use Rattle.vet_reports.proofs.lapses_text.push_line.Goals as goal

pub returns : goal.returns
unfolding line_for
returns c =
    let held = c.args.held.now in
    let names : string_bytes c.push_names.new.text
    ≡ string_bytes c.push_word.new.text ++ comma_list (members held.entry.criteria) =
    rw (← c.as_slice.ensures.members) c.in_ok-push_names.ensures in
    let last : OnOk c.push.result (string_bytes c.push.new.self ≡ string_bytes c.push_names.new.text ++ 10 ∷ []) =
    search rules in
    IfOk-equal c.push.result _ _ _ last (written (string_bytes c.args.text.now) (string_bytes c.push_number.new.text)
    (string_bytes c.write.new.self) (string_bytes c.push_version.new.text) (string_bytes c.push_word.new.text)
    (string_bytes c.push_names.new.text) (right_in 8 (decimal held.number)) (day_text c.args.last)
    (left_in 24 held.entry.«package») (left_in 20 (version_text c.args.version.now))
    (left_in 6 (lapse_word c.args.lapsed)) (comma_list (members held.entry.criteria)) c.in_ok-push_number.ensures
    c.in_ok-write.ensures.bytes c.in_ok-push_version.ensures c.in_ok-push_word.ensures names)
