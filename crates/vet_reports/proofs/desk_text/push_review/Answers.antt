use Rattle.std.proofs.Common.{◌≡◌, [], ◌∷◌, ◌++◌, OnOk, rules}
use Rattle.std.proofs.lemmas.Result.{IfOk-equal}
use Rattle.std.specs.Fmt.{decimal}
use Rattle.std.specs.Prelude.{string_bytes}
use Rattle.vet_base.specs.Day.{day_text}
use Rattle.vet_base.specs.Names.{members}
use Rattle.vet_base.specs.Version.{version_text}
use Rattle.vet_reports.specs.Columns.{comma_list, left_in, right_in}
use Rattle.vet_reports.specs.DeskText.{entry_word, line_for, member_word, state_word}
use Rattle.vet_reports.proofs.ReviewLemmas.{written}
use Rattle.vet_reports.proofs.desk_text.push_review.Goals as goal

pub returns : goal.returns
unfolding line_for
returns c =
    let r = c.args.review.now in
    let names : string_bytes c.push_names.new.text
    ≡ string_bytes c.push_state.new.text ++ comma_list (members r.criteria) =
    rw (← c.as_slice.ensures.members) c.in_ok-push_names.ensures in
    let last : OnOk c.push.result (string_bytes c.push.new.self ≡ string_bytes c.push_names.new.text ++ 10 ∷ []) =
    search rules in
    IfOk-equal c.push.result _ _ _ last (written (string_bytes c.args.text.now) (string_bytes c.push_number.new.text)
    (string_bytes c.write.new.self) (string_bytes c.push_version.new.text) (string_bytes c.push_state.new.text)
    (string_bytes c.push_names.new.text) (right_in 8 (decimal r.number)) (day_text r.day) (left_in 24 r.«package»)
    (left_in 20 (version_text r.version)) (left_in 9 (state_word r.state)) (left_in 16 (member_word r.state))
    (right_in 8 (entry_word r.state)) (comma_list (members r.criteria)) c.in_ok-push_number.ensures
    c.in_ok-write.ensures.bytes c.in_ok-push_version.ensures c.in_ok-push_state.ensures names)
