-- The read command is the app of its word.
use Rattle.clap.specs.Words.{new_app}
use Rattle.std.proofs.Common.{codes, rules}
use Rattle.vetd_words.specs.Words.{IsApp}
use Rattle.vetd_words.proofs.words.read_command.Goals as goal

pub returns : goal.returns
returns c =
    let bare : IsApp (new_app (codes "read")) c.after_help-command.result =
    record { is = search rules; own = search rules } in
    c.add.ensures _ _ bare c.word.ensures
