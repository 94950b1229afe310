-- The class command is the app of its three words.
use Rattle.clap.specs.Words.{new_app}
use Rattle.std.proofs.Common.{codes, rules}
use Rattle.vetd_words.specs.Words.{IsApp}
use Rattle.vetd_words.proofs.words.class_command.Goals as goal

pub returns : goal.returns
returns c =
    let bare : IsApp (new_app (codes "class")) c.after_help-command.result =
    record { is = search rules; own = search rules } in
    c.add-3.ensures _ _
    (c.in_ok-command-2.ensures _ _ (c.in_ok-command.ensures _ _ bare c.word.ensures) c.word-2.ensures) c.word-3.ensures
