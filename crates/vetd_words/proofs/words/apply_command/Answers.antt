-- The apply command is the app of its options.
use Rattle.clap.specs.Words.{new_app}
use Rattle.std.proofs.Common.{codes, rules}
use Rattle.vetd_words.specs.Words.{IsApp}
use Rattle.vetd_words.proofs.words.apply_command.Goals as goal

pub returns : goal.returns
returns c =
    let bare : IsApp (new_app (codes "apply")) c.after_help-command.result =
    record { is = search rules; own = search rules } in
    c.add-3.ensures _ _
    (c.in_ok-command-2.ensures _ _ (c.in_ok-command.ensures _ _ bare c.path_option.ensures) c.day_option.ensures)
    c.member_option.ensures
