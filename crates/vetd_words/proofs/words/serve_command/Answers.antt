-- The serve command is the app of its options.
use Rattle.clap.specs.Words.{new_app}
use Rattle.std.proofs.Common.{codes, rules}
use Rattle.vetd_words.specs.Words.{IsApp}
use Rattle.vetd_words.proofs.words.serve_command.Goals as goal

pub returns : goal.returns
returns c =
    let bare : IsApp (new_app (codes "serve")) c.after_help-command.result =
    record { is = search rules; own = search rules } in
    c.add-4.ensures _ _
    (c.in_ok-command-3.ensures _ _
    (c.in_ok-command-2.ensures _ _ (c.in_ok-command.ensures _ _ bare c.port_option.ensures)
    c.connections_option.ensures) c.path_option.ensures) c.day_option.ensures
