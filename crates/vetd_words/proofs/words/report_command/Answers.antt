-- The report command is the app of its path and its kind.
use Rattle.clap.specs.Words.{new_app}
use Rattle.std.proofs.Common.{codes, rules}
use Rattle.vetd_words.specs.Words.{IsApp}
use Rattle.vetd_words.proofs.words.report_command.Goals as goal

pub returns : goal.returns
returns c =
    let bare : IsApp (new_app (codes "report")) c.after_help-command.result =
    record { is = search rules; own = search rules } in
    c.with_kind.ensures _ bare
