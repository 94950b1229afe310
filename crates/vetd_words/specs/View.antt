-- The texts of a register that commands print (ours).
use Rattle.std.specs.Prelude.{◌≡◌}
use Rattle.vet_base.specs.Words.{Text}
use Rattle.vet_documents.specs.RegisterFile.{IsFileOf}
use Rattle.vet_register.specs.State.{State}
use Rattle.vet_reports.specs.Report.{report_text}
use Rattle.vetd_words.specs.declared.view.View.{View}
use Rattle.vetd_words.specs.declared.view.View.TheVariants.{Export, Report}

-- a text is this one of a state
abbrev pub Shows : View → State → Text → Type 0
Shows (Export file) s text = IsFileOf file s text
Shows (Report report) s text = text ≡ report_text report s
