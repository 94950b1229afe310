-- The file of what is held.
use Rattle.std.proofs.Common.{refl, string_bytes}
use Rattle.vet_files.specs.Audits.{audits_told}
use Rattle.vet_files.specs.AuditsTable.{audits_table}
use Rattle.vet_files.specs.ReadAgain.{GivesBack}
use Rattle.vet_files.specs.SameContent.{IsAudits, SameAudits}
use Rattle.vet_documents.specs.declared.register_file.RegisterFile.TheVariants.{Audits}
use Rattle.vet_documents.proofs.FileLemmas.{file_of_held}
use Rattle.vet_documents.proofs.register_file.audits_text.Goals as goal

pub returns-clause-file : goal.returns-clause-file
returns-clause-file g c =
    file_of_held Audits c.args.register.now.state _ audits_table IsAudits
    (λ content. GivesBack audits_told (SameAudits content))
    string_bytes refl (λ t b. b) c.in_ok-content.content c.write_audits.result c.in_ok-content.ensures.content
    c.in_ok-content.ensures.readable c.write_audits.ensures.table c.write_audits.ensures.read
