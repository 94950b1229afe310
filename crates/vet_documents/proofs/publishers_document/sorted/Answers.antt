use Rattle.std.proofs.Common.{◌≡◌, sym}
use Rattle.std.proofs.lemmas.Result.{IfOk-weaker}
use Rattle.vet_entries.specs.Publishers.{AreTheRecords}
use Rattle.vet_files.specs.Publishers.{in_order}
use Rattle.vet_files.proofs.Ordered.{in_order-is}
use Rattle.vet_documents.proofs.publishers_document.sorted.Goals as goal

pub returns-clause-value : goal.returns-clause-value
returns-clause-value c =
    IfOk-weaker c.of.result (λ p. AreTheRecords c.args.records.items p) (λ p. p ≡ in_order c.args.records.items)
    (λ p h. sym (in_order-is c.args.records.items p h)) c.of.ensures.records
