use Rattle.vet_entries.specs.PublisherLaws.{publisher_eq-Decides}
use Rattle.vet_base.proofs.ListLemmas.{told}
use Rattle.vet_entries.proofs.publishers.PublishersPartialEq.eq.Goals as goal

pub returns-clause-same : goal.returns-clause-same
returns-clause-same c = told publisher_eq-Decides _ _ _ _ _ c.eq.ensures c.self.view_is c.other.view_is
