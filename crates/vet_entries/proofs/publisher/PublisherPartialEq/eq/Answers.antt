use Rattle.std.proofs.Common.{◌≡◌, ◌∙◌, sym, ap}
use Rattle.std.specs.Ordering.{is_eq}
use Rattle.vet_entries.specs.Publisher.{publisher_eq}
use Rattle.vet_entries.specs.PublisherLaws.{publisher_eq-Decides}
use Rattle.vet_entries.proofs.publisher.PublisherPartialEq.eq.Goals as goal

pub returns-clause-same : goal.returns-clause-same
returns-clause-same c =
    let value : c.is_eq.result ≡ publisher_eq c.args.self.now c.args.other.now = c.is_eq.ensures
    ∙ ap is_eq c.cmp.ensures in
    let decides = publisher_eq-Decides c.args.self.now c.args.other.now in
    (λ tied. decides.0 (sym value ∙ tied), λ same. value ∙ decides.1 same)
