use Rattle.vet_tables.proofs.TablePlaces.{few}
use Rattle.vet_tables.proofs.find.has_tables.Goals as goal

pub returns : goal.returns
returns c = (
  λ all n. c.has_first_tables.ensures.0 all n (few n),
  λ has. c.has_first_tables.ensures.1 (λ n low. has n),
)
