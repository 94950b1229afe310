-- Publisher records in order, each once (ours).
use Rattle.std.specs.Prelude.{List, [], ◌∷◌}
use Rattle.std.specs.Ordering.{match_ordering}
use Rattle.vet_entries.specs.declared.publisher.Publisher.{Publisher}
use Rattle.vet_entries.specs.Publisher.{publisher_cmp}

-- a record inserted among some that are in order; one that is already there occurs once
abbrev pub put_in_order : Publisher → List Publisher → List Publisher
put_in_order p [] = p ∷ []
put_in_order p (q ∷ rest) = match_ordering (publisher_cmp p q) (p ∷ q ∷ rest) (q ∷ rest) (q ∷ put_in_order p rest)

-- the records of a list in order, each once
abbrev pub in_order : List Publisher → List Publisher
in_order [] = []
in_order (p ∷ rest) = put_in_order p (in_order rest)
