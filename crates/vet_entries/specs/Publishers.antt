-- The publisher records of a package: in order, each once (ours).
use Rattle.std.specs.Prelude.{◌≡◌, ◌↔◌, Bool, List}
use Rattle.std.specs.List.{AllPairs, Contains}
use Rattle.std.specs.Cmp.Lexicographic.{pointwise}
use Rattle.std.specs.declared.cmp.Ordering.TheVariants.{Less}
use Rattle.vet_entries.specs.declared.publisher.Publisher.{Publisher}
use Rattle.vet_entries.specs.Publisher.{publisher_cmp, publisher_eq}

-- each record comes before those after it
abbrev pub IsInOrder : List Publisher → Type 0
IsInOrder records = AllPairs (λ p q. publisher_cmp p q ≡ Less) records

-- the records of a list, each once, in order
pub record AreTheRecords (publishers records : List Publisher) : Type 0 where
  pub in_order : IsInOrder records
  pub same : (p : Publisher) → Contains records p ↔ Contains publishers p

-- whether two lists have the same records at the same places
abbrev pub publishers_eq : List Publisher → List Publisher → Bool
publishers_eq = pointwise publisher_eq
