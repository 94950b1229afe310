-- The content held of a peer (ours), in its own words.
use Rattle.std.specs.Prelude.{List, []}
use Rattle.vet_base.specs.Criteria.{Criteria, built_in_criteria}
use Rattle.vet_entries.specs.declared.facts.HeldEntry.{HeldEntry}

-- the criteria of a peer, including the built-in ones, and its entries in the order of their numbers
pub record HoldingValue : Type 0 where
  pub table : Criteria
  pub entries : List HeldEntry

-- nothing was imported yet
abbrev pub no_holding : HoldingValue
no_holding = record { table = built_in_criteria; entries = [] }
