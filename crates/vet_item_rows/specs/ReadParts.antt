-- Which facts the parts that were read are of (ours).
use Rattle.std.specs.Prelude.{◌≡◌, MatchResult, Result}
use Rattle.vet_entries.specs.Facts.{Facts}
use Rattle.vet_item_rows.specs.declared.read.facts.PackageFacts.{PackageFacts}
use Rattle.vet_item_rows.specs.declared.read.read_error.ReadError.{ReadError}
use Rattle.vet_item_rows.specs.declared.read.read_error.ReadError.TheVariants.{NoMemory}

-- all of some facts but the publisher records
pub record ArePartsOfFacts (parts : PackageFacts) (facts : Facts) : Type 0 where
  pub criteria : parts.criteria ≡ facts.criteria
  pub entries : parts.entries.items ≡ facts.entries
  pub peers : parts.peers.items ≡ facts.peers

-- they are read, unless memory ran out
abbrev pub AreFound : Result PackageFacts ReadError → Facts → Type 0
AreFound result facts = MatchResult result (λ parts. ArePartsOfFacts parts facts) (λ e. e ≡ NoMemory)
