-- The terms of a demand (ours).
use Rattle.std.specs.Prelude.{◌≡◌}
use Rattle.std.specs.FinMap as map
use Rattle.vet_base.specs.Closures.{AreClosures}
use Rattle.vet_base.specs.Criteria.{Criteria, IsTable, closure_of, placed, safe_to_deploy, safe_to_run}
use Rattle.vet_base.specs.CriteriaSet.{Places}
use Rattle.vet_base.specs.Names.{NameSet}
use Rattle.vet_demand.specs.Passed.{only}
use Rattle.vet_demand.specs.declared.terms.Terms.{Terms}

-- the places of the closure of some criteria
abbrev pub closed_places : Criteria → NameSet → Places
closed_places criteria names = placed criteria (closure_of criteria names)

-- the values that were computed once are those of the table
pub record AreTerms (terms : Terms) : Type 0 where
  pub table : IsTable terms.criteria.now
  pub names : terms.names.now ≡ map.keys terms.criteria.now
  pub closures : AreClosures terms.criteria.now terms.closures
  pub deploy : terms.deploy ≡ closed_places terms.criteria.now (only safe_to_deploy)
  pub run : terms.run ≡ closed_places terms.criteria.now (only safe_to_run)
