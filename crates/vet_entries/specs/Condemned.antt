-- The criteria for which a version is condemned (The Cargo Vet Book, audit entries; the exact form is ours).
--
-- A version is condemned if is_condemned says so, by violates and condemns. The names in an own violation are taken as
-- written, and those in a peer's are mapped. Neither table closes them (violated_names, violated). The violations of a
-- package can be found once, each with the criteria that lead to those that it names (violations_of). Then each version
-- can be judged by them (condemned_by). A law says that this condemns exactly the same (ViolationsCondemn).
use Rattle.std.specs.Prelude.{ℕ, ◌≡◌, ◌&&◌, Bool, false, List, [], ◌∷◌}
use Rattle.std.specs.List.{flat_map, list_any}
use Rattle.vet_base.specs.Criteria.{Criteria, leading_to, leads_to, placed}
use Rattle.vet_base.specs.CriteriaSet.{Places, has}
use Rattle.vet_base.specs.Req.{req_matches}
use Rattle.vet_base.specs.Version.{VersionValue}
use Rattle.vet_base.specs.Words.{Name}
use Rattle.vet_entries.specs.declared.kind.Kind.{Kind}
use Rattle.vet_entries.specs.declared.condemned.Violation.{Violation}
use Rattle.vet_entries.specs.declared.kind.Kind.TheVariants.{Violation as Violated}
use Rattle.vet_entries.specs.Facts.{Facts}
use Rattle.vet_entries.specs.PeerWords.{violated_names}
use Rattle.vet_entries.specs.Step.{SourcedEntry, entries_of}

-- a violation speaks against the versions that its requirement matches, with a revision or without
abbrev pub violates : VersionValue → Kind → Bool
violates v (Violated requirement audit) = req_matches requirement v.parts
violates v _ = false

-- the violation that a kind is, if it is one, given the criteria that it would violate
abbrev pub violation_of : Criteria → Places → Kind → List Violation
violation_of table places (Violated requirement audit) =
    (record { requirement = requirement; criteria = leading_to table places }) ∷ []
violation_of table places _ = []

-- the criteria that an entry would violate, as places in the table: those that it names, mapped for an entry of a peer
abbrev pub violated : Criteria → SourcedEntry → Places
violated table e = placed table (violated_names e.peer e.held.entry.criteria)

-- an entry condemns a version for the criterion at a place: it is a violation that matches, and the closure of the
-- criterion has one of the criteria that the violation names, which are not closed
abbrev pub condemns : Criteria → VersionValue → ℕ → SourcedEntry → Bool
condemns table v c e = violates v e.held.entry.kind && leads_to table (violated table e) c

-- the violation that an entry is, if it is one, with the criteria for which it condemns
abbrev pub violation_in : Criteria → SourcedEntry → List Violation
violation_in table e = violation_of table (violated table e) e.held.entry.kind

-- the violations of a package: one's own, then those of each peer
abbrev pub violations_of : Facts → Name → List Violation
violations_of facts name = flat_map (violation_in facts.criteria) (entries_of facts name)

-- one of some violations condemns a version for the criterion at a place
abbrev pub condemned_by : List Violation → ℕ → VersionValue → Bool
condemned_by violations c v = list_any (λ w. req_matches w.requirement v.parts && has c w.criteria) violations

-- some entry of a package condemns a version for the criterion at a place
abbrev pub is_condemned : Facts → Name → ℕ → VersionValue → Bool
is_condemned facts name c v = list_any (condemns facts.criteria v c) (entries_of facts name)

-- a package's violations condemn exactly what its entries do
abbrev pub ViolationsCondemn : Type 0
ViolationsCondemn = (facts : Facts) (name : Name) (c : ℕ) (v : VersionValue)
    → condemned_by (violations_of facts name) c v ≡ is_condemned facts name c v
