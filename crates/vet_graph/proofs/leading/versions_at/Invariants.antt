-- The versions at the places so far.
use Rattle.std.proofs.Common.{◌≡◌, true, take}
use Rattle.std.specs.BTreeSet.{contains}
use Rattle.std.specs.List.{Contains}
use Rattle.vet_base.specs.Version.{VersionValue}
use Rattle.vet_base.specs.VersionOrder.{version_cmp}
use Rattle.vet_graph.specs.Search.{versions_at}
use Rattle.vet_graph.proofs.leading.versions_at.Given as goal

abbrev pub invariant-places : goal.invariant-places
invariant-places l = (v : VersionValue) → Contains (versions_at l.steps (take l.place-index l.places)) v
    → contains version_cmp l.versions v ≡ true
