use Rattle.std.proofs.Common.{ap, ◌∙◌}
use Rattle.vet_entries.specs.ByPackage.{gathered, places_of}
use Rattle.vet_entries.proofs.ByPackage.{range_is_places}
use Rattle.vet_entries.proofs.Standing.{gathered_of}
use Rattle.vet_entries.proofs.by_package.ByPackage.places_of.Goals as goal

pub returns-clause-places : goal.returns-clause-places
returns-clause-places c =
    let range = rw (c.as_slice.ensures.value, c.as_slice-2.ensures.value) at c.range_read-low.ensures in
    rw c.as_slice-3.ensures.value (range_is_places _ _ _ _ _ c.self.invariant.0 range)
    ∙ ap (λ b. places_of b.entries c.args.package.now) c.self.view_is

pub returns-clause-entries : goal.returns-clause-entries
returns-clause-entries c =
    ap (gathered c.args.self.now.entries) (returns-clause-places c) ∙ gathered_of c.args.self.now.entries
    c.args.package.now
