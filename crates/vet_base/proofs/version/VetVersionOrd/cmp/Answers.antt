use Rattle.std.proofs.Common.{◌∙◌}
use Rattle.semver.specs.Identifiers.{parts_of}
use Rattle.vet_base.proofs.OrderLemmas.{compared}
use Rattle.vet_base.proofs.version.VetVersionOrd.cmp.Goals as goal

pub returns : goal.returns
returns c =
    let h = compared (parts_of c.self.inside.version) (parts_of c.other.inside.version) c.revision_cmp.result in
    let steps = rw (
      c.then.ensures,
      c.cmp_precedence.ensures,
      c.cmp.ensures,
      c.as_bytes-build.ensures.value,
      c.as_bytes-other_build.ensures.value,
      c.as_str.ensures,
      c.as_str-2.ensures,
    ) at c.then-2.ensures in
    let both = steps ∙ h in
    rw (← c.self.view_is, ← c.other.view_is) (rw c.revision_cmp.ensures at both)
