-- The order of versions (Semantic Versioning 2.0.0, 11; the rest is ours).
use Rattle.std.specs.Prelude.{Bool}
use Rattle.std.specs.Option.{option_cmp}
use Rattle.std.specs.Ordering.{nat_cmp, on, then_cmp, ordering_then, eq_by_cmp}
use Rattle.std.specs.Cmp.Lexicographic.{slice_cmp}
use Rattle.std.specs.declared.cmp.Ordering.{Ordering}
use Rattle.semver.specs.Parse.{Parts}
use Rattle.semver.specs.Identifiers.{parts_text}
use Rattle.semver.specs.Order.{pre_cmp}
use Rattle.vet_base.specs.Version.{VersionValue}

-- SemVer's precedence of V
abbrev pub parts_precedence : Parts → Parts → Ordering
parts_precedence a b = ordering_then (nat_cmp a.0 b.0) (ordering_then (nat_cmp a.1 b.1)
    (ordering_then (nat_cmp a.2 b.2) (pre_cmp a.3 b.3)))

-- the order of versions: precedence, the printed V, no revision before a revision, the bytes of the revision
abbrev pub version_cmp : VersionValue → VersionValue → Ordering
version_cmp = then_cmp (on (λ v. v.parts) parts_precedence)
    (then_cmp (on (λ v. parts_text v.parts) (slice_cmp nat_cmp))
    (on (λ v. v.revision) (option_cmp (slice_cmp nat_cmp))))

-- whether two versions tie
abbrev pub version_eq : VersionValue → VersionValue → Bool
version_eq = eq_by_cmp version_cmp
