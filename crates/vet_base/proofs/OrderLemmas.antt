-- The order of versions as it is computed.
use Rattle.std.proofs.Common.{◌≡◌, Ordering, Less, Equal, Greater, nat_cmp, refl}
use Rattle.std.specs.Cmp.Lexicographic.{slice_cmp}
use Rattle.std.specs.Ordering.{ordering_then}
use Rattle.semver.specs.Parse.{Parts}
use Rattle.semver.specs.Identifiers.{parts_text}
use Rattle.vet_base.specs.VersionOrder.{parts_precedence}
use Rattle.vet_base.specs.VersionOrderLaws.{tied_texts}

by_tie : (o s t r : Ordering) → (o ≡ Equal → s ≡ t) → ordering_then (ordering_then o t) r
    ≡ ordering_then o (ordering_then s r)
by_tie Less s t r e = refl
by_tie Equal s t r e = rw (e refl) refl
by_tie Greater s t r e = refl

pub compared : (p q : Parts) (r : Ordering)
    → ordering_then (ordering_then (parts_precedence p q) (slice_cmp nat_cmp p.4 q.4)) r
    ≡ ordering_then (parts_precedence p q) (ordering_then (slice_cmp nat_cmp (parts_text p) (parts_text q)) r)
compared p q r = by_tie (parts_precedence p q) _ _ r (tied_texts p q)
