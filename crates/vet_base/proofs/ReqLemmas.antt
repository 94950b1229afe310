-- A copy of what was read of a requirement asks the same.
use Rattle.std.proofs.Common.{◌≡◌, List, [], ◌∷◌, map, refl}
use Rattle.std.specs.List.{AllZip}
use Rattle.semver.specs.Identifiers.{comparator_view}
use Rattle.semver.specs.declared.Comparator.{Comparator}

pub views_alike : {R : Comparator → Comparator → Type 0} (xs ys : List Comparator) → AllZip R xs ys
    → ((x y : Comparator) → R x y → comparator_view y ≡ comparator_view x)
    → map comparator_view ys ≡ map comparator_view xs
views_alike [] [] all same = refl
views_alike [] (y ∷ ys) all same = absurd all
views_alike (x ∷ xs) [] all same = absurd all
views_alike (x ∷ xs) (y ∷ ys) all same = rw (same x y all.0, views_alike xs ys all.1 same)
