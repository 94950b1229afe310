-- Whether a pair is among some.
use Rattle.std.proofs.Common.{◌≡◌, ◌↔◌, Bool, true, false, List, refl, sym}
use Rattle.std.specs.Cmp.{eq_by_cmp_equiv}
use Rattle.std.specs.List.{Contains, list_any}
use Rattle.std.proofs.lemmas.Bool.{false≢true}
use Rattle.std.proofs.lemmas.Map.Views.{Contains-from_any, list_any-from_Contains}
use Rattle.vet_base.proofs.Comparisons.{is_false}
use Rattle.vet_demand.specs.declared.pair.Pair.{Pair}
use Rattle.vet_demand.specs.Pair.{pair_eq}
use Rattle.vet_demand.specs.PairLaws.{pair_eq-Decides, pair_total}

-- what tells whether a pair is among some is the test for it
pub told_among : (b : Bool) (p : Pair) (pairs : List Pair) → (b ≡ true) ↔ Contains pairs p
    → b ≡ list_any (pair_eq p) pairs
told_among true p pairs h = sym (list_any-from_Contains (eq_by_cmp_equiv pair_total) p pairs (h.0 refl))
told_among false p pairs h =
    sym (is_false (list_any (pair_eq p) pairs)
    (λ found. false≢true (h.1 (Contains-from_any (λ q r. (pair_eq-Decides q r).0) p pairs found))))
