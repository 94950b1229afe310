-- The order of pairs is total, and a pair ties only with itself (ours).
use Rattle.std.specs.Prelude.{◌≡◌, ℕ, List}
use Rattle.std.specs.Bool.{Decides}
use Rattle.std.specs.Ordering.{nat_cmp, is_eq}
use Rattle.std.specs.Cmp.{IsTotalOrder, then_total, on_total, tied_itself, Equal-is}
use Rattle.std.specs.Cmp.Lexicographic.{slice_cmp, nat_list_cmp_total}
use Rattle.std.specs.FinMap.{nat_cmp-IsAntisymmetric, slice_cmp-IsAntisymmetric}
use Rattle.std.specs.declared.cmp.Ordering.TheVariants.{Equal}
use Rattle.std.proofs.Common.{ap, ◌∙◌}
use Rattle.vet_base.specs.VersionOrder.{version_cmp}
use Rattle.vet_base.specs.VersionOrderLaws.{version_total, version_cmp-IsAntisymmetric}
use Rattle.vet_demand.specs.declared.pair.Pair.{Pair}
use Rattle.vet_demand.specs.Pair.{pair_cmp, pair_eq}
use Rattle.vet_base.specs.OrderLaws.{then_first, then_second}

pub pair_total : IsTotalOrder pair_cmp
pair_total = then_total (on_total (λ (p : Pair). p.«package») nat_list_cmp_total)
    (then_total (on_total (λ (p : Pair). p.version) version_total)
    (on_total (λ (p : Pair). p.criterion) nat_list_cmp_total))

same_bytes : (a b : List ℕ) → slice_cmp nat_cmp a b ≡ Equal → a ≡ b
same_bytes = slice_cmp-IsAntisymmetric nat_cmp-IsAntisymmetric

same_pair : (p q : Pair) → p.«package» ≡ q.«package» → p.version ≡ q.version → p.criterion ≡ q.criterion → p ≡ q
same_pair p q a b c = λ i. record { «package» = a i; version = b i; criterion = c i }

-- a pair ties only with itself
pub pair_cmp-IsAntisymmetric : (p q : Pair) → pair_cmp p q ≡ Equal → p ≡ q
pair_cmp-IsAntisymmetric p q e =
    let more = then_second (slice_cmp nat_cmp p.«package» q.«package») _ e in
    same_pair p q (same_bytes _ _ (then_first _ _ e)) (version_cmp-IsAntisymmetric _ _ (then_first _ _ more))
    (same_bytes _ _ (then_second (version_cmp p.version q.version) _ more))

pub pair_eq-Decides : (p q : Pair) → Decides (pair_eq p q) (p ≡ q)
pair_eq-Decides p q = (
  λ tied. pair_cmp-IsAntisymmetric p q ((Equal-is (pair_cmp p q)).0 tied),
  λ same. ap (λ r. is_eq (pair_cmp r q)) same ∙ ap is_eq (tied_itself pair_total q),
)
