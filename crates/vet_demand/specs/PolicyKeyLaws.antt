-- The order of keys of policies is total, and a key ties only with itself (ours).
use Rattle.std.specs.Prelude.{◌≡◌, Option, Some, None}
use Rattle.std.specs.Bool.{Decides}
use Rattle.std.specs.Ordering.{nat_cmp, is_eq}
use Rattle.std.specs.Cmp.{IsTotalOrder, then_total, on_total, tied_itself, Equal-is}
use Rattle.std.specs.Cmp.Lexicographic.{slice_cmp, nat_list_cmp_total, options_total}
use Rattle.std.specs.FinMap.{nat_cmp-IsAntisymmetric, slice_cmp-IsAntisymmetric}
use Rattle.std.specs.declared.cmp.Ordering.TheVariants.{Equal}
use Rattle.std.proofs.Common.{refl, ap, ◌∙◌}
use Rattle.vet_base.specs.Version.{VersionValue}
use Rattle.vet_base.specs.VersionOrderLaws.{version_total, version_cmp-IsAntisymmetric}
use Rattle.vet_demand.specs.declared.policy_key.PolicyKey.{PolicyKey}
use Rattle.vet_demand.specs.PolicyKey.{versions_cmp, policy_key_cmp, policy_key_eq}
use Rattle.vet_base.specs.OrderLaws.{then_first, then_second}

pub policy_key_total : IsTotalOrder policy_key_cmp
policy_key_total = then_total (on_total (λ (k : PolicyKey). k.«package») nat_list_cmp_total)
    (on_total (λ (k : PolicyKey). k.version) (options_total version_total))

version_tied : (a b : Option VersionValue) → versions_cmp a b ≡ Equal → a ≡ b
version_tied None None e = refl
version_tied None (Some y) e = cc e
version_tied (Some x) None e = cc e
version_tied (Some x) (Some y) e = ap (λ (v : VersionValue). Some v) (version_cmp-IsAntisymmetric x y e)

same_key : (a b : PolicyKey) → a.«package» ≡ b.«package» → a.version ≡ b.version → a ≡ b
same_key a b p v = λ i. record { «package» = p i; version = v i }

-- a key ties only with itself
pub policy_key_cmp-IsAntisymmetric : (a b : PolicyKey) → policy_key_cmp a b ≡ Equal → a ≡ b
policy_key_cmp-IsAntisymmetric a b e =
    same_key a b (slice_cmp-IsAntisymmetric nat_cmp-IsAntisymmetric _ _ (then_first _ _ e))
    (version_tied _ _ (then_second (slice_cmp nat_cmp a.«package» b.«package») _ e))

-- two keys tie exactly if they are the same
pub policy_key_eq-Decides : (a b : PolicyKey) → Decides (policy_key_eq a b) (a ≡ b)
policy_key_eq-Decides a b = (
  λ tied. policy_key_cmp-IsAntisymmetric a b ((Equal-is (policy_key_cmp a b)).0 tied),
  λ same. ap (λ k. is_eq (policy_key_cmp k b)) same ∙ ap is_eq (tied_itself policy_key_total b),
)
