-- Classes that are the same.
use Rattle.std.proofs.Common.{◌≡◌, true, refl, ap, ◌∙◌}
use Rattle.std.specs.Bool.{Decides}
use Rattle.vet_graph.specs.declared.class.Class.{Class}
use Rattle.vet_graph.specs.declared.class.Class.TheVariants.{Conflicting, Full, Partial, Exempted, Unvetted}
use Rattle.vet_graph.specs.Standing.{same_class}
use Rattle.vet_graph.specs.contracts.class.Class.{the_type}
use denote.Enum.Bare.{sameb}

same_from_test : (a b : Class) → same_class a b ≡ true → a ≡ b
same_from_test Conflicting Conflicting h = refl
same_from_test Full Full h = refl
same_from_test Partial Partial h = refl
same_from_test Exempted Exempted h = refl
same_from_test Unvetted Unvetted h = refl
same_from_test _ _ h = absurd (cc h)

same_as_itself : (a : Class) → same_class a a ≡ true
same_as_itself Conflicting = refl
same_as_itself Full = refl
same_as_itself Partial = refl
same_as_itself Exempted = refl
same_as_itself Unvetted = refl

pub same_class-Decides : (a b : Class) → Decides (same_class a b) (a ≡ b)
same_class-Decides a b = (same_from_test a b, λ e. ap (λ k. same_class k b) e ∙ same_as_itself b)

-- what `==` answers
pub same_class-is : (a b : Class) → sameb the_type a b ≡ same_class a b
same_class-is Conflicting Conflicting = refl
same_class-is Full Full = refl
same_class-is Partial Partial = refl
same_class-is Exempted Exempted = refl
same_class-is Unvetted Unvetted = refl
same_class-is _ _ = refl
