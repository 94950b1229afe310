-- The class that the function gives a version is that of the definition, and no other class is (ours).
use Rattle.std.specs.Prelude.{◌≡◌, ℕ, List}
use Rattle.std.proofs.Common.{refl, inl, inr}
use Rattle.vet_base.specs.Version.{VersionValue}
use Rattle.vet_entries.specs.declared.step.Step.{Step}
use Rattle.vet_graph.specs.declared.class.Class.{Class}
use Rattle.vet_graph.specs.declared.class.Class.TheVariants.{Conflicting, Full, Partial, Exempted, Unvetted}
use Rattle.vet_graph.specs.Chain.{Condemned}
use Rattle.vet_graph.specs.Class.{IsClass, IsConflicting, IsExempted, IsFull, IsPartial}
use Rattle.vet_graph.specs.ClassAt.{class_at, first_of}
use Rattle.vet_graph.specs.Decisions.{Answer}

class_answers : (steps : List Step) (condemned : Condemned) (c : ℕ) (v : VersionValue)
    (q : Answer (IsConflicting steps condemned c v)) (r : Answer (IsFull steps condemned c v))
    (s : Answer (IsPartial steps condemned c v)) (t : Answer (IsExempted steps condemned c v))
    → IsClass steps condemned c v (first_of q r s t)
unfolding first_of
class_answers steps condemned c v (inl a) q r s = a
class_answers steps condemned c v (inr a) (inl b) r s = (a, b)
class_answers steps condemned c v (inr a) (inr b) (inl d) s = (a, b, d)
class_answers steps condemned c v (inr a) (inr b) (inr d) (inl e) = (a, b, d, e)
class_answers steps condemned c v (inr a) (inr b) (inr d) (inr e) = (a, b, d, e)

-- it is the class of the definition, and no other class is
pub class_at-is : (steps : List Step) (condemned : Condemned) (c : ℕ) (v : VersionValue)
    → IsClass steps condemned c v (class_at steps condemned c v)
unfolding class_at
class_at-is steps condemned c v = class_answers steps condemned c v _ _ _ _

first_unique : (steps : List Step) (condemned : Condemned) (c : ℕ) (v : VersionValue)
    (q : Answer (IsConflicting steps condemned c v)) (r : Answer (IsFull steps condemned c v))
    (s : Answer (IsPartial steps condemned c v)) (t : Answer (IsExempted steps condemned c v)) (k : Class)
    → IsClass steps condemned c v k → k ≡ first_of q r s t
unfolding first_of
first_unique steps condemned c v (inl a) r s t Conflicting h = refl
first_unique steps condemned c v (inl a) r s t Full h = absurd (h.0 a)
first_unique steps condemned c v (inl a) r s t Partial h = absurd (h.0 a)
first_unique steps condemned c v (inl a) r s t Exempted h = absurd (h.0 a)
first_unique steps condemned c v (inl a) r s t Unvetted h = absurd (h.0 a)
first_unique steps condemned c v (inr a) r s t Conflicting h = absurd (a h)
first_unique steps condemned c v (inr a) (inl b) s t Full h = refl
first_unique steps condemned c v (inr a) (inl b) s t Partial h = absurd (h.1 b)
first_unique steps condemned c v (inr a) (inl b) s t Exempted h = absurd (h.1 b)
first_unique steps condemned c v (inr a) (inl b) s t Unvetted h = absurd (h.1 b)
first_unique steps condemned c v (inr a) (inr b) s t Full h = absurd (b h.1)
first_unique steps condemned c v (inr a) (inr b) (inl d) t Partial h = refl
first_unique steps condemned c v (inr a) (inr b) (inl d) t Exempted h = absurd (h.2 d)
first_unique steps condemned c v (inr a) (inr b) (inl d) t Unvetted h = absurd (h.2 d)
first_unique steps condemned c v (inr a) (inr b) (inr d) t Partial h = absurd (d h.2)
first_unique steps condemned c v (inr a) (inr b) (inr d) (inl e) Exempted h = refl
first_unique steps condemned c v (inr a) (inr b) (inr d) (inl e) Unvetted h = absurd (h.3 e)
first_unique steps condemned c v (inr a) (inr b) (inr d) (inr e) Exempted h = absurd (e h.3)
first_unique steps condemned c v (inr a) (inr b) (inr d) (inr e) Unvetted h = refl

pub class_at-unique : (steps : List Step) (condemned : Condemned) (c : ℕ) (v : VersionValue) (k : Class)
    → IsClass steps condemned c v k → k ≡ class_at steps condemned c v
unfolding class_at
class_at-unique steps condemned c v k h = first_unique steps condemned c v _ _ _ _ k h
