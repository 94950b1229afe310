-- The order of versions is total, and only equal versions tie in it (ours).
use Rattle.std.specs.Prelude.{ℕ, ◌≡◌, ◌⊎◌, List, [], ◌∷◌, ◌++◌, Option, Some, None}
use Rattle.std.specs.Option.{option_cmp}
use Rattle.std.specs.Ordering.{nat_cmp, is_eq}
use Rattle.std.specs.Bool.{Decides}
use Rattle.std.specs.Cmp.{IsTotalOrder, then_total, on_total, nat_cmp_total, tied_itself, Equal-is}
use Rattle.std.specs.Cmp.Lexicographic.{slice_cmp, options_total, nat_list_cmp_total}
use Rattle.std.specs.FinMap.{nat_cmp-IsAntisymmetric, slice_cmp-IsAntisymmetric}
use Rattle.std.specs.Fmt.{decimal}
use Rattle.std.specs.declared.cmp.Ordering.TheVariants.{Equal}
use Rattle.std.proofs.Common.{refl, sym, ap, ◌∙◌, inl, inr}
use Rattle.std.proofs.lemmas.Bool.{cases_Bool, false≢true}
use Rattle.semver.specs.OrderLaws.{pre_total, pre-anti}
use Rattle.semver.specs.Parse.{Parts}
use Rattle.semver.specs.Identifiers.{parts_text, marked}
use Rattle.vet_base.specs.Version.{VersionValue}
use Rattle.vet_base.specs.OrderLaws.{then_first, then_second}
use Rattle.vet_base.specs.VersionOrder.{parts_precedence, version_cmp, version_eq}

pub precedence_parts_total : IsTotalOrder parts_precedence
precedence_parts_total =
    then_total (on_total (λ (p : Parts). p.0) nat_cmp_total)
    (then_total (on_total (λ (p : Parts). p.1) nat_cmp_total)
    (then_total (on_total (λ (p : Parts). p.2) nat_cmp_total) (on_total (λ (p : Parts). p.3) pre_total)))

-- the order of versions is total
pub version_total : IsTotalOrder version_cmp
version_total = then_total (on_total (λ (v : VersionValue). v.parts) precedence_parts_total)
    (then_total (on_total (λ (v : VersionValue). parts_text v.parts) nat_list_cmp_total)
    (on_total (λ (v : VersionValue). v.revision) (options_total nat_list_cmp_total)))

-- a common prefix does not count
after_front : (front x y : List ℕ) → slice_cmp nat_cmp (front ++ x) (front ++ y) ≡ slice_cmp nat_cmp x y
after_front [] x y = refl
after_front (b ∷ front) x y = rw (tied_itself nat_cmp_total b) (after_front front x y)

marked_cmp : (x y : List ℕ) → slice_cmp nat_cmp (marked 43 x) (marked 43 y) ≡ slice_cmp nat_cmp x y
marked_cmp [] [] = refl
marked_cmp [] (b ∷ y) = refl
marked_cmp (a ∷ x) [] = refl
marked_cmp (a ∷ x) (b ∷ y) = refl

-- if precedence ties, only build metadata tells the texts apart
pub tied_texts : (p q : Parts) → parts_precedence p q ≡ Equal
    → slice_cmp nat_cmp (parts_text p) (parts_text q) ≡ slice_cmp nat_cmp p.4 q.4
tied_texts p q e =
    let a : p.0 ≡ q.0 = nat_cmp-IsAntisymmetric p.0 q.0 (then_first _ _ e) in
    let e1 = then_second (nat_cmp p.0 q.0) _ e in
    let b : p.1 ≡ q.1 = nat_cmp-IsAntisymmetric p.1 q.1 (then_first _ _ e1) in
    let e2 = then_second (nat_cmp p.1 q.1) _ e1 in
    let c : p.2 ≡ q.2 = nat_cmp-IsAntisymmetric p.2 q.2 (then_first _ _ e2) in
    let d : p.3 ≡ q.3 = pre-anti p.3 q.3 (then_second (nat_cmp p.2 q.2) _ e2) in
    rw (a, b, c, d) (after_front (decimal q.0) _ _ ∙ after_front (decimal q.1) _ _ ∙ after_front (decimal q.2) _ _
    ∙ after_front (marked 45 q.3) _ _ ∙ marked_cmp p.4 q.4)

revision_tied : (a b : Option (List ℕ)) → option_cmp (slice_cmp nat_cmp) a b ≡ Equal → a ≡ b
revision_tied None None e = refl
revision_tied None (Some y) e = cc e
revision_tied (Some x) None e = cc e
revision_tied (Some x) (Some y) e =
    ap (λ (t : List ℕ). Some t) (slice_cmp-IsAntisymmetric nat_cmp-IsAntisymmetric x y e)

-- parts with the same precedence and the same text are the same
same_parts : (p q : Parts) → parts_precedence p q ≡ Equal → slice_cmp nat_cmp (parts_text p) (parts_text q) ≡ Equal
    → p ≡ q
same_parts p q e t =
    let a : p.0 ≡ q.0 = nat_cmp-IsAntisymmetric p.0 q.0 (then_first _ _ e) in
    let e1 = then_second (nat_cmp p.0 q.0) _ e in
    let b : p.1 ≡ q.1 = nat_cmp-IsAntisymmetric p.1 q.1 (then_first _ _ e1) in
    let e2 = then_second (nat_cmp p.1 q.1) _ e1 in
    let c : p.2 ≡ q.2 = nat_cmp-IsAntisymmetric p.2 q.2 (then_first _ _ e2) in
    let d : p.3 ≡ q.3 = pre-anti p.3 q.3 (then_second (nat_cmp p.2 q.2) _ e2) in
    let f : p.4 ≡ q.4 = slice_cmp-IsAntisymmetric nat_cmp-IsAntisymmetric p.4 q.4 (sym (tied_texts p q e) ∙ t) in
    λ i. (a i, b i, c i, d i, f i)

same_version : (a b : VersionValue) → a.parts ≡ b.parts → a.revision ≡ b.revision → a ≡ b
same_version a b p r = λ i. record { parts = p i; revision = r i }

-- a version ties only with itself
pub version_cmp-IsAntisymmetric : (a b : VersionValue) → version_cmp a b ≡ Equal → a ≡ b
version_cmp-IsAntisymmetric a b e =
    let more = then_second (parts_precedence a.parts b.parts) _ e in
    same_version a b
    (same_parts a.parts b.parts (then_first _ _ e) (then_first _ _ more))
    (revision_tied a.revision b.revision
    (then_second (slice_cmp nat_cmp (parts_text a.parts) (parts_text b.parts)) _ more))

pub version_eq-Decides : (a b : VersionValue) → Decides (version_eq a b) (a ≡ b)
version_eq-Decides a b = (
  λ tied. version_cmp-IsAntisymmetric a b ((Equal-is (version_cmp a b)).0 tied),
  λ same. ap (λ v. is_eq (version_cmp v b)) same ∙ ap is_eq (tied_itself version_total b),
)

-- two versions are the same, or they differ
pub same_or_other : (a b : VersionValue) → (a ≡ b) ⊎ (a ≡ b → ⊥)
same_or_other a b = elim (cases_Bool (version_eq a b)) [
  | inl tied ↦ inl ((version_eq-Decides a b).0 tied)
  | inr other ↦ inr (λ same. false≢true (sym other ∙ (version_eq-Decides a b).1 same))
]
