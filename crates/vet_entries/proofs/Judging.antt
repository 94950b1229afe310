-- What is known while violations judge versions.
use Rattle.std.proofs.Common.{◌≡◌, ◌||◌, ◌<◌, ℕ, zero, suc, cond, Bool, true, false, List, [], ◌∷◌, ◌++◌, Option, Some}
use Rattle.std.proofs.Common.{length, get_or, set as setn, refl, sym, ap, ◌∙◌, arith, inl, inr}
use Rattle.std.specs.Prelude.{◌&&◌}
use Rattle.std.specs.Cmp.Lexicographic.{slice_cmp, texts_ties, bytes_decides}
use Rattle.std.specs.Ordering.{nat_cmp, eq_by_cmp}
use Rattle.std.proofs.lemmas.Bool.{cases_Bool}
use Rattle.std.proofs.lemmas.List.{get_or_append_left, get_or_push, length_push}
use Rattle.vet_base.specs.CriteriaSet.{Places, has}
use Rattle.vet_base.specs.Req.{req_matches}
use Rattle.vet_base.specs.Version.{VersionValue}
use Rattle.vet_base.specs.VersionOrder.{version_eq}
use Rattle.vet_base.specs.VersionOrderLaws.{version_eq-Decides}
use Rattle.vet_entries.specs.declared.condemned.Violation.{Violation}
use Rattle.vet_entries.specs.Condemned.{condemned_by}
use Rattle.vet_entries.specs.Judge.{AreJudged, ArePlaced}

-- one version more is judged
pub judged_more : (violations : List Violation) (old new : VersionValue → Option Places) (v w : VersionValue)
    (found : Places) → AreJudged violations old
    → ((q : VersionValue) → new q ≡ cond (version_eq w q) (Some found) (old q)) → w ≡ v
    → ((c : ℕ) → has c found ≡ condemned_by violations c v) → AreJudged violations new
judged_more violations old new v w found judged updates copy finds q told e c = elim (cases_Bool (version_eq w q)) [
  | inl tied ↦ (let same : w ≡ q = (version_eq-Decides w q).0 tied in
      let is : Some found ≡ Some told = sym (updates q ∙ rw tied refl) ∙ e in
      let one : found ≡ told = cc is in
      ap (has c) (sym one) ∙ finds c ∙ ap (condemned_by violations c) (sym copy ∙ same))
  | inr other ↦ judged q told (sym (updates q ∙ rw other refl) ∙ e) c
]

either_way : (m a b rest : Bool) → ((m && (a || b)) || rest) ≡ (((m && a) || rest) || (m && b))
either_way false a b true = refl
either_way false a b false = refl
either_way true true b rest = refl
either_way true false true true = refl
either_way true false true false = refl
either_way true false false true = refl
either_way true false false false = refl

in_turn : (a b c : Bool) → (a || (b || c)) ≡ ((a || b) || c)
in_turn true b c = refl
in_turn false b c = refl

-- a violation that condemns for more
pub set_condemns : (xs : List Violation) (p : ℕ) (y : Violation) (r : List ℕ) (more : Places) → p < length xs
    → (get_or xs p y).requirement ≡ r → y.requirement ≡ r
    → ((c : ℕ) → has c y.criteria ≡ (has c (get_or xs p y).criteria || has c more))
    → (c : ℕ) (v : VersionValue)
    → condemned_by (setn xs p y) c v ≡ (condemned_by xs c v || (req_matches r v.parts && has c more))
set_condemns [] p y r more low was is adds c v = absurd (omega (arith, low))
set_condemns (x ∷ xs) zero y r more low was is adds c v =
    (λ i. (req_matches (is i) v.parts && adds c i) || condemned_by xs c v)
    ∙ either_way (req_matches r v.parts) (has c x.criteria) (has c more) (condemned_by xs c v)
    ∙ ap (λ s. ((req_matches s v.parts && has c x.criteria) || condemned_by xs c v) ||
    (req_matches r v.parts && has c more)) (sym was)
set_condemns (x ∷ xs) (suc p) y r more low was is adds c v =
    ap (λ b. (req_matches x.requirement v.parts && has c x.criteria) || b)
    (set_condemns xs p y r more (omega (arith, low)) was is adds c v)
    ∙ in_turn (req_matches x.requirement v.parts && has c x.criteria) (condemned_by xs c v)
    (req_matches r v.parts && has c more)

-- one requirement more has its place
pub placed_more : (xs : List Violation) (old new : List ℕ → Option ℕ) (r : List ℕ) (y : Violation) → ArePlaced xs old
    → ((q : List ℕ) → new q ≡ cond (eq_by_cmp (slice_cmp nat_cmp) r q) (Some (length xs)) (old q)) → y.requirement ≡ r
    → ArePlaced (xs ++ y ∷ []) new
placed_more xs old new r y placed updates is q p e = elim (cases_Bool (eq_by_cmp (slice_cmp nat_cmp) r q)) [
  | inl tied ↦ (let same : r ≡ q = (bytes_decides r q).0 (texts_ties r q ∙ tied) in
      let at : Some (length xs) ≡ Some p = sym (updates q ∙ rw tied refl) ∙ e in
      let here : length xs ≡ p = cc at in (
        omega (arith, here, length_push xs y),
        λ d. ap (λ (w : Violation). w.requirement) (get_or_push xs y d p here)
            ∙ is ∙ same,
      ))
  | inr other ↦ (let was = placed q p (sym (updates q ∙ rw other refl) ∙ e) in (
    omega (arith, was.0, length_push xs y),
    λ d. ap (λ (w : Violation). w.requirement)
        (get_or_append_left xs (y ∷ []) d p was.0) ∙ was.1 d,
  ))
]
