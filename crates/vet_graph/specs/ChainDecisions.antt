-- Decisions of the questions about chains (ours), by a look at all lists of the package's steps that are no longer than
-- the number of steps. Each answer comes with its proof, so the types say everything.
use Rattle.std.specs.Prelude.{◌≡◌, ◌≢◌, ℕ, ◌≤◌, true, false, List, [], ◌∷◌, ◌++◌, Option, Some, None, map, length}
use Rattle.std.specs.List.{All, AllPairs, Contains}
use Rattle.std.specs.Cmp.{decided}
use Rattle.std.proofs.Common.{refl, ap, inl, inr}
use Rattle.std.proofs.lemmas.List.{length-map}
use Rattle.std.proofs.lemmas.List.Elements.{All-map, All-weaker, All-contains}
use Rattle.std.proofs.lemmas.Map.Made.{IsDistinct-from_AllPairs, length-le_from_is_member, is_member-Decides}
use Rattle.vet_base.specs.CriteriaSet.{has}
use Rattle.vet_base.specs.Version.{VersionValue}
use Rattle.vet_base.specs.VersionOrder.{version_eq}
use Rattle.vet_base.specs.VersionOrderLaws.{same_or_other, version_eq-Decides}
use Rattle.vet_entries.specs.declared.step.Step.{Step}
use Rattle.vet_graph.specs.Chain.{Condemned, EndsReviewed, HasCleanChain, HasNoExempt, IsChain, IsClean, Leads}
use Rattle.vet_graph.specs.Class.{IsConflicting}
use Rattle.vet_graph.specs.Decisions.{Answer, answer_of_both, all_three, each, each_pair, is_true, lists_up_to}
use Rattle.vet_graph.specs.Decisions.{opposite, same_answer, some}
use Rattle.vet_graph.specs.DecisionsLaws.{All-lists_up_to, Contains-lists_up_to}
use Rattle.vet_graph.specs.ListLaws.{AllPairs-map, Contains-map}

pub same_place : (a b : Option VersionValue) → Answer (a ≡ b)
same_place None None = inl refl
same_place None (Some y) = inr (λ e. cc e)
same_place (Some x) None = inr (λ e. cc e)
same_place (Some x) (Some y) = same_answer (λ e. ap (λ (w : VersionValue). Some w) e) (λ e. cc e) (same_or_other x y)

pub leads : (at : Option VersionValue) (chain : List Step) (v : VersionValue) → Answer (Leads at chain v)
leads at [] v = same_place at (Some v)
leads at (s ∷ rest) v = answer_of_both (same_place s.origin at) (leads (Some s.target) rest v)

-- a chain has no more steps than the package
length-le_from_chain : (steps : List Step) (c : ℕ) (v : VersionValue) (chain : List Step) → IsChain steps c v chain
    → length chain ≤ length steps
length-le_from_chain steps c v chain h =
    let targets : List Step → List VersionValue = λ ss. map (λ s. s.target) ss in
    let among : All (Contains (targets steps)) (targets chain) = All-map (Contains (targets steps))
    (λ s. s.target) chain (All-weaker (Contains steps) (λ s. Contains (targets steps) s.target)
    (λ s. Contains-map (λ t. t.target) steps s) chain h.of_package) in
    rw (length-map, length-map) at
    (length-le_from_is_member (decided version_eq version_eq-Decides) (targets chain) (targets steps)
    (IsDistinct-from_AllPairs version_eq-Decides (targets chain) (AllPairs-map (λ s. s.target) chain h.once))
    (λ q m. (is_member-Decides version_eq-Decides (targets steps) q).1
    (All-contains (Contains (targets steps)) (targets chain) q among
    ((is_member-Decides version_eq-Decides (targets chain) q).0 m))))

-- the conditions on a list of the package's steps
IsChainTest : ℕ → VersionValue → List Step → Type 0
IsChainTest c v chain = All (λ s. has c s.criteria ≡ true) chain × Leads None chain v
    × AllPairs (λ s t. s.target ≢ t.target) chain

-- whether some chain has property P
pub some_chain : (steps : List Step) (c : ℕ) (v : VersionValue) (P : List Step → Type 0)
    → ((chain : List Step) → Answer (P chain)) → Answer ((chain : List Step) × IsChain steps c v chain × P chain)
unfolding IsChainTest
some_chain steps c v P a =
    same_answer
    (λ h. (
      h.0,
      record {
        of_package =
            All-contains (All (Contains steps)) (lists_up_to (length steps) steps) h.0
            (All-lists_up_to (length steps) steps) h.1;
        for_criterion = h.2.0.0;
        leads = h.2.0.1;
        once = h.2.0.2;
      },
      h.2.1,
    ))
    (λ h. (
      h.0,
      Contains-lists_up_to (length steps) steps h.0 (length-le_from_chain steps c v h.0 h.1) h.1.of_package,
      ((h.1.for_criterion, h.1.leads, h.1.once), h.2),
    ))
    (some (λ chain. IsChainTest c v chain × P chain)
    (λ chain. answer_of_both
    (all_three (each (λ s. has c s.criteria ≡ true) (λ s. is_true (has c s.criteria) true) chain)
    (leads None chain v)
    (each_pair (λ s t. s.target ≢ t.target) (λ s t. opposite (same_or_other s.target t.target)) chain)) (a chain))
    (lists_up_to (length steps) steps))

pub conflicting : (steps : List Step) (condemned : Condemned) (c : ℕ) (v : VersionValue)
    → Answer (IsConflicting steps condemned c v)
conflicting steps condemned c v =
    answer_of_both (is_true (condemned c v) true)
    (same_answer (λ h. (h.0, h.1)) (λ h. (h.0, h.1, tt)) (some_chain steps c v (λ _. Unit {0}) (λ _. inl tt)))

pub some_clean_chain : (steps : List Step) (condemned : Condemned) (c : ℕ) (v : VersionValue) (P : List Step → Type 0)
    → ((chain : List Step) → Answer (P chain)) → Answer (HasCleanChain steps condemned c v P)
some_clean_chain steps condemned c v P a =
    same_answer (λ h. (h.0, h.1, h.2.0, h.2.1)) (λ h. (h.0, h.1, (h.2, h.3)))
    (some_chain steps c v (λ chain. IsClean condemned c chain × P chain)
    (λ chain. answer_of_both
    (each (λ s. condemned c s.target ≡ false) (λ s. is_true (condemned c s.target) false) chain)
    (a chain)))

cons_injective : {X : Type 0} (x y : X) (xs ys : List X) → x ∷ xs ≡ y ∷ ys → (x ≡ y) × (xs ≡ ys)
cons_injective x y xs ys e = (cc e, cc e)

not_nil : (front : List Step) (s : Step) → [] ≡ front ++ s ∷ [] → ⊥
not_nil [] s e = cc e
not_nil (t ∷ front) s e = cc e

-- the last step of a list of one is that step
pub one_last : (s : Step) (front : List Step) (t : Step) → s ∷ [] ≡ front ++ t ∷ [] → t.exempt ≡ false
    → s.exempt ≡ false
one_last s [] t e h = rw (cons_injective _ _ _ _ e).0 h
one_last s (u ∷ front) t e h = absurd (not_nil front t (cons_injective _ _ _ _ e).1)

later_last : (s t : Step) (rest front : List Step) (u : Step) → s ∷ t ∷ rest ≡ front ++ u ∷ [] → u.exempt ≡ false
    → EndsReviewed (t ∷ rest)
later_last s t rest [] u e h = (let r = (cons_injective _ _ _ _ e).1 in cc r)
later_last s t rest (w ∷ front) u e h = (front, u, (cons_injective _ _ _ _ e).1, h)

pub no_exempt : (chain : List Step) → Answer (HasNoExempt chain)
no_exempt chain = each (λ s. s.exempt ≡ false) (λ s. is_true s.exempt false) chain

pub ends_reviewed : (chain : List Step) → Answer (EndsReviewed chain)
ends_reviewed [] = inr (λ h. not_nil h.0 h.1 h.2)
ends_reviewed (s ∷ []) = same_answer (λ e. ([], s, refl, e)) (λ h. one_last s h.0 h.1 h.2 h.3) (is_true s.exempt false)
ends_reviewed (s ∷ t ∷ rest) = same_answer (λ h. (s ∷ h.0, h.1, ap (λ l. s ∷ l) h.2, h.3))
    (λ h. later_last s t rest h.0 h.1 h.2 h.3) (ends_reviewed (t ∷ rest))
