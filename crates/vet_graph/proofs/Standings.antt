-- The standing of a demand, pair by pair, and what no steps give.
use Rattle.std.proofs.Common.{◌≡◌, ℕ, Bool, true, false, cond, inl, inr, List, [], ◌∷◌, Option, Some, None, refl, sym}
use Rattle.std.proofs.Common.{ap, ◌∙◌, ◌<◌, ◌+◌, ◌++◌, length, take, get_or, arith}
use Rattle.std.specs.Prelude.{MatchOption}
use Rattle.std.specs.List.{Contains}
use Rattle.std.specs.Option.{option_map_or}
use Rattle.std.proofs.lemmas.List.{map-append, take_more}
use Rattle.std.proofs.lemmas.List.Elements.{All-head}
use Rattle.vet_base.specs.Version.{VersionValue}
use Rattle.vet_demand.specs.declared.pair.Pair.{Pair}
use Rattle.vet_entries.specs.declared.step.Step.{Step}
use Rattle.vet_entries.specs.Facts.{Facts, no_facts}
use Rattle.vet_graph.specs.declared.class.Class.TheVariants.{Unvetted}
use Rattle.vet_graph.specs.Chain.{Condemned, IsChain}
use Rattle.vet_graph.specs.ClassAt.{class_at}
use Rattle.vet_graph.specs.ClassAtLaws.{class_at-is, class_at-unique}
use Rattle.vet_graph.specs.Class.{IsClass, IsClassOfPair}
use Rattle.vet_base.proofs.ListLemmas.{Contains-cons_cases, Contains-here, Contains-later}
use Rattle.std.proofs.lemmas.Bool.{false≢true}
use Rattle.vet_graph.specs.declared.class.Class.{Class}
use Rattle.vet_demand.specs.Pair.{IsInOrder, pair_eq}
use Rattle.vet_demand.specs.PairLaws.{pair_eq-Decides}
use Rattle.vet_graph.specs.Standing.{IsStanding, class_in, pairs_of}
use Rattle.vet_graph.specs.PackageSteps.{AreStepsOf}
use Rattle.vet_graph.specs.declared.package_steps.PackageSteps.{PackageSteps}
use Rattle.vet_graph.specs.StandingOf.{PairClassHolds, PairClassIsOnly, PairsStandAtTheirClass, class_of_pair}
use Rattle.vet_graph.specs.StandingOf.{condemned_of, standing_of}
use Rattle.vet_entries.specs.Condemned.{ViolationsCondemn, condemned_by, violations_of}
use Rattle.vet_graph.specs.declared.guarded.GuardedStep.{GuardedStep}
use Rattle.vet_graph.specs.Search.{steps_in}
use Rattle.vet_base.specs.Criteria.{place_of}
use Rattle.vet_entries.specs.Step.{steps_of}

no_chain : (c : ℕ) (v : VersionValue) (chain : List Step) → IsChain [] c v chain → ⊥
no_chain c v [] h = (let l = h.leads in cc l)
no_chain c v (s ∷ rest) h =
    (let among : Contains [] s = All-head (Contains []) s rest h.of_package in omega (arith, among.1))

-- no steps, no class but the last
unvetted : (condemned : Condemned) (c : ℕ) (v : VersionValue) → class_at [] condemned c v ≡ Unvetted
unvetted condemned c v =
    sym (class_at-unique [] condemned c v Unvetted (
      (λ h. no_chain c v h.1.0 h.1.1),
      (λ h. no_chain c v h.0 h.1),
      (λ h. no_chain c v h.0 h.1),
      (λ h. no_chain c v h.0 h.1),
    ))

unvetted_by : (condemned : Condemned) (place : Option ℕ) (v : VersionValue)
    → option_map_or (λ c. class_at [] condemned c v) place Unvetted ≡ Unvetted
unvetted_by condemned None v = refl
unvetted_by condemned (Some c) v = unvetted condemned c v

-- a class by a place is that of the definition, and no other is
class_by-is : (steps : List Step) (condemned : Condemned) (place : Option ℕ) (v : VersionValue)
    → MatchOption place (option_map_or (λ c. class_at steps condemned c v) place Unvetted ≡ Unvetted)
    (λ c. IsClass steps condemned c v (option_map_or (λ c. class_at steps condemned c v) place Unvetted))
class_by-is steps condemned None v = refl
class_by-is steps condemned (Some c) v = class_at-is steps condemned c v

class_by-unique : (steps : List Step) (condemned : Condemned) (place : Option ℕ) (v : VersionValue) (k : Class)
    → MatchOption place (k ≡ Unvetted) (λ c. IsClass steps condemned c v k)
    → k ≡ option_map_or (λ c. class_at steps condemned c v) place Unvetted
class_by-unique steps condemned None v k h = h
class_by-unique steps condemned (Some c) v k h = class_at-unique steps condemned c v k h

pub pair_class_holds : PairClassHolds
pair_class_holds facts p = class_by-is (steps_of facts p.«package») (condemned_of facts p.«package»)
    (place_of facts.criteria p.criterion) p.version

pub pair_class_is_only : PairClassIsOnly
pair_class_is_only facts p k = class_by-unique (steps_of facts p.«package») (condemned_of facts p.«package»)
    (place_of facts.criteria p.criterion) p.version k

-- the class at which a pair stands, where the pairs after the first have it as they should
stands_next : (facts : Facts) (q : Pair) (demand : List Pair) (p : Pair) (b : Bool) → pair_eq q p ≡ b
    → (rest : Option Class)
    → MatchOption rest (Contains demand p → ⊥) (λ class. Contains demand p × IsClassOfPair facts p class)
    → MatchOption (cond b (Some (class_of_pair facts q)) rest) (Contains (q ∷ demand) p → ⊥)
    (λ class. Contains (q ∷ demand) p × IsClassOfPair facts p class)
stands_next facts q demand p true e rest h =
    let same : q ≡ p = (pair_eq-Decides q p).0 e in
    rw same (Contains-here p demand, pair_class_holds facts p)
stands_next facts q demand p false e None h =
    λ within. elim
    (Contains-cons_cases q demand p within) [
      | inl same ↦ false≢true
          (sym e ∙ (pair_eq-Decides q p).1 same)
      | inr later ↦ h later
    ]
stands_next facts q demand p false e (Some class) h = (Contains-later q p demand h.0, h.1)

pub pairs_stand_at_their_class : PairsStandAtTheirClass
pairs_stand_at_their_class facts [] p = λ within. absurd (omega (arith, within.1))
pairs_stand_at_their_class facts (q ∷ demand) p =
    stands_next facts q demand p (pair_eq q p) refl (class_in (standing_of facts demand) p)
    (pairs_stand_at_their_class facts demand p)

pub none_is_vetted : (p : Pair) → class_of_pair no_facts p ≡ Unvetted
none_is_vetted p = unvetted_by (condemned_of no_facts p.«package») _ p.version

same_pairs : (facts : Facts) (demand : List Pair) → pairs_of (standing_of facts demand) ≡ demand
same_pairs facts [] = refl
same_pairs facts (p ∷ demand) = ap (λ ps. p ∷ ps) (same_pairs facts demand)

-- the standing of a demand in order is in order
pub standing_in_order : (facts : Facts) (demand : List Pair) → IsInOrder demand → IsStanding (standing_of facts demand)
standing_in_order facts demand h = rw (same_pairs facts demand) h

-- the standing of one pair more
pub standing_push : (facts : Facts) (demand : List Pair) (i : ℕ) (p : Pair) → i < length demand → get_or demand i p ≡ p
    → standing_of facts (take (i + 1) demand) ≡ standing_of facts (take i demand) ++ (record {
      pair =
          p;
      class = class_of_pair facts p;
    }) ∷ []
standing_push facts demand i p l at =
    ap (standing_of facts) (take_more demand i p l ∙ ap (λ q. take i demand ++ q ∷ []) at)
    ∙ map-append (λ q. record { pair = q; class = class_of_pair facts q }) (take i demand) (p ∷ [])

-- the class of a pair whose criterion has a place
pub class_by_place : ViolationsCondemn → (facts : Facts) (p : Pair) (held : PackageSteps) (c : ℕ)
    → AreStepsOf facts p.«package» held → Some c ≡ place_of facts.criteria p.criterion
    → class_at (steps_in held.steps) (condemned_by held.violations.items) c p.version ≡ class_of_pair facts p
class_by_place law facts p held c h found =
    let violations = held.violations.items in
    let same : ◌≡◌ {A = Condemned} (condemned_by (violations_of facts p.«package»))
    (condemned_of facts p.«package») = λ i e v. law facts p.«package» e v i in
    ap (λ steps. class_at steps (condemned_by violations) c p.version) h.steps
    ∙ ap (λ vs. class_at (steps_of facts p.«package») (condemned_by vs) c p.version) h.violations
    ∙ ap (λ (condemned : Condemned). class_at (steps_of facts p.«package») condemned c p.version) same
    ∙ ap (λ place. option_map_or
    (λ e. class_at (steps_of facts p.«package») (condemned_of facts p.«package») e p.version) place Unvetted) found

-- one guarded step more is one step more
pub steps_push : (guarded : List GuardedStep) (steps : List Step) (g : GuardedStep) → steps_in guarded ≡ steps
    → steps_in (guarded ++ g ∷ []) ≡ steps ++ g.step ∷ []
steps_push guarded steps g h = map-append (λ (x : GuardedStep). x.step) guarded (g ∷ []) ∙ ap (λ l. l ++ g.step ∷ []) h
