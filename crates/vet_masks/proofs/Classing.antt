-- What the searches of a package say of its versions.
use Rattle.std.proofs.Common.{◌≡◌, ◌↔◌, ◌<◌, ℕ, Bool, true, false, List, [], Option, Some, None, get_or, is_some}
use Rattle.std.proofs.Common.{length}
use Rattle.std.proofs.Common.{unwrap_or, Vec, Global, refl, sym, ap, ◌∙◌, arith, inl, inr}
use Rattle.std.specs.FinSet as set
use Rattle.std.specs.List.{Contains}
use Rattle.std.proofs.lemmas.Bool.{false≢true}
use Rattle.std.proofs.lemmas.List.{get_or-map, get_or_default, length-map}
use Rattle.std.proofs.lemmas.List.Elements.{All-contains}
use Rattle.vet_base.specs.CriteriaSet.{has}
use Rattle.vet_base.specs.declared.criteria_set.CriteriaSet.{CriteriaSet}
use Rattle.vet_base.specs.Version.{VersionValue}
use Rattle.vet_entries.specs.declared.step.Step.{Step}
use Rattle.vet_graph.specs.Chain.{Condemned, HasChain}
use Rattle.vet_graph.specs.Class.{IsConflicting, IsExempted, IsFull, IsPartial}
use Rattle.vet_graph.specs.ClassAt.{class_at}
use Rattle.vet_graph.specs.ClassAtLaws.{class_at-unique}
use Rattle.vet_graph.specs.declared.class.Class.TheVariants.{Exempted, Full, Partial, Unvetted}
use Rattle.vet_masks.specs.declared.classes.PackageClasses.{PackageClasses}
use Rattle.vet_masks.specs.declared.index.Ends.{Ends}
use Rattle.vet_masks.specs.Classes.{AreClasses, AreReached, IsFound, LeadToNone, bars_nothing, exempt_number}
use Rattle.vet_masks.specs.Classes.{held_at, held_by}
use Rattle.vet_masks.specs.Classes.{is_taken_by, is_wanted, takes_each}
use Rattle.vet_masks.specs.Exempt.{exempt_versions, place_in}
use Rattle.vet_masks.specs.Index.{ends_of, no_ends, number_of}
use Rattle.vet_masks.specs.Masks.{no_step}
use Rattle.vet_masks.specs.Rules.{rule_of, skips}
use Rattle.vet_masks.specs.Vouched.{IsVouched}
use Rattle.vet_masks.proofs.ExemptVersions.{exempt-has_place, place-apart, place-at}
use Rattle.vet_masks.proofs.FirstSteps.{ends-reviewed, review-takes, reviewed_from, some-takes, takes_reviewed}
use Rattle.vet_masks.proofs.Indexing.{ends-at, numbers_in, some-is}
use Rattle.vet_masks.proofs.Whole.{leads_last, reached-vouched, vouched-named}

-- what the search at a place reached, as it was found there
pub held-is : (clean : List (Vec CriteriaSet Global)) (i : ℕ) (l : Vec CriteriaSet Global) → i < length clean
    → l ≡ get_or clean i l → held_by clean i ≡ l.items
held-is clean i l low is = get_or-map (λ v. v.items) clean i l [] low ∙ ap (λ v. v.items) (sym is)

module _ (steps : List Step) (condemned : Condemned) (p : PackageClasses) (f : IsFound steps condemned p) where
  abbrev pub number : VersionValue → Option ℕ
  number = exempt_number p.index p.exempt.numbers.items

  abbrev pub versions : List ℕ
  versions = exempt_versions p.index.ends.items

  -- the version of an exempt step has a number
  pub numbered : (s : Step) → Contains steps s → s.exempt ≡ true
      → (n : ℕ) × (number s.target ≡ Some n) × (n < p.exempt.count)
  numbered s k e =
      let numbers = numbers_in p.index in
      let ends = get_or p.index.ends.items k.0 no_ends in
      let is : ends ≡ ends_of numbers s = ends-at steps p.index f.index k.0 k.1 no_ends
      ∙ ap (ends_of numbers) (get_or_default steps k.0 no_step.step s k.1 ∙ k.2) in
      let low : k.0 < length p.index.ends.items =
      omega (arith, k.1, ap length f.index.ends, length-map steps (ends_of numbers)) in
      let n = some-is (place_in ends.target versions) (exempt-has_place [] p.index.ends.items k.0 low
      (ap (λ (x : Ends). x.exempt) is ∙ e)) in (
        n.0,
        f.exempt.numbers (number_of numbers s.target)
            ∙ ap (λ m. place_in m versions) (sym (ap (λ (x : Ends). x.target) is)) ∙ n.1,
        omega (arith, f.exempt.count, (place-at ends.target versions n.0 n.1).0),
      )

  pub place-of : (v : VersionValue) (n : ℕ) → number v ≡ Some n
      → place_in (number_of (numbers_in p.index) v) versions ≡ Some n
  place-of v n e = sym (f.exempt.numbers (number_of (numbers_in p.index) v)) ∙ e

  pub number-low : (v : VersionValue) (n : ℕ) → number v ≡ Some n → n < p.exempt.count
  number-low v n e =
      omega (arith, f.exempt.count, (place-at (number_of (numbers_in p.index) v) versions n (place-of v n e)).0)

  pub number-apart : (v : VersionValue) → is_some (numbers_in p.index v) ≡ true → (s : Step) → Contains steps s
      → (n : ℕ) → number s.target ≡ Some n → number v ≡ Some n → s.target ≡ v
  number-apart v known s k n d e =
      let numbers = numbers_in p.index in
      let same : number_of numbers s.target ≡ number_of numbers v =
      place-apart (number_of numbers s.target) (number_of numbers v) versions n (place-of s.target n d)
      (place-of v n e) in
      let a = some-is (numbers s.target)
      (All-contains (λ t. is_some (numbers t.target) ≡ true) steps s (λ j q l. (f.index.named j q l).target) k) in
      let b = some-is (numbers v) known in
      let one : b.0 ≡ a.0 = sym (ap (λ o. unwrap_or o 0) b.1) ∙ sym same ∙ ap (λ o. unwrap_or o 0) a.1 in
      f.index.numbering.apart s.target v a.0 a.1 (b.1 ∙ ap (λ (x : ℕ). Some x) one)

module _ (steps : List Step) (condemned : Condemned) (p : PackageClasses) (h : AreClasses steps condemned p) where
  module _ (v : VersionValue) (n : ℕ) (known : numbers_in p.index v ≡ Some n) (c : ℕ) where
    exempt-at : get_or p.exempt.numbers.items n None ≡ number steps condemned p h.found v
    exempt-at = ap (λ m. get_or p.exempt.numbers.items m None) (sym (ap (λ o. unwrap_or o 0) known))

    vouched : (i : ℕ) → i < length p.clean.items → (has c (held_at p.clean.items i n) ≡ true)
        ↔ IsVouched steps condemned (is_taken_by (number steps condemned p h.found) (rule_of i)) c v
    vouched i l = reached-vouched steps p.index condemned (is_taken_by (number steps condemned p h.found) (rule_of i))
        (held_by p.clean.items i) h.found.index (h.found.clean i l).reaches v n known c

    pub full-iff : (has c (held_at p.clean.items 0 n) ≡ true) ↔ IsFull steps condemned c v
    full-iff = (
      λ e. (let w = (vouched 0 h.enough.some).0 e in
          (w.0, w.1, w.2, λ k d l. reviewed_from _ true refl (w.3 k d l))),
      λ w. (vouched 0 h.enough.some).1 (w.0, w.1, w.2, λ k d l. takes_reviewed _ true (w.3 k d l)),
    )

    -- some search that is asked reaches the version
    abbrev pub IsReachedBy : Bool → Type 0
    IsReachedBy reviewed = (i : ℕ) × (i < length p.clean.items)
        × (is_wanted reviewed (rule_of i) (get_or p.exempt.numbers.items n None) ≡ true)
        × (has c (held_at p.clean.items i n) ≡ true)

    pub exempted-iff : IsReachedBy false ↔ IsExempted steps condemned c v
    exempted-iff = (
      λ r. (let w = (vouched r.0 r.1).0 r.3 in (w.0, w.1, w.2, tt)),
      λ w. (let t = some-takes steps h.found.starts (number steps condemned p h.found)
          p.exempt.count (length p.clean.items) h.enough (numbered steps condemned p h.found) c v w.0 w.1 in
          (t.0, t.1, refl, (vouched t.0 t.1).1 (w.0, w.1, w.2, t.2))),
    )

    pub partial-iff : IsReachedBy true ↔ IsPartial steps condemned c v
    partial-iff = (
      λ r. (let w = (vouched r.0 r.1).0 r.3 in (
        w.0,
        w.1,
        w.2,
        ends-reviewed steps (number steps condemned p h.found) (rule_of r.0) c v w.0 w.1
            (ap (skips (rule_of r.0)) (sym exempt-at) ∙ r.2) w.3,
      )),
      λ w. (let t = review-takes steps h.found.starts (number steps condemned p h.found)
          p.exempt.count (length p.clean.items) h.enough (numbered steps condemned p h.found) c v
          (number-low steps condemned p h.found v) (number-apart steps condemned p h.found v (ap is_some known)) w.0 w.1
          w.3 in
          (t.0, t.1, ap (skips (rule_of t.0)) exempt-at ∙ t.2, (vouched t.0 t.1).1 (w.0, w.1, w.2, t.3))),
    )

    pub condemned-at : has c (get_or p.condemned.items n set.empty) ≡ condemned c v
    condemned-at = h.found.judged.judged v n c known

    pub chain-iff : (held : Vec CriteriaSet Global) → AreReached steps p.index bars_nothing takes_each held.items
        → (has c (get_or held.items n set.empty) ≡ true) ↔ HasChain steps c v
    chain-iff held r =
        let same =
        reached-vouched steps p.index bars_nothing takes_each held.items h.found.index r.reaches v n known c in (
          λ e. (let w = same.0 e in (w.0, w.1)),
          λ w. same.1 (w.0, w.1, λ k d l. refl, λ k d l. refl),
        )

    pub none-conflicting : LeadToNone condemned steps → ¬ IsConflicting steps condemned c v
    none-conflicting none w = elim (leads_last None w.1.0 v w.1.1.leads) [
      | inl nothing ↦ absurd (cc nothing)
      | inr last ↦ false≢true (sym (All-contains (λ s. (q : ℕ) → condemned q s.target ≡ false) steps last.0 none
          (All-contains (Contains steps) w.1.0 last.0 w.1.1.of_package last.1) c)
          ∙ ap (condemned c) last.2 ∙ w.0)
    ]

    -- what the first search reached at the version, as it was read there
    pub first-at : (l : Vec CriteriaSet Global) → l ≡ get_or p.clean.items 0 l → (s : CriteriaSet)
        → s ≡ get_or l.items n s → has c (held_at p.clean.items 0 n) ≡ has c s
    first-at l is s at =
        let same = held-is p.clean.items 0 l h.enough.some is in
        let low : n < length l.items = omega (
          arith,
          h.found.index.numbering.below v n known,
          (h.found.clean 0 h.enough.some).count,
          ap length same,
        ) in
        ap (has c) (ap (λ hs. get_or hs n set.empty) same ∙ get_or_default l.items n set.empty s low ∙ sym at)

    -- the class, as one question after the other is answered
    module _ (sound : ¬ IsConflicting steps condemned c v) where
      pub class-full : has c (held_at p.clean.items 0 n) ≡ true → Full ≡ class_at steps condemned c v
      class-full e = class_at-unique steps condemned c v Full (sound, full-iff.0 e)

      module _ (first : has c (held_at p.clean.items 0 n) ≡ false) where
        unreviewed : ¬ IsFull steps condemned c v
        unreviewed w = false≢true (sym first ∙ full-iff.1 w)

        pub class-partial : IsReachedBy true → Partial ≡ class_at steps condemned c v
        class-partial r = class_at-unique steps condemned c v Partial (sound, unreviewed, partial-iff.0 r)

        pub class-exempted : ¬ IsReachedBy true → IsReachedBy false → Exempted ≡ class_at steps condemned c v
        class-exempted none r = class_at-unique steps condemned c v Exempted
            (sound, unreviewed, λ w. none (partial-iff.1 w), exempted-iff.0 r)

        pub class-unvetted : ¬ IsReachedBy true → ¬ IsReachedBy false → Unvetted ≡ class_at steps condemned c v
        class-unvetted none nothing = class_at-unique steps condemned c v Unvetted
            (sound, unreviewed, λ w. none (partial-iff.1 w), λ w. nothing (exempted-iff.1 w))

  -- no chain leads to a version that no step names
  pub unnamed-unvetted : (v : VersionValue) → numbers_in p.index v ≡ None → (c : ℕ)
      → Unvetted ≡ class_at steps condemned c v
  unnamed-unvetted v none c = class_at-unique steps condemned c v Unvetted
      (λ w. no_chain (w.1.0, w.1.1), λ w. no_chain (w.0, w.1), λ w. no_chain (w.0, w.1), λ w. no_chain (w.0, w.1))
    where
      no_chain : HasChain steps c v → ⊥
      no_chain w = false≢true (sym (ap is_some none) ∙ vouched-named (numbers_in p.index) (length p.index.after.items)
          h.found.index.numbering steps h.found.index.named bars_nothing takes_each c v
          (w.0, w.1, λ k d l. refl, λ k d l. refl))
