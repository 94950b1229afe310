-- What was found for some steps stands for more of them, with other numbers for new versions.
use Rattle.std.proofs.Common.{◌≡◌, ℕ, ◌<◌, ◌&&◌, Bool, true, not, List, length, get_or, map}
use Rattle.std.proofs.Common.{sym, ap, subst, ◌∙◌, arith}
use Rattle.std.specs.List.{All, Contains}
use Rattle.std.proofs.lemmas.List.{get_or-map, length-map}
use Rattle.std.proofs.lemmas.List.Elements.{All-contains, All-weaker, Contains-get_or}
use Rattle.vet_base.specs.CriteriaSet.{has, Places}
use Rattle.vet_entries.specs.declared.step.Step.{Step}
use Rattle.vet_graph.specs.Chain.{Condemned}
use Rattle.vet_graph.specs.ListLaws.{Contains-map}
use Rattle.vet_masks.specs.Index.{IsNamed, Keeps, Numbers}
use Rattle.vet_masks.specs.Masks.{IsDone, IsReaching, IsSound, Numbered, Stands, is_open, no_step, numbered}
use Rattle.vet_masks.specs.Masks.{reached}
use Rattle.vet_masks.specs.Reached.{AreBarredAlike, AreTakenAlike}
use Rattle.vet_masks.proofs.Indexing.{keeps-number, keeps-origin}

-- these are the first of some steps
abbrev pub AreFirst : List Step → List Step → Type 0
AreFirst front steps = (p : ℕ) (d : Step) → p < length front →
    (p < length steps) × (get_or steps p d ≡ get_or front p d)

module _ (front steps : List Step) (first : AreFirst front steps) (old new : Numbers) (keeps : Keeps old new)
    (named : All (IsNamed old) front) (bar other : Condemned) (alike : AreBarredAlike front bar other)
    (taken takes : Step → Bool) (same : AreTakenAlike front taken takes) (held : List Places) where
  numbered-same : (s : Step) → IsNamed old s → numbered old s ≡ numbered new s
  numbered-same s h = λ i. record {
    origin = keeps-origin old new keeps s.origin h.origin i;
    target = sym (keeps-number old new keeps s.target h.target) i;
    step = s;
  }

  at-same : (p : ℕ) → p < length front
      → get_or (map (numbered new) steps) p no_step ≡ get_or (map (numbered old) front) p no_step
  at-same p l =
      let s = get_or front p no_step.step in
      get_or-map (numbered new) steps p no_step.step no_step (first p no_step.step l).0
      ∙ ap (numbered new) (first p no_step.step l).1
      ∙ sym (numbered-same s (named p no_step.step l))
      ∙ sym (get_or-map (numbered old) front p no_step.step no_step l)

  -- a step of the first ones
  of-front : (t : Numbered) → Contains (map (numbered old) front) t
      → (s : Step) × Contains front s × (t ≡ numbered old s)
  of-front t k =
      let low : k.0 < length front = omega (arith, k.1, length-map front (numbered old)) in
      let s = get_or front k.0 t.step in
      let is : t ≡ numbered old s = sym k.2 ∙ get_or-map (numbered old) front k.0 t.step t low in
      (s, Contains-get_or front k.0 t.step low, is)

  carried : (t : Numbered) → Contains (map (numbered old) front) t → Contains (map (numbered new) steps) t
  carried t k =
      let at = of-front t k in
      let in-steps : Contains steps at.0 =
      (at.1.0, (first at.1.0 at.0 at.1.1).0, (first at.1.0 at.0 at.1.1).1 ∙ at.1.2) in
      subst (Contains (map (numbered new) steps))
      (sym (at.2 ∙ numbered-same at.0 (All-contains (IsNamed old) front at.0 named at.1)))
      (Contains-map (numbered new) steps at.0 in-steps)

  open-same : (c : ℕ) (t : Numbered) → Contains (map (numbered old) front) t
      → is_open bar taken c t ≡ is_open other takes c t
  open-same c t k =
      let at = of-front t k in
      let step : t.step ≡ at.0 = ap (λ (u : Numbered). u.step) at.2 in
      let bars : bar c t.step.target ≡ other c t.step.target = subst (λ (s : Step). bar c s.target ≡ other c s.target)
      (sym step) (All-contains (λ s. (q : ℕ) → bar q s.target ≡ other q s.target) front at.0 alike at.1 c) in
      let takes_it : taken t.step ≡ takes t.step = subst (λ (s : Step). taken s ≡ takes s) (sym step)
      (All-contains (λ s. taken s ≡ takes s) front at.0 same at.1) in
      λ i. has c t.step.criteria && (not (bars i) && takes_it i)

  sound-onward : (c : ℕ) → IsSound (map (numbered old) front) (is_open bar taken c) (reached held c)
      → IsSound (map (numbered new) steps) (is_open other takes c) (reached held c)
  sound-onward c h v w =
      let k = h v w in (
        k.0,
        record {
          of_package = All-weaker (Contains (map (numbered old) front)) (Contains (map (numbered new) steps)) carried
              k.0 k.1.of_package;
          each_open = λ i d l. sym (open-same c _ (k.1.of_package i d l)) ∙ k.1.each_open i d l;
          leads = k.1.leads;
          once = k.1.once;
        },
        k.2,
      )

  done-onward : IsDone (map (numbered old) front) (is_open bar taken) held held (length front)
      → IsDone (map (numbered new) steps) (is_open other takes) held held (length front)
  done-onward h c p l st o =
      let t = get_or (map (numbered old) front) p no_step in
      let here = at-same p l in
      let in-front : Contains (map (numbered old) front) t = Contains-get_or (map (numbered old) front) p no_step
      (omega (arith, l, length-map front (numbered old))) in
      ap (λ (u : Numbered). reached held c u.target) here
      ∙ h c p l (subst (λ (u : Numbered). Stands (reached held c) u.origin) here st)
      (open-same c t in-front ∙ subst (λ (u : Numbered). is_open other takes c u ≡ true) here o)

  pub reaches-onward : IsReaching (map (numbered old) front) (is_open bar taken) (length front) held
      → IsReaching (map (numbered new) steps) (is_open other takes) (length front) held
  reaches-onward h = record { sound = λ c. sound-onward c (h.sound c); done = done-onward h.done }
