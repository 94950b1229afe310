-- The criteria that some step has, and how many looks these allow.
use Rattle.std.proofs.Common.{◌≡◌, ℕ, zero, suc, ◌+◌, ◌*◌, ◌<◌, ◌≤◌, Bool, true, cond, List, [], ◌∷◌, length, get_or}
use Rattle.std.proofs.Common.{map, refl}
use Rattle.std.proofs.Common.{sym, ap, ◌∙◌, arith}
use Rattle.std.specs.BTreeMap.{get}
use Rattle.std.specs.FinSet as set
use Rattle.std.specs.List.{Contains}
use Rattle.std.proofs.Math.Nat.{mul-add, mul_comm}
use Rattle.std.proofs.lemmas.Bool.{and_parts}
use Rattle.std.proofs.lemmas.List.{get_or-map, length-map}
use Rattle.std.proofs.lemmas.List.Elements.{All-head}
use Rattle.std.proofs.lemmas.List.Folds.{list_any_at}
use Rattle.vet_base.specs.CriteriaSet.{has, Places}
use Rattle.vet_base.specs.VersionOrder.{version_cmp}
use Rattle.vet_base.specs.declared.limits.TheConstants.{MOST_CRITERIA as most}
use Rattle.vet_entries.specs.declared.step.Step.{Step}
use Rattle.vet_graph.specs.Chain.{Condemned}
use Rattle.vet_masks.specs.declared.search.Reached.{Reached}
use Rattle.vet_masks.specs.Index.{Numbers, ends_of, is_used}
use Rattle.vet_masks.specs.Masks.{IsOpenChain, IsSound, Numbered, is_open, numbered, reached, size, spent}
use Rattle.vet_masks.specs.Reached.{IsAnswer, used_below}
use Rattle.vet_masks.proofs.Sizes.{size-le, spent-le}

pub size-used : (n : ℕ) (used : Places) (steps : List Step) → ((c : ℕ) → has c used ≡ is_used steps c)
    → size n used ≡ used_below n steps
unfolding size used_below
size-used zero used steps h = refl
size-used (suc n) used steps h = λ i. size-used n used steps h i + cond (h n i) 1 0

module _ (numbers : Numbers) (steps : List Step) (bar : Condemned) (taken : Step → Bool) where
  has_step : (c v : ℕ) (chain : List Numbered)
      → IsOpenChain (map (numbered numbers) steps) (is_open bar taken c) v chain → is_used steps c ≡ true
  has_step c v [] h = absurd (cc h.leads)
  has_step c v (t ∷ rest) h =
      let k = All-head (Contains (map (numbered numbers) steps)) t rest h.of_package in
      let low : k.0 < length steps = omega (arith, k.1, length-map steps (numbered numbers)) in
      let s = get_or steps k.0 t.step in
      let is : t.step ≡ s = ap (λ (u : Numbered). u.step)
      (sym k.2 ∙ get_or-map (numbered numbers) steps k.0 t.step t low) in
      let has_it = (and_parts _ _ (All-head (λ u. is_open bar taken c u ≡ true) t rest h.each_open)).0 in
      list_any_at (λ u. has c u.criteria) steps k.0 t.step low (sym (ap (λ (u : Step). has c u.criteria) is) ∙ has_it)

  -- what is reached, some step has
  pub reached-used : (held : List Places)
      → ((c : ℕ) → IsSound (map (numbered numbers) steps) (is_open bar taken c) (reached held c))
      → (c v : ℕ) → reached held c v ≡ true → is_used steps c ≡ true
  reached-used held sound c v h = (let k = sound c v h in has_step c v k.0 k.1)

looks_allowed : (s k spent_there : ℕ) → spent_there ≤ k * s → s + spent_there ≤ s * (k + 1)
looks_allowed s k there h = omega (arith, h, mul_comm k s, mul-add s k 1)

-- an answer took at most a look for the index at each step, and one for each criterion
pub looks-bound : (steps : List Step) (bar : Condemned) (taken : Step → Bool) (r : Reached)
    → IsAnswer steps bar taken r → r.looks ≤ length steps * (used_below most steps + 1)
looks-bound steps bar taken r h =
    let k = size most r.index.used in
    let spends : spent k r.held.items r.index.ends.items ≤ k * length r.index.ends.items =
    spent-le k k r.held.items r.index.ends.items (omega arith)
    (λ i. size-le most (get_or r.held.items i set.empty) r.index.used (λ c at. h.index.used c
    ∙ reached-used (get version_cmp r.index.numbers) steps bar taken r.held.items h.reaches.sound c i at)) in
    let long : length r.index.ends.items ≡ length steps =
    ap length h.index.ends ∙ length-map steps (ends_of (get version_cmp r.index.numbers)) in
    rw (← size-used most r.index.used steps h.index.used)
    (omega (arith, h.looks, looks_allowed (length steps) k _ (rw long at spends)))
