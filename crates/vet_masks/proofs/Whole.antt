-- What a finished search has reached.
use Rattle.std.proofs.Common.{◌≡◌, ◌≢◌, ◌⊎◌, ℕ, ◌<◌, ◌↔◌, Bool, true, false, List, [], ◌∷◌, ◌++◌}
use Rattle.std.proofs.Common.{Option, Some, None, option_map, unwrap_or, is_some, length, replicate, get_or, map, refl}
use Rattle.std.proofs.Common.{sym, ap}
use Rattle.std.proofs.Common.{subst, ◌∙◌, arith, inl, inr}
use Rattle.std.specs.BTreeMap.{get}
use Rattle.std.specs.List.{All, AllPairs, Contains}
use Rattle.std.specs.FinSet as set
use Rattle.std.specs.Ordering.{nat_cmp}
use Rattle.std.proofs.lemmas.Bool.{cases_lt, false≢true, and_parts, and_from, not-true, not_from_false}
use Rattle.std.proofs.lemmas.List.{get_or_default, get_or-map, get_or_past, length-map}
use Rattle.std.proofs.lemmas.List.Elements.{All-head, All-tail, All-map, All-weaker, All-contains}
use Rattle.vet_base.proofs.ListLemmas.{Contains-here, Contains-later}
use Rattle.vet_base.specs.CriteriaSet.{has, Places}
use Rattle.vet_base.specs.Version.{VersionValue}
use Rattle.vet_base.specs.VersionOrder.{version_cmp}
use Rattle.vet_entries.specs.declared.step.Step.{Step}
use Rattle.vet_graph.specs.Chain.{Condemned, IsChain}
use Rattle.vet_graph.specs.Chain as chains
use Rattle.vet_graph.specs.ListLaws.{Contains-map}
use Rattle.vet_graph.proofs.Reach.{AllPairs-mapped}
use Rattle.vet_masks.specs.declared.index.Index.{Index}
use Rattle.vet_masks.specs.Index.{IsIndex, IsNamed, IsNumbering, Numbers, number_of}
use Rattle.vet_masks.specs.Masks.{IsDone, IsOpenChain, IsReaching, Leads, Numbered, Open, Stands, is_open, no_step}
use Rattle.vet_masks.specs.Masks.{numbered, numbered_by, reached}
use Rattle.vet_masks.specs.Vouched.{IsVouched}
use Rattle.vet_masks.proofs.Copies.{get_or-filled}
use Rattle.vet_masks.proofs.Indexing.{some-is}
use Rattle.vet_masks.proofs.Sounds.{walk_ends}

-- empty sets behind the others change nothing
pub reached-filled : (held : List Places) (k c v : ℕ) → reached (held ++ replicate k set.empty) c v ≡ reached held c v
reached-filled held k c v = ap (has c) (get_or-filled set.empty held k v)

-- a version past the end is not reached
pub below : (held : List Places) (c v : ℕ) → reached held c v ≡ true → v < length held
below held c v h = elim (cases_lt v (length held)) [
  | inl low ↦ low
  | inr high ↦ absurd (false≢true (sym (ap (has c) (get_or_past held v set.empty high)
      ∙ set.contains-empty nat_cmp c) ∙ h))
]

-- ---- between numbered steps

module _ (steps : List Numbered) (open_step : Open) (held : List Places)
    (done : IsDone steps open_step held held (length steps)) where
  closed : (c : ℕ) (at : Option ℕ) → Stands (reached held c) at → (s : Numbered) → Contains steps s
      → open_step c s ≡ true → s.origin ≡ at → reached held c s.target ≡ true
  closed c at st s k o e =
      let same : get_or steps k.0 no_step ≡ s = get_or_default steps k.0 no_step s k.1 ∙ k.2 in
      rw same at (done c k.0 k.1
      (subst (Stands (reached held c)) (sym (ap (λ (t : Numbered). t.origin) same ∙ e)) st)
      (ap (open_step c) same ∙ o))

  -- where a walk of open steps leads, there it is reached
  pub walked : (c n : ℕ) (chain : List Numbered) → Leads None chain n → All (Contains steps) chain
      → All (λ s. open_step c s ≡ true) chain → reached held c n ≡ true
  walked c n chain l h o = walk_ends steps (open_step c) (reached held c) (closed c) None chain n tt l h o

-- ---- between versions

-- the steps of a chain lead to its version
pub leads_last : (at : Option VersionValue) (chain : List Step) (v : VersionValue) → chains.Leads at chain v
    → (at ≡ Some v) ⊎ ((s : Step) × Contains chain s × (s.target ≡ v))
leads_last at [] v l = inl l
leads_last at (s ∷ rest) v l = elim (leads_last (Some s.target) rest v l.1) [
  | inl here ↦ inr (s, Contains-here s rest, cc here)
  | inr more ↦ inr (more.0, Contains-later s more.0 rest more.1, more.2)
]

module _ (numbers : Numbers) (m : ℕ) (numbering : IsNumbering numbers m) (steps : List Step)
    (named : All (IsNamed numbers) steps) where
  -- a version with a number has the one that stands for it
  number-is : (v : VersionValue) (n : ℕ) → numbers v ≡ Some n → number_of numbers v ≡ n
  number-is v n e = ap (λ o. unwrap_or o 0) e

  -- two versions with one number are one
  same-version : (v w : VersionValue) → is_some (numbers v) ≡ true → is_some (numbers w) ≡ true
      → number_of numbers v ≡ number_of numbers w → v ≡ w
  same-version v w h k e =
      let a = some-is (numbers v) h in
      let b = some-is (numbers w) k in
      let same : a.0 ≡ b.0 = sym (number-is v a.0 a.1) ∙ e ∙ number-is w b.0 b.1 in
      numbering.apart v w a.0 a.1 (b.1 ∙ ap (λ (n : ℕ). Some n) (sym same))

  same-origin : (o at : Option VersionValue) → ((v : VersionValue) → o ≡ Some v → is_some (numbers v) ≡ true)
      → ((v : VersionValue) → at ≡ Some v → is_some (numbers v) ≡ true)
      → option_map (number_of numbers) o ≡ option_map (number_of numbers) at → o ≡ at
  same-origin None None h k e = refl
  same-origin None (Some w) h k e = absurd (cc e)
  same-origin (Some v) None h k e = absurd (cc e)
  same-origin (Some v) (Some w) h k e =
      ap (λ (x : VersionValue). Some x) (same-version v w (h v refl) (k w refl) (cc e))

  -- what is told of a numbered step
  abbrev IsOf : Numbered → Type 0
  IsOf t = (t ≡ numbered numbers t.step) × Contains steps t.step × IsNamed numbers t.step

  is-of : (t : Numbered) → Contains (map (numbered numbers) steps) t → IsOf t
  is-of t k =
      let low : k.0 < length steps = omega (arith, k.1, length-map steps (numbered numbers)) in
      let s = get_or steps k.0 t.step in
      let same : t ≡ numbered numbers s = sym k.2 ∙ get_or-map (numbered numbers) steps k.0 t.step t low in
      let step : t.step ≡ s = ap (λ (u : Numbered). u.step) same in (
        same ∙ ap (numbered numbers) (sym step),
        (k.0, low, sym step),
        subst (IsNamed numbers) (sym step) (named k.0 t.step low),
      )

  leads-numbered : (at : Option VersionValue) (chain : List Step) (v : VersionValue) → chains.Leads at chain v
      → Leads (option_map (number_of numbers) at) (map (numbered numbers) chain) (number_of numbers v)
  leads-numbered at [] v l = ap (option_map (number_of numbers)) l
  leads-numbered at (s ∷ rest) v l =
      (ap (option_map (number_of numbers)) l.0, leads-numbered (Some s.target) rest v l.1)

  leads-back : (at : Option VersionValue) → ((w : VersionValue) → at ≡ Some w → is_some (numbers w) ≡ true)
      → (chain : List Numbered) (v : VersionValue) → is_some (numbers v) ≡ true → All IsOf chain
      → Leads (option_map (number_of numbers) at) chain (number_of numbers v)
      → chains.Leads at (map (λ t. t.step) chain) v
  leads-back at h [] v k are l = same-origin at (Some v) h
      (λ w e. subst (λ (x : VersionValue). is_some (numbers x) ≡ true)
      (cc e) k) l
  leads-back at h (t ∷ rest) v k are l =
      let of : IsOf t = All-head IsOf t rest are in
      let origin : t.origin ≡ option_map (number_of numbers) t.step.origin = ap (λ (u : Numbered). u.origin) of.0 in
      let target : t.target ≡ number_of numbers t.step.target = ap (λ (u : Numbered). u.target) of.0 in (
        same-origin t.step.origin at of.2.origin h (sym origin ∙ l.0),
        leads-back (Some t.step.target)
            (λ w e. subst (λ (x : VersionValue). is_some (numbers x) ≡ true) (cc e) of.2.target) rest v k
            (All-tail IsOf t rest are)
            (subst (λ n. Leads (Some n) rest (number_of numbers v)) target l.1),
      )

  module _ (bar : Condemned) (taken : Step → Bool) (c : ℕ) where
    open_parts : (t : Numbered) → is_open bar taken c t ≡ true
        → (has c t.step.criteria ≡ true) × ((bar c t.step.target ≡ false) × (taken t.step ≡ true))
    open_parts t e = (let a = and_parts _ _ e in let b = and_parts _ _ a.1 in (a.0, (not-true _ b.0, b.1)))

    -- an open chain of numbered steps is one between versions
    pub vouched-from_open : (v : VersionValue) → is_some (numbers v) ≡ true → (chain : List Numbered)
        → IsOpenChain (map (numbered numbers) steps) (is_open bar taken c) (number_of numbers v) chain
        → IsVouched steps bar taken c v
    vouched-from_open v k chain h =
        let are : All IsOf chain = All-weaker (Contains (map (numbered numbers) steps)) IsOf is-of chain h.of_package in
        let open_step = is_open bar taken c in (
          map (λ t. t.step) chain,
          record {
            of_package = All-map (Contains steps) (λ t. t.step) chain
                (All-weaker IsOf (λ t. Contains steps t.step) (λ t of. of.1) chain are);
            for_criterion = All-map (λ s. has c s.criteria ≡ true) (λ t. t.step) chain
                (All-weaker (λ t. open_step t ≡ true) (λ t. has c t.step.criteria ≡ true) (λ t e. (open_parts t e).0)
                chain h.each_open);
            leads = leads-back None (λ w e. absurd (cc e)) chain v k are h.leads;
            once = AllPairs-mapped (λ s t. s.target ≢ t.target) (λ t. t.step) chain (apart chain are h.once);
          },
          All-map (λ s. bar c s.target ≡ false) (λ t. t.step) chain
              (All-weaker (λ t. open_step t ≡ true) (λ t. bar c t.step.target ≡ false) (λ t e. (open_parts t e).1.0)
              chain h.each_open),
          All-map (λ s. taken s ≡ true) (λ t. t.step) chain
              (All-weaker (λ t. open_step t ≡ true) (λ t. taken t.step ≡ true) (λ t e. (open_parts t e).1.1)
              chain h.each_open),
        )
      where
        apart : (chain : List Numbered) → All IsOf chain → AllPairs (λ s t. s.target ≢ t.target) chain
            → AllPairs (λ s t. s.step.target ≢ t.step.target) chain
        apart chain are once i j d l k e =
            once i j d l k (ap (λ (u : Numbered). u.target) (are i d (omega (arith, l, k))).0
            ∙ ap (number_of numbers) e ∙ sym (ap (λ (u : Numbered). u.target) (are j d k).0))

    -- a chain between versions is one of open numbered steps
    pub walk-from_vouched : (v : VersionValue) (h : IsVouched steps bar taken c v)
        → Leads None (map (numbered numbers) h.0) (number_of numbers v)
        × (All (Contains (map (numbered numbers) steps)) (map (numbered numbers) h.0)
        × All (λ t. is_open bar taken c t ≡ true) (map (numbered numbers) h.0))
    walk-from_vouched v h = (
      leads-numbered None h.0 v h.1.leads,
      (
        All-map (Contains (map (numbered numbers) steps)) (numbered numbers) h.0
            (All-weaker (Contains steps) (λ s. Contains (map (numbered numbers) steps) (numbered numbers s))
            (λ s. Contains-map (numbered numbers) steps s) h.0 h.1.of_package),
        All-map (λ t. is_open bar taken c t ≡ true) (numbered numbers) h.0
            (λ k d l. and_from _ _ (h.1.for_criterion k d l)
            (and_from _ _ (not_from_false _ (h.2 k d l)) (h.3 k d l))),
      ),
    )

    -- a version to which a chain leads has a number
    pub vouched-named : (v : VersionValue) → IsVouched steps bar taken c v → is_some (numbers v) ≡ true
    vouched-named v h = elim (leads_last None h.0 v h.1.leads) [
      | inl none ↦ absurd (cc none)
      | inr last ↦ subst (λ (x : VersionValue). is_some (numbers x) ≡ true) last.2
          (All-contains (IsNamed numbers) steps last.0 named
          (All-contains (Contains steps) h.0 last.0 h.1.of_package last.1)).target
    ]

-- a version is reached just where a chain vouches for it
pub reached-vouched : (steps : List Step) (index : Index) (bar : Condemned) (taken : Step → Bool) (held : List Places)
    → IsIndex steps index → IsReaching (numbered_by index steps) (is_open bar taken) (length steps) held
    → (v : VersionValue) (n : ℕ) → get version_cmp index.numbers v ≡ Some n → (c : ℕ)
    → (reached held c n ≡ true) ↔ IsVouched steps bar taken c v
reached-vouched steps index bar taken held h r v n known c =
    let numbers = get version_cmp index.numbers in
    let m = length index.after.items in
    let is : number_of numbers v ≡ n = ap (λ o. unwrap_or o 0) known in (
      λ e. (let k = r.sound c n e in
          vouched-from_open numbers m h.numbering steps h.named bar taken c v (ap is_some known) k.0
          (subst (λ j. IsOpenChain (map (numbered numbers) steps) (is_open bar taken c) j k.0) (sym is) k.1)),
      λ w. (let walk = walk-from_vouched numbers m h.numbering steps h.named bar taken c v w in
          subst (λ j. reached held c j ≡ true) is
          (walked (map (numbered numbers) steps) (is_open bar taken) held
          (subst (IsDone (map (numbered numbers) steps) (is_open bar taken) held held)
          (sym (length-map steps (numbered numbers))) r.done) c
          (number_of numbers v) (map (numbered numbers) w.0) walk.0
          walk.1.0 walk.1.1)),
    )
