-- What was passed on so far leads into what was reached.
use Rattle.std.proofs.Common.{◌≡◌, ◌⊎◌, ◌+◌, ◌<◌, ◌≤◌, ℕ, Bool, true, false, List, [], Option, Some, None, length}
use Rattle.std.proofs.Common.{get_or, set as setn}
use Rattle.std.proofs.Common.{refl, sym, ap, ◌∙◌, subst, arith, inl, inr}
use Rattle.std.specs.BTreeMap.{get}
use Rattle.std.specs.FinSet as set
use Rattle.std.specs.List.{All, Contains}
use Rattle.std.specs.Ordering.{nat_cmp}
use Rattle.std.proofs.lemmas.Bool.{cases_eq, cases_lt, and_parts, false≢true}
use Rattle.std.proofs.lemmas.List.{get_or-set_same, get_or-set_other, length-map}
use Rattle.std.proofs.lemmas.List.Elements.{All-contains, Contains-get_or}
use Rattle.std.proofs.lemmas.List.Folds.{list_any_at}
use Rattle.vet_base.specs.CriteriaSet.{has, Places}
use Rattle.vet_base.specs.VersionOrder.{version_cmp}
use Rattle.vet_base.specs.declared.limits.TheConstants.{MOST_CRITERIA as most}
use Rattle.vet_demand.specs.Spread.{lists_in}
use Rattle.vet_entries.specs.declared.step.Step.{Step}
use Rattle.vet_graph.specs.Chain.{Condemned}
use Rattle.vet_masks.specs.declared.index.Index.{Index}
use Rattle.vet_masks.specs.Index.{IsIndex, ends_of, places_from}
use Rattle.vet_masks.specs.Masks.{AreReady, Grows, IsDone, LeadsOn, Numbered, Open, Stands, given_by, is_open, no_step}
use Rattle.vet_masks.specs.Masks.{numbered, numbered_by, origin_at, paid, reached, size}
use Rattle.vet_masks.proofs.Indexing.{numbered-at, origin-same, places-has, places-in, step_at}
use Rattle.vet_masks.proofs.Sizes.{size-lt}

pub paid-given : (used : Places) (passed : List Places) (o : Option ℕ)
    → paid (size most used) passed o ≡ size most (given_by used passed o)
paid-given used passed None = refl
paid-given used passed (Some n) = refl

-- where something is given, a look is paid
pub paid-some : (used : Places) (passed : List Places) (o : Option ℕ) (c : ℕ) → c < most
    → has c (given_by used passed o) ≡ true → has c set.empty ≡ false → 1 ≤ paid (size most used) passed o
paid-some used passed o c l h none = omega (
  arith,
  paid-given used passed o,
  size-lt most c set.empty (given_by used passed o) l none h (λ q e. absurd (false≢true (sym (nothing q) ∙ e))),
)
  where
    nothing : (q : ℕ) → has q set.empty ≡ false
    nothing q = set.contains-empty nat_cmp q

given-has : (used : Places) (passed : List Places) (c : ℕ) (o : Option ℕ) → Stands (reached passed c) o
    → has c used ≡ true → has c (given_by used passed o) ≡ true
given-has used passed c None st u = u
given-has used passed c (Some n) st u = st

-- what is given is held where one stands
pub stands-given : (used : Places) (passed held : List Places) → Grows passed held → (o : Option ℕ) (c : ℕ)
    → has c (given_by used passed o) ≡ true → Stands (reached held c) o
stands-given used passed held grows None c h = tt
stands-given used passed held grows (Some n) c h = grows c n h

module _ (steps : List Numbered) (open_step : Open) (held passed : List Places) where
  -- one step more
  pub done-next : (used : Places) (n : ℕ) → IsDone steps open_step held passed n
      → ((c : ℕ) → open_step c (get_or steps n no_step) ≡ true → has c used ≡ true)
      → ((c : ℕ) → has c (given_by used passed (origin_at steps n)) ≡ true → LeadsOn steps open_step held c n)
      → IsDone steps open_step held passed (n + 1)
  done-next used n done in_use leads c p l st o = elim (cases_lt p n) [
    | inl low ↦ done c p low st o
    | inr high ↦ (let same : p ≡ n = omega (arith, l, high) in
        let open_there : open_step c (get_or steps n no_step) ≡ true = rw same at o in
        let stands : Stands (reached passed c) (origin_at steps n) =
        subst (λ k. Stands (reached passed c) (origin_at steps k)) same st in
        rw same (leads c (given-has used passed c (origin_at steps n) stands (in_use c open_there)) open_there))
  ]

  -- what leads into what was reached leads into more
  pub done-grows : (more : List Places) (n : ℕ) → Grows held more → IsDone steps open_step held passed n
      → IsDone steps open_step more passed n
  done-grows more n grows done c p l st o = grows c _ (done c p l st o)

  -- where a version has passed on all that it holds
  pub done-passed : (more : List Places) (from : ℕ) (now : Places) (places : List ℕ) → from < length passed
      → Grows held more → IsDone steps open_step held passed (length steps)
      → ((p : ℕ) → p < length steps → origin_at steps p ≡ Some from → Contains places p)
      → ((c : ℕ) → has c now ≡ true → (has c (get_or passed from set.empty) ≡ true)
      ⊎ All (LeadsOn steps open_step more c) places)
      → IsDone steps open_step more (setn passed from now) (length steps)
  done-passed more from now places low grows done filed each c p l st o = by (origin_at steps p) refl
    where
      by : (at : Option ℕ) → origin_at steps p ≡ at → reached more c (get_or steps p no_step).target ≡ true
      by None is = grows c _ (done c p l (subst (Stands (reached passed c)) (sym is) tt) o)
      by (Some m) is = elim (cases_eq m from) [
        | inl same ↦ (let holds : has c now ≡ true = sym (ap (has c) (get_or-set_same passed from now set.empty low))
            ∙ subst (λ k. reached (setn passed from now) c k ≡ true) same
            (subst (Stands (reached (setn passed from now) c)) is st) in
            elim (each c holds) [
              | inl before ↦ grows c _ (done c p l (subst (Stands (reached passed c)) (sym is)
                  (subst (λ k. reached passed c k ≡ true) (sym same) before)) o)
              | inr leads ↦ All-contains (LeadsOn steps open_step more c) places p leads
                  (filed p l (is ∙ ap (λ (k : ℕ). Some k) same)) o
            ])
        | inr other ↦ grows c _ (done c p l (subst (Stands (reached passed c)) (sym is)
            (sym (ap (has c) (get_or-set_other passed from m now set.empty other))
            ∙ subst (Stands (reached (setn passed from now) c)) is st)) o)
      ]

module _ (steps : List Step) (index : Index) (h : IsIndex steps index) where
  -- a step that is open for a criterion has it
  pub open-used : (bar : Condemned) (taken : Step → Bool) (p : ℕ) → p < length steps → (c : ℕ)
      → is_open bar taken c (get_or (numbered_by index steps) p no_step) ≡ true → has c index.used ≡ true
  open-used bar taken p l c o =
      let s = step_at steps index h p l in
      let has_it : has c s.criteria ≡ true = sym (ap (λ (t : Numbered). has c t.step.criteria)
      (numbered-at steps index h p l no_step)) ∙ (and_parts _ _ o).0 in
      h.used c ∙ list_any_at (λ t. has c t.criteria) steps p no_step.step l has_it

  -- the places of the steps from a version are filed under its number
  pub filed-at : (n p : ℕ) → p < length steps → origin_at (numbered_by index steps) p ≡ Some n
      → Contains (get_or (lists_in index.after.items) n []) p
  filed-at n p l e =
      let long : p < length index.ends.items =
      omega (arith, l, ap length h.ends, length-map steps (ends_of (get version_cmp index.numbers))) in
      subst (λ ps. Contains ps p) (sym (h.filed n))
      (subst (Contains (places_from 0 n index.ends.items)) (omega arith)
      (places-has 0 n index.ends.items p long (sym (origin-same steps index h p l) ∙ e)))

  -- and no others
  pub ready-at : (n : ℕ) (given : Places) (held : List Places)
      → ((c : ℕ) → has c given ≡ true → reached held c n ≡ true)
      → AreReady (numbered_by index steps) given held (get_or (lists_in index.after.items) n [])
  ready-at n given held holds k d l =
      let places = get_or (lists_in index.after.items) n [] in
      let p = get_or places k d in
      let at = places-in 0 n index.ends.items p
      (subst (λ ps. Contains ps p) (h.filed n) (Contains-get_or places k d l)) in
      let same : p ≡ at.0 = omega (arith, at.1) in
      let low : at.0 < length steps =
      omega (arith, at.2, ap length h.ends, length-map steps (ends_of (get version_cmp index.numbers))) in
      let origin : origin_at (numbered_by index steps) at.0 ≡ Some n = origin-same steps index h at.0 low ∙ at.3 in (
        omega (arith, same, low, length-map steps (numbered (get version_cmp index.numbers))),
        λ c g. subst (Stands (reached held c)) (sym (ap (origin_at (numbered_by index steps)) same ∙ origin))
            (holds c g),
      )
