-- What an answer for the first steps is worth for all of them.
use Rattle.std.proofs.Common.{◌≡◌, ◌+◌, ◌*◌, ◌<◌, ◌≤◌, ◌||◌, ◌&&◌, ◌++◌, ℕ, zero, suc, Bool, true, false}
use Rattle.std.proofs.Common.{not, cond, List, Option, Some, None}
use Rattle.std.proofs.Common.{length, get_or, replicate, take, drop, refl, sym, ap, ◌∙◌, arith}
use Rattle.std.specs.FinSet as set
use Rattle.std.specs.List.{All, list_any}
use Rattle.std.proofs.Math.Nat.{mul-le-mul}
use Rattle.std.proofs.lemmas.List.{get_or-take, length-take-le, take-append-drop, take-map}
use Rattle.std.proofs.lemmas.List.Elements.{All-weaker}
use Rattle.std.proofs.lemmas.List.Folds.{list_any-append}
use Rattle.vet_base.specs.CriteriaSet.{has, Places}
use Rattle.vet_base.specs.Version.{VersionValue}
use Rattle.vet_base.specs.declared.limits.TheConstants.{MOST_CRITERIA as most}
use Rattle.vet_entries.specs.declared.step.Step.{Step}
use Rattle.vet_graph.specs.Chain.{Condemned}
use Rattle.vet_masks.specs.declared.index.Index.{Index}
use Rattle.vet_masks.specs.declared.search.Barred.{Barred}
use Rattle.vet_masks.specs.Index.{IsIndex, IsNamed, Keeps, ends_of, is_used}
use Rattle.vet_masks.specs.Masks.{Grows, IsDone, Numbered, Open, Stands, bars_at, is_taken_at, origin_at, reached}
use Rattle.vet_masks.specs.Masks.{size, spent}
use Rattle.vet_masks.specs.Reached.{AreBarredAlike, AreTakenAlike, used_below}
use Rattle.vet_masks.specs.Vouched.{barred_by}
use Rattle.vet_masks.proofs.Barring.{bars-alike, taken-alike}
use Rattle.vet_masks.proofs.Extending.{AreFirst}
use Rattle.vet_masks.proofs.Indexing.{ends-kept, keeps-named, numbers_in}
use Rattle.vet_masks.proofs.Whole.{reached-filled}
use Rattle.vet_masks.proofs.Sizes.{size-le, spent-grows}

pub first-steps : (steps : List Step) (n : ℕ) → n ≤ length steps → AreFirst (take n steps) steps
first-steps steps n l p d k =
    let low : p < n = omega (arith, k, length-take-le n steps l) in
    (omega (arith, low, l), sym (get_or-take n steps p d low))

pub stands-grows : (old new : List Places) → Grows old new → (c : ℕ) (o : Option ℕ) → Stands (reached old c) o
    → Stands (reached new c) o
stands-grows old new h c None st = tt
stands-grows old new h c (Some n) st = h c n st

or_true : (a b : Bool) → a ≡ true → (a || b) ≡ true
or_true true b h = refl
or_true false b h = absurd (cc h)

-- what the first steps have, some step has
used-onward : (steps : List Step) (n c : ℕ) → is_used (take n steps) c ≡ true → is_used steps c ≡ true
used-onward steps n c h =
    let f = λ (s : Step). has c s.criteria in
    ap (list_any f) (sym (take-append-drop n steps)) ∙ list_any-append f (take n steps) (drop n steps)
    ∙ or_true (list_any f (take n steps)) (list_any f (drop n steps)) h

-- the versions of the first steps keep their numbers
pub first-ends : (steps : List Step) (n : ℕ) (old new : Index) → IsIndex (take n steps) old → IsIndex steps new
    → Keeps (numbers_in old) (numbers_in new) → old.ends.items ≡ take n new.ends.items
first-ends steps n old new h k keeps = h.ends
    ∙ ends-kept (take n steps) (numbers_in old) (numbers_in new) keeps h.named
    ∙ sym (ap (take n) k.ends ∙ take-map (ends_of (numbers_in new)) n steps)

-- what was spent for the first steps, all of it passed on, was spent for these
pub spent-before : (steps : List Step) (n : ℕ) (old new : Index) (held : List Places)
    → IsIndex (take n steps) old → IsIndex steps new → Keeps (numbers_in old) (numbers_in new)
    → spent (size most old.used) held old.ends.items ≤ spent (size most new.used) held (take n new.ends.items)
spent-before steps n old new held h k keeps =
    rw (← first-ends steps n old new h k keeps)
    (spent-grows (size most old.used) (size most new.used) held held old.ends.items
    (size-le most old.used new.used (λ c e. k.used c ∙ used-onward steps n c (sym (h.used c) ∙ e)))
    (λ i. omega arith))

one-most : (b : Bool) → cond b 1 0 ≤ 1
one-most true = omega arith
one-most false = omega arith

pub used_below-most : (n : ℕ) (steps : List Step) → used_below n steps ≤ n
unfolding used_below
used_below-most zero steps = omega arith
used_below-most (suc n) steps = omega (arith, used_below-most n steps, one-most (is_used steps n))

-- so many looks are few
pub few_looks : (x s u : ℕ) → u ≤ most → x ≤ s * (u + 1) → x ≤ s * (most + 1)
few_looks x s u l h = (let at : s * (u + 1) ≤ s * (most + 1) = mul-le-mul (omega arith) (omega (arith, l)) in
    omega (arith, h, at))

-- sets that are filled up with empty ones say of each version what they said
pub filled-same : (sets all : List Places) (k : ℕ) → all ≡ sets ++ replicate k set.empty
    → (c m : ℕ) → reached all c m ≡ reached sets c m
filled-same sets all k is c m = ap (λ hs. reached hs c m) is ∙ reached-filled sets k c m

-- where each version has what it had, steps lead on as they did
pub done-same : (steps : List Numbered) (open_step : Open) (held all : List Places) (n : ℕ)
    → ((c m : ℕ) → reached all c m ≡ reached held c m) → IsDone steps open_step held held n
    → IsDone steps open_step all all n
done-same steps open_step held all n same h c p l st o =
    same c _ ∙ h c p l (stands-grows all held (λ q m e. sym (same q m) ∙ e) c (origin_at steps p) st) o

-- the first steps are barred by the sets of their versions as they were, and taken by the flags of these as they were
module _ (front : List Step) (old new : Index) (named : All (IsNamed (numbers_in old)) front)
    (keeps : Keeps (numbers_in old) (numbers_in new)) where
  named_now : All (IsNamed (numbers_in new)) front
  named_now = All-weaker (IsNamed (numbers_in old)) (IsNamed (numbers_in new))
      (keeps-named (numbers_in old) (numbers_in new) keeps) front named

  pub barred-onward : (bar : Condemned) (barred : List Barred) (bars : List Places)
      → AreBarredAlike front bar (barred_by barred)
      → ((v : VersionValue) (n c : ℕ) → numbers_in new v ≡ Some n
      → has c (get_or bars n set.empty) ≡ barred_by barred c v)
      → AreBarredAlike front bar (bars_at new bars)
  barred-onward bar barred bars alike h k d l c =
      alike k d l c ∙ sym (bars-alike new bars barred front named_now h k d l c)

  pub taken-onward : (flags : List Bool) (taken : Step → Bool)
      → ((s : Step) (n : ℕ) → numbers_in new s.target ≡ Some n → not (s.exempt && get_or flags n false) ≡ taken s)
      → AreTakenAlike front taken (is_taken_at new flags)
  taken-onward flags taken h k d l = sym (taken-alike new flags taken front named_now h k d l)
