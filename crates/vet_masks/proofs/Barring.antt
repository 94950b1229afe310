-- What bars the versions of steps, by their numbers.
use Rattle.std.proofs.Common.{◌≡◌, ◌≢◌, ◌+◌, ◌<◌, ◌||◌, ◌&&◌, ◌++◌, ◌∷◌, [], ℕ, Bool, true, false, not, List, Some}
use Rattle.std.proofs.Common.{None, length, get_or, set as setn, take, unwrap_or, refl, sym, ap, ◌∙◌, inl, inr}
use Rattle.std.specs.Cmp.{nat_cmp_total}
use Rattle.std.specs.FinSet as set
use Rattle.std.specs.List.{All, list_any}
use Rattle.std.proofs.lemmas.Bool.{cases_eq}
use Rattle.std.proofs.lemmas.List.{get_or-set_same, get_or-set_other, take_more}
use Rattle.std.proofs.lemmas.List.Folds.{list_any-append}
use Rattle.vet_base.specs.CriteriaSet.{has, Places}
use Rattle.vet_base.specs.Version.{VersionValue}
use Rattle.vet_base.specs.VersionOrder.{version_eq}
use Rattle.vet_base.specs.VersionOrderLaws.{version_eq-Decides}
use Rattle.vet_entries.specs.declared.step.Step.{Step}
use Rattle.vet_masks.specs.declared.index.Index.{Index}
use Rattle.vet_masks.specs.declared.search.Barred.{Barred}
use Rattle.vet_masks.specs.Index.{IsNamed, IsNumbering, Numbers}
use Rattle.vet_masks.specs.Masks.{bars_at, is_taken_at}
use Rattle.vet_masks.specs.Reached.{AreBarredAlike, AreTakenAlike}
use Rattle.vet_masks.specs.Vouched.{barred_by}
use Rattle.vet_masks.proofs.Flags.{other-version}
use Rattle.vet_masks.proofs.Indexing.{numbers_in, some-is}

-- whether one of them bars a version
abbrev pub bars_one : Barred → ℕ → VersionValue → Bool
bars_one b c v = version_eq b.version v && has c b.criteria

or_none : (a b : Bool) → (a || (b || false)) ≡ (a || b)
or_none true b = refl
or_none false true = refl
or_none false false = refl

pub barred-more : (barred : List Barred) (i : ℕ) (b : Barred) → i < length barred → b ≡ get_or barred i b → (c : ℕ)
    (v : VersionValue) → barred_by (take (i + 1) barred) c v ≡ (barred_by (take i barred) c v || bars_one b c v)
barred-more barred i b l is c v =
    let f = λ (x : Barred). bars_one x c v in
    ap (list_any f) (take_more barred i b l ∙ ap (λ x. take i barred ++ x ∷ []) (sym is))
    ∙ list_any-append f (take i barred) (b ∷ []) ∙ or_none (list_any f (take i barred)) (f b)

or_false : (a : Bool) → a ≡ (a || false)
or_false true = refl
or_false false = refl

module _ (numbers : Numbers) (m : ℕ) (numbering : IsNumbering numbers m) (bars : List Places) (b : Barred)
    (before : ℕ → VersionValue → Bool)
    (so_far : (v : VersionValue) (n c : ℕ) → numbers v ≡ Some n → has c (get_or bars n set.empty) ≡ before c v) where
  -- a version with another number is not barred by it
  not_one : (v : VersionValue) (c : ℕ) → b.version ≢ v → bars_one b c v ≡ false
  not_one v c d = ap (λ x. x && has c b.criteria) (other-version b.version v d)

  -- where its version has a number, it is put there
  pub bars-put : (k : ℕ) → numbers b.version ≡ Some k → k < length bars → (v : VersionValue) (n c : ℕ)
      → numbers v ≡ Some n
      → has c (get_or (setn bars k (set.union (get_or bars k set.empty) b.criteria)) n set.empty)
      ≡ (before c v || bars_one b c v)
  bars-put k known l v n c e = elim (cases_eq n k) [
    | inl same ↦ (let is : b.version ≡ v = numbering.apart b.version v k known (e ∙ ap (λ (j : ℕ). Some j) same) in
        rw same (ap (has c) (get_or-set_same bars k (set.union (get_or bars k set.empty) b.criteria) set.empty l)
        ∙ set.contains-union nat_cmp_total (get_or bars k set.empty) b.criteria c)
        ∙ (λ i. so_far v k c (e ∙ ap (λ (j : ℕ). Some j) same) i
        || (ap (λ x. x && has c b.criteria) (sym ((version_eq-Decides b.version v).1 is))) i))
    | inr other ↦ ap (has c) (get_or-set_other bars k n (set.union (get_or bars k set.empty) b.criteria)
        set.empty other)
        ∙ so_far v n c e ∙ or_false (before c v)
        ∙ ap (λ x. before c v || x) (sym (not_one v c (λ q. other (cc (sym e ∙ ap numbers (sym q) ∙ known)))))
  ]

  -- where it has none, nothing changes
  pub bars-stay : numbers b.version ≡ None → (v : VersionValue) (n c : ℕ) → numbers v ≡ Some n
      → has c (get_or bars n set.empty) ≡ (before c v || bars_one b c v)
  bars-stay none v n c e = so_far v n c e ∙ or_false (before c v)
      ∙ ap (λ x. before c v || x) (sym (not_one v c (λ q.
      (let p : None ≡ Some n = sym none ∙ ap numbers q ∙ e in cc p))))

-- at the versions of steps, sets by number bar what the list does
pub bars-alike : (index : Index) (bars : List Places) (barred : List Barred) (steps : List Step)
    → All (IsNamed (numbers_in index)) steps
    → ((v : VersionValue) (n c : ℕ) → numbers_in index v ≡ Some n
    → has c (get_or bars n set.empty) ≡ barred_by barred c v)
    → AreBarredAlike steps (bars_at index bars) (barred_by barred)
bars-alike index bars barred steps named h k d l c =
    let s = get_or steps k d in
    let at = some-is (numbers_in index s.target) (named k d l).target in
    ap (λ n. has c (get_or bars n set.empty)) (ap (λ o. unwrap_or o 0) at.1) ∙ h s.target at.0 c at.1

-- by flags at the numbers of versions, steps are taken as the flags say
pub taken-alike : (index : Index) (flags : List Bool) (taken : Step → Bool) (steps : List Step)
    → All (IsNamed (numbers_in index)) steps
    → ((s : Step) (n : ℕ) → numbers_in index s.target ≡ Some n → not (s.exempt && get_or flags n false) ≡ taken s)
    → AreTakenAlike steps (is_taken_at index flags) taken
taken-alike index flags taken steps named h k d l =
    let s = get_or steps k d in
    let at = some-is (numbers_in index s.target) (named k d l).target in
    ap (λ n. not (s.exempt && get_or flags n false)) (ap (λ o. unwrap_or o 0) at.1) ∙ h s at.0 at.1
