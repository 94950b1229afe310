-- What stands for some names, joined name by name.
use Rattle.std.proofs.Common.{◌≡◌, ℕ, ◌<◌, ◌≤◌, ◌+◌, ◌||◌, false, List, take, length, get_or, set as setn, sym, ap, ◌∙◌}
use Rattle.std.proofs.Common.{arith, inl, inr}
use Rattle.std.specs.List.{list_any}
use Rattle.std.specs.Ordering.{nat_cmp}
use Rattle.std.specs.Cmp.{nat_cmp_total}
use Rattle.std.specs.FinSet as set
use Rattle.std.proofs.lemmas.Bool.{cases_eq}
use Rattle.std.proofs.lemmas.List.{get_or-set_other, get_or-set_same, take_all}
use Rattle.std.proofs.lemmas.List.Folds.{list_any_more}
use Rattle.vet_base.specs.CriteriaSet.{Places, has}

-- the places of the names so far
abbrev pub AreOfFirst : (List ℕ → Places) → List (List ℕ) → ℕ → Places → Type 0
AreOfFirst f names i places = (q : ℕ) → has q places ≡ list_any (λ n. has q (f n)) (take i names)

pub of_none : (places : Places) → places ≡ set.empty → (q : ℕ) → has q places ≡ false
of_none places e q = ap (has q) e ∙ set.contains-empty nat_cmp q

pub of_more : (f : List ℕ → Places) (names : List (List ℕ)) (i : ℕ) (n : List ℕ) (old new : Places) → i < length names
    → n ≡ get_or names i n
    → AreOfFirst f names i old → new ≡ set.union old (f n) → AreOfFirst f names (i + 1) new
of_more f names i n old new l is so_far e q =
    ap (has q) e ∙ set.contains-union nat_cmp_total old (f n) q ∙ (λ j. so_far q j || has q (f (is j)))
    ∙ sym (list_any_more (λ k. has q (f k)) names i n l)

pub of_all : (f : List ℕ → Places) (names all : List (List ℕ)) (i : ℕ) (places : Places) → length names ≤ i
    → names ≡ all
    → AreOfFirst f names i places → (q : ℕ) → has q places ≡ list_any (λ n. has q (f n)) all
of_all f names all i places past is so_far q = so_far q ∙ ap (list_any (λ n. has q (f n))) (take_all i names past ∙ is)

-- ---- one more of what stands at places

pub set_below : (words : List Places) (place : ℕ) (found : Places) (F : ℕ → Places) → place < length words
    → found ≡ F place
    → ((p : ℕ) → p < place → get_or words p set.empty ≡ F p) → (p : ℕ) → p < place + 1
    → get_or (setn words place found) p set.empty ≡ F p
set_below words place found F l is so_far p low = elim (cases_eq p place) [
  | inl same ↦ rw same (get_or-set_same words place found set.empty l ∙ is)
  | inr other ↦ get_or-set_other words place p found set.empty other ∙ so_far p (omega (arith, low, other))
]
