-- What some criteria imply, by places.
use Rattle.std.proofs.Common.{◌≡◌, ℕ, ◌&&◌, true, List, [], sym, ap, ◌∙◌, get_or, nat_lt, inl, inr}
use Rattle.std.specs.FinMap as map
use Rattle.std.specs.FinSet as set
use Rattle.std.specs.Cmp.Lexicographic.{slice_cmp}
use Rattle.std.specs.Ordering.{nat_cmp}
use Rattle.std.proofs.lemmas.Bool.{and_parts, cases_Bool, false≢true}
use Rattle.vet_base.proofs.Closing.{closure-law}
use Rattle.vet_base.proofs.Tables.{contains-placed}
use Rattle.vet_base.specs.Criteria.{Criteria, InClosure, closure_of}
use Rattle.vet_base.specs.Criteria.InClosure.{named, implied}
use Rattle.vet_base.specs.CriteriaSet.{has}
use Rattle.vet_base.specs.Names.{NameSet}
use Rattle.vet_base.specs.CriteriaSetLaws.{same_places}
use Rattle.vet_demand.specs.Needs.{covers}
use Rattle.vet_demand.specs.Terms.{closed_places}

nothing_implied : (criteria : Criteria) (n : List ℕ) → InClosure criteria set.empty n → ⊥
nothing_implied criteria n (named h) = false≢true (sym (set.contains-empty (slice_cmp nat_cmp) n) ∙ h)
nothing_implied criteria n (implied {m = m} inner h) = nothing_implied criteria m inner

-- no criteria imply none
pub none_closed : (criteria : Criteria) → closed_places criteria set.empty ≡ set.empty
none_closed criteria = same_places _ _ (λ p. elim (cases_Bool (has p (closed_places criteria set.empty))) [
  | inl held ↦ (let parts = and_parts _ _ (sym (contains-placed criteria (closure_of criteria set.empty) p) ∙ held) in
      absurd (nothing_implied criteria (get_or (map.keys criteria) p [])
      ((closure-law criteria set.empty (get_or (map.keys criteria) p [])).0 parts.1)))
  | inr none ↦ none ∙ sym (set.contains-empty nat_cmp p)
])

-- the place of a criterion of the table is among them just where they cover it
pub covers_at : (criteria : Criteria) (names : NameSet) (p : ℕ) → nat_lt p (map.len criteria) ≡ true
    → has p (closed_places criteria names) ≡ covers criteria (get_or (map.keys criteria) p []) names
covers_at criteria names p low =
    contains-placed criteria (closure_of criteria names) p
    ∙ ap (λ b. b && set.contains (closure_of criteria names) (get_or (map.keys criteria) p [])) low
