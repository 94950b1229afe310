-- Criteria that spread over lists of places (ours).
use Rattle.std.specs.Prelude.{◌≡◌, ◌↔◌, ◌<◌, ◌≤◌, ◌≢◌, true, ℕ, List, [], get_or, length, map, Vec}
use Rattle.std.specs.FinSet as set
use Rattle.std.specs.List.{All, AllPairs, Contains}
use Rattle.std.specs.declared.alloc.Global.{Global}
use Rattle.vet_base.specs.CriteriaSet.{Places, has}

-- the lists that some lists hold
abbrev pub lists_in : List (Vec ℕ Global) → List (List ℕ)
lists_in lists = map (λ l. l.items) lists

-- a criterion is in the set at a place
abbrev pub stands : ℕ → List Places → ℕ → Type 0
stands c sets v = has c (get_or sets v set.empty) ≡ true

-- a criterion is led to a place: it starts there, or it is led to a place whose list names this one
pub data IsLed (begins : ℕ → Type 0) (lists : List (List ℕ)) : ℕ → Type 0 where
  at_start : {v : ℕ} → begins v → IsLed begins lists v
  led_on : {u v : ℕ} → IsLed begins lists u → Contains (get_or lists u []) v → IsLed begins lists v

-- the lists name only places below a number
abbrev pub AreBelow : ℕ → List (List ℕ) → Type 0
AreBelow n lists = All (All (λ v. v < n)) lists

-- one criterion was spread from set to set, and the others stay
pub record IsSpread (c : ℕ) (lists : List (List ℕ)) (before after : List Places) : Type 0 where
  pub count : length after ≡ length before
  pub others : (p v : ℕ) → p ≢ c → has p (get_or after v set.empty) ≡ has p (get_or before v set.empty)
  pub led : (v : ℕ) → stands c after v ↔ IsLed (stands c before) lists v

-- the criteria below a number were spread, and the others stay
pub record AreSpread (n : ℕ) (lists : List (List ℕ)) (before after : List Places) : Type 0 where
  pub count : length after ≡ length before
  pub others : (p v : ℕ) → n ≤ p → has p (get_or after v set.empty) ≡ has p (get_or before v set.empty)
  pub led : (p v : ℕ) → p < n → stands p after v ↔ IsLed (stands p before) lists v

-- the places that a criterion has reached while it is spread
pub record IsReaching (c : ℕ) (lists : List (List ℕ)) (before now : List Places) (reached : List ℕ) : Type 0 where
  pub count : length now ≡ length before
  pub others : (p v : ℕ) → p ≢ c → has p (get_or now v set.empty) ≡ has p (get_or before v set.empty)
  pub marked : (v : ℕ) → stands c now v ↔ Contains reached v
  pub starts : (v : ℕ) → stands c before v → Contains reached v
  pub sound : All (IsLed (stands c before) lists) reached
  pub within : All (λ v. v < length before) reached
  pub once : AllPairs (λ u v. u ≢ v) reached

-- the lists of the first n places reached name only places reached
abbrev pub IsDone : List (List ℕ) → List ℕ → ℕ → Type 0
IsDone lists reached n = (k : ℕ) → k < n → All (Contains reached) (get_or lists (get_or reached k 0) [])

-- a criterion that is led to these places, and given to them, goes on spreading and has reached them all
abbrev pub Reaches : ℕ → List ℕ → List Places → List ℕ → List Places → List ℕ → Type 0
Reaches c places old reached new after =
    (lists : List (List ℕ)) (before : List Places) → IsReaching c lists before old reached
    → All (IsLed (stands c before) lists) places
    → IsReaching c lists before new after × All (Contains after) places

-- those of the first n places that have a criterion, each once
pub record AreStarts (c : ℕ) (sets : List Places) (n : ℕ) (reached : List ℕ) : Type 0 where
  pub within : All (λ v. v < n) reached
  pub are : (v : ℕ) → Contains reached v ↔ ((v < n) × stands c sets v)
  pub once : AllPairs (λ u v. u ≢ v) reached
