-- How values of this crate are stored: each as the tuple of its fields (ours).
use Rattle.std.specs.Prelude.{ℕ, List, Option}
use Rattle.std.specs.Coded.{Coded, code_by, coded×, coded_ℕ, coded_list, coded_option}
use Rattle.std.specs.FinSet as set
use Rattle.std.proofs.Common.{refl}
use Rattle.vet_base.specs.Day.{DayValue}
use Rattle.vet_base.specs.declared.criterion.Criterion.{Criterion}
use Rattle.vet_base.specs.Keyed.{KeyedRoom}
use Rattle.vet_base.specs.Names.{NameSet}

-- a criterion is stored as the tuple of its fields
abbrev pub criterion_code : Coded Criterion
criterion_code =
    code_by (List ℕ × (Option (List ℕ) × (Option (List ℕ) × NameSet)))
    (coded× (coded_list coded_ℕ)
    (coded× (coded_option (coded_list coded_ℕ))
    (coded× (coded_option (coded_list coded_ℕ)) (set.code (coded_list coded_ℕ)))))
    (λ c. (c.name, (c.description, (c.url, c.implies))))
    (λ p. record { name = p.0; description = p.1.0; url = p.1.1.0; implies = p.1.1.1 })
    (λ _. refl)

-- a day is stored as the tuple of its parts
abbrev pub day_code : Coded DayValue
day_code =
    code_by (ℕ × (ℕ × ℕ)) (coded× coded_ℕ (coded× coded_ℕ coded_ℕ)) (λ d. (d.year, (d.month, d.day)))
    (λ p. record { year = p.0; month = p.1.0; day = p.1.1 }) (λ _. refl)

-- items and their room are stored as a pair
abbrev pub keyed_code : {E : Type 0} → Coded E → Coded (KeyedRoom E)
keyed_code {E} item_code =
    code_by (List E × ℕ) (coded× (coded_list item_code) coded_ℕ) (λ k. (k.items, k.room))
    (λ p. record { items = p.0; room = p.1 }) (λ _. refl)
