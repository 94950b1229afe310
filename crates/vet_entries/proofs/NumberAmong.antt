-- The number of an entry among those at some places, and which places are within.
use Rattle.std.proofs.Common.{◌≡◌, ℕ, ◌+◌, ◌<◌, Bool, cond, List, length, get_or, drop, Some, sym, ap, subst, ◌∙◌}
use Rattle.vet_entries.specs.declared.entry.Entry.{Entry}
use Rattle.vet_entries.specs.declared.facts.HeldEntry.{HeldEntry}
use Rattle.vet_entries.specs.ByPackage.{gathered}
use Rattle.vet_entries.specs.Entry.{entry_eq, own}
use Rattle.vet_entries.specs.Numbered.{number_of}
use Rattle.vet_entries.proofs.Gathered.{gathered_from}
use Rattle.vet_entries.proofs.Numbers.{number_of_first}

-- what is within a list is within the same
pub within_same : {X : Type 0} (k : ℕ) (lent held : List X) → k < length held → lent ≡ held → k < length lent
within_same k lent held low same = subst (λ xs. k < length xs) (sym same) low

-- the entry at a place was compared: it has the number, or another behind it
pub number_from : (entries : List HeldEntry) (places : List ℕ) (i : ℕ) (held : HeldEntry) (entry : Entry)
    (answer same : Bool) → i < length places → get_or places i 0 < length entries
    → held ≡ get_or entries (get_or places i 0) held → answer ≡ entry_eq held.entry (own entry) → answer ≡ same
    → number_of (gathered entries (drop i places)) entry
    ≡ cond same (Some held.number) (number_of (gathered entries (drop (i + 1) places)) entry)
number_from entries places i held entry answer same low within is told was =
    let rest = gathered entries (drop (i + 1) places) in
    ap (λ es. number_of es entry) (gathered_from entries places i held low within is)
    ∙ number_of_first held rest entry
    ∙ ap (λ t. cond t (Some held.number) (number_of rest entry)) (sym told ∙ was)
