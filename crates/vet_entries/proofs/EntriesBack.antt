-- What is held is as it was where its entries are again.
use Rattle.std.proofs.Common.{◌≡◌, List, ap, ◌∙◌}
use Rattle.vet_entries.specs.declared.facts.HeldEntry.{HeldEntry}
use Rattle.vet_entries.specs.Facts.{FactsRoom}

pub entries_back : (was now : FactsRoom) (entries : List HeldEntry) → was ≡ now → entries ≡ was.content.entries
    → record was.content { entries = entries } ≡ now.content
entries_back was now entries same back =
    (λ i. record was.content { entries = back i }) ∙ ap (λ (f : FactsRoom). f.content) same
