-- The encodings of entries with their room, and of the content held of peers (ours).
use Rattle.std.specs.Prelude.{ℕ, List}
use Rattle.std.specs.Coded.{Coded, code_by, coded×, coded_list, coded_ℕ}
use Rattle.std.proofs.Common.{refl}
use Rattle.vet_entries.specs.declared.facts.HeldEntry.{HeldEntry}
use Rattle.vet_entries.specs.ByPackage.{EntriesRoom}
use Rattle.vet_base.specs.Criteria.{Criteria}
use Rattle.vet_entries.specs.Holding.{HoldingValue}
use Rattle.vet_base.specs.declared.criterion.Criterion.{Criterion}
use Rattle.vet_entries.specs.declared.entry.Entry.{Entry}
use Rattle.vet_entries.specs.PeerContent.{PeerContentValue}

-- entries and their room are stored as a pair
abbrev pub entries_room_code : Coded HeldEntry → Coded EntriesRoom
entries_room_code held_code =
    code_by (List HeldEntry × ℕ)
    (coded× (coded_list held_code) coded_ℕ)
    (λ f. (f.entries, f.room))
    (λ p. record { entries = p.0; room = p.1 })
    (λ _. refl)

-- the content held of a peer is stored as the pair of its table and its entries
abbrev pub holding_code : Coded Criteria → Coded HeldEntry → Coded HoldingValue
holding_code of_table of_entry =
    code_by (Criteria × List HeldEntry)
    (coded× of_table (coded_list of_entry))
    (λ h. (h.table, h.entries))
    (λ p. record { table = p.0; entries = p.1 })
    (λ _. refl)

-- the content of a peer is stored as the pair of its lists
abbrev pub peer_content_code : Coded Criterion → Coded Entry → Coded PeerContentValue
peer_content_code of_criteria of_entries =
    code_by (List Criterion × List Entry)
    (coded× (coded_list of_criteria) (coded_list of_entries))
    (λ c. (c.criteria, c.entries))
    (λ p. record { criteria = p.0; entries = p.1 })
    (λ _. refl)
