-- The content held after an import, and the imports that change nothing (ours).
use Rattle.std.specs.Prelude.{ℕ, ◌≡◌, ◌↔◌, ◌<◌, ◌≤◌, ◌+◌, ◌⊎◌, true, false, List, length}
use Rattle.std.specs.List.{All}
use Rattle.vet_base.specs.Words.{Name}
use Rattle.vet_base.specs.declared.criterion.Criterion.{Criterion}
use Rattle.vet_base.specs.CriteriaChanges.{is_built_in}
use Rattle.vet_base.specs.Defined.{defined}
use Rattle.vet_base.specs.Items.{IsIn, NamedOnce, SameItems}
use Rattle.vet_entries.specs.declared.entry.Entry.{Entry}
use Rattle.vet_entries.specs.declared.entry.Source.TheVariants.{Peer}
use Rattle.vet_entries.specs.declared.facts.HeldEntry.{HeldEntry}
use Rattle.vet_entries.specs.HeldPeer.{as_peers, entries_after_import, imported, new_entries}
use Rattle.vet_entries.specs.Holding.{HoldingValue}
use Rattle.vet_entries.specs.Import.{same_content}
use Rattle.vet_entries.specs.Numbered.{AreByNumber}
use Rattle.vet_entries.specs.PeerContent.{IsPeerContent, PeerContentValue}
pub use Rattle.vet_entries.specs.ReplacedLaws.{AllDiffer, entries_of}

-- if the numbers increase and are below the next one, so are those after an import, below the next one after it
abbrev pub ImportKeepsOrder : Type 0
ImportKeepsOrder =
    (name : Name) (next : ℕ) (held : List HeldEntry) (entries : List Entry)
    → AreByNumber held
    → All (λ h. h.number < next) held
    → AreByNumber (entries_after_import name next held entries)
    × All (λ h. h.number < next + length (new_entries name held entries)) (entries_after_import name next held entries)

-- each entry after an import was held with its number, or has a new number
abbrev pub ImportKeepsNumbers : Type 0
ImportKeepsNumbers =
    (name : Name) (next : ℕ) (held : List HeldEntry) (entries : List Entry)
    → All (λ h. IsIn h held ⊎ (next ≤ h.number)) (entries_after_import name next held entries)

-- each entry after an import is one of the content, as the peer's
abbrev pub ImportTakesEntries : Type 0
ImportTakesEntries =
    (name : Name) (next : ℕ) (held : List HeldEntry) (entries : List Entry)
    → All (λ h. IsIn h.entry (as_peers name entries) × (h.entry.source ≡ Peer name))
    (entries_after_import name next held entries)

-- after an import each entry of the content is held once, and nothing else, so there are as many as in the content
abbrev pub ImportHoldsEachOnce : Type 0
ImportHoldsEachOnce =
    (name : Name) (next : ℕ) (held : List HeldEntry) (content : PeerContentValue)
    → IsPeerContent content.criteria content.entries
    → AllDiffer held
    → AllDiffer (entries_after_import name next held content.entries)
    × (length (entries_after_import name next held content.entries) ≡ length content.entries)

-- after an import the content is held: the same entries, as the peer's, and its criteria
abbrev pub ImportHoldsItsContent : Type 0
ImportHoldsItsContent =
    (name : Name) (next : ℕ) (held : HoldingValue) (content : PeerContentValue)
    → SameItems (as_peers name content.entries) (entries_of (imported name next content held).entries)
    × ((imported name next content held).table ≡ defined content.criteria)

-- a content is the one held exactly if it has the same criteria and the same entries, in any order
abbrev pub SameItemsAreSame : Type 0
SameItemsAreSame =
    (name : Name) (held : HoldingValue) (content : PeerContentValue) (criteria : List Criterion)
    → IsPeerContent content.criteria content.entries
    → held.table ≡ defined criteria
    → NamedOnce (λ (c : Criterion). c.name) criteria
    → All (λ c. is_built_in c.name ≡ false) criteria
    → (same_content name held content ≡ true)
    ↔ (SameItems content.criteria criteria × SameItems (as_peers name content.entries) (entries_of held.entries))
