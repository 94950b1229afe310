-- The entries of a source after others replace those held (ours), some of which may be kept in any case.
use Rattle.std.specs.Prelude.{ℕ, ◌≡◌, ◌≢◌, ◌<◌, ◌≤◌, ◌+◌, ◌⊎◌, Bool, true, List, [], ◌++◌, filter, length, map}
use Rattle.std.specs.List.{All, AllPairs}
use Rattle.vet_base.specs.Items.{IsIn, SameItems}
use Rattle.vet_entries.specs.declared.entry.Entry.{Entry}
use Rattle.vet_entries.specs.declared.entry.Source.{Source}
use Rattle.vet_entries.specs.declared.facts.HeldEntry.{HeldEntry}
use Rattle.vet_entries.specs.Distinct.{distinct}
use Rattle.vet_entries.specs.Numbered.{AreByNumber}
use Rattle.vet_entries.specs.PeerContent.{is_own}
use Rattle.vet_entries.specs.Replaced.{as_of, entries_after, new_of, same_entries, stays_alone}

-- no two held entries are the same
abbrev pub AllDiffer : List HeldEntry → Type 0
AllDiffer held = AllPairs (λ g h. g.entry ≢ h.entry) held

-- the entries of what is held, without their numbers
abbrev pub entries_of : List HeldEntry → List Entry
entries_of held = map (λ h. h.entry) held

-- if the numbers increase and are below the next one, so are those afterwards, below the next one afterwards
abbrev pub EntriesKeepOrder : Type 0
EntriesKeepOrder =
    (stays : HeldEntry → Bool) (source : Source) (next : ℕ) (held : List HeldEntry) (entries : List Entry)
    → AreByNumber held
    → All (λ h. h.number < next) held
    → AreByNumber (entries_after stays source next held entries)
    × All (λ h. h.number < next + length (new_of source held entries)) (entries_after stays source next held entries)

-- each entry afterwards was held with its number, or has a new number
abbrev pub EntriesKeepNumbers : Type 0
EntriesKeepNumbers =
    (stays : HeldEntry → Bool) (source : Source) (next : ℕ) (held : List HeldEntry) (entries : List Entry)
    → All (λ h. IsIn h held ⊎ (next ≤ h.number)) (entries_after stays source next held entries)

-- each entry afterwards was held and is kept in any case, or is one of those given, as of the source
abbrev pub EntriesAreTaken : Type 0
EntriesAreTaken =
    (stays : HeldEntry → Bool) (source : Source) (next : ℕ) (held : List HeldEntry) (entries : List Entry)
    → All (λ h. (IsIn h held × (stays h ≡ true)) ⊎ (IsIn h.entry (as_of source entries) × (h.entry.source ≡ source)))
    (entries_after stays source next held entries)

-- afterwards, the entries given are held, as of the source, and those that are kept in any case, and nothing else
abbrev pub EntriesAreHeld : Type 0
EntriesAreHeld =
    (stays : HeldEntry → Bool) (source : Source) (next : ℕ) (held : List HeldEntry) (entries : List Entry)
    → SameItems (as_of source entries ++ entries_of (filter stays held))
    (entries_of (entries_after stays source next held entries))

-- if each entry given is an own one and occurs once, and no two held ones are the same, then no two are the same
-- afterwards, and there are as many as were given and as are kept without being given
abbrev pub EntriesStandOnce : Type 0
EntriesStandOnce =
    (stays : HeldEntry → Bool) (source : Source) (next : ℕ) (held : List HeldEntry) (entries : List Entry)
    → All (λ e. is_own e.source ≡ true) entries
    → distinct entries ≡ entries
    → AllDiffer held
    → AllDiffer (entries_after stays source next held entries)
    × (length (entries_after stays source next held entries)
    ≡ length entries + length (filter (stays_alone stays (as_of source entries)) held))

-- if the entries given are those held, apart from those that are kept in any case, nothing changes and none is new
abbrev pub NothingNew : Type 0
NothingNew =
    (stays : HeldEntry → Bool) (source : Source) (next : ℕ) (held : List HeldEntry) (entries : List Entry)
    → same_entries stays source held entries ≡ true
    → (entries_after stays source next held entries ≡ held) × (new_of source held entries ≡ [])
