-- Entries put in place of those held of a source (ours), one's own or a peer.
--
-- Some held entries are kept in any case: none if an import replaces those of a peer (none_stays), and the exemptions
-- with a last day if files replace one's own (is_dated), since no file can have one. Any other entry remains only if it
-- is among those given (remains).
use Rattle.std.specs.Prelude.{ℕ, ◌&&◌, ◌||◌, Bool, false, not, List, ◌++◌, filter, is_some, map}
use Rattle.std.specs.List.{list_all, list_any}
use Rattle.vet_base.specs.Criteria.{Criteria, least_unknown}
use Rattle.vet_entries.specs.declared.entry.Entry.{Entry}
use Rattle.vet_entries.specs.declared.entry.Source.{Source}
use Rattle.vet_entries.specs.declared.facts.HeldEntry.{HeldEntry}
use Rattle.vet_entries.specs.Entry.{entry_eq, of_source}
use Rattle.vet_entries.specs.Kind.{has_last_day}
use Rattle.vet_entries.specs.Numbered.{numbered}

-- entries as those of a source
abbrev pub as_of : Source → List Entry → List Entry
as_of source entries = map (of_source source) entries

-- a held entry is among some
abbrev pub comes_again : List Entry → HeldEntry → Bool
comes_again entries held = list_any (entry_eq held.entry) entries

-- no held entry is kept in any case
abbrev pub none_stays : HeldEntry → Bool
none_stays held = false

-- a held entry is an exemption with a last day
abbrev pub is_dated : HeldEntry → Bool
is_dated held = has_last_day held.entry.kind

-- a held entry is kept in any case, or is among some
abbrev pub remains : (HeldEntry → Bool) → List Entry → HeldEntry → Bool
remains stays entries held = stays held || comes_again entries held

-- a held entry is kept in any case, and is not among some
abbrev pub stays_alone : (HeldEntry → Bool) → List Entry → HeldEntry → Bool
stays_alone stays entries held = stays held && not (comes_again entries held)

-- an exemption with a last day names a criterion that a table lacks
abbrev pub is_dated_beyond : Criteria → HeldEntry → Bool
is_dated_beyond table held = is_dated held && is_some (least_unknown table held.entry.criteria)

-- an entry is held
abbrev pub is_held : List HeldEntry → Entry → Bool
is_held held entry = list_any (λ h. entry_eq h.entry entry) held

-- an entry is not held
abbrev pub is_new : List HeldEntry → Entry → Bool
is_new held entry = not (is_held held entry)

-- those of some entries, as of a source, that are not held, in their order
abbrev pub new_of : Source → List HeldEntry → List Entry → List Entry
new_of source held entries = filter (is_new held) (as_of source entries)

-- the entries afterwards, given the next number: held ones that are kept or given again have their places and numbers,
-- and the new ones get the next numbers in their order
abbrev pub entries_after : (HeldEntry → Bool) → Source → ℕ → List HeldEntry → List Entry → List HeldEntry
entries_after stays source next held entries =
    filter (remains stays (as_of source entries)) held ++ numbered next (new_of source held entries)

-- some entries, as of a source, are those held: each held one is among them or kept in any case, and each of them is
-- held
abbrev pub same_entries : (HeldEntry → Bool) → Source → List HeldEntry → List Entry → Bool
same_entries stays source held entries =
    list_all (remains stays (as_of source entries)) held && list_all (is_held held) (as_of source entries)
