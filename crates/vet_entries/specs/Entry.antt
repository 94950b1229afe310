-- The equality of entries, and their sources (The Cargo Vet Book, audit entries).
--
-- An entry has a source, package, kind, criteria and perhaps notes (Entry). The kind holds what goes with it and
-- nothing else (Kind). Full, delta and violation hold a version, a delta or a requirement, and who and perhaps
-- importable (Audit). Wildcard holds a user, a first and a last day (Window), and who and perhaps renew (Grant).
-- Trusted holds only a window. Exemption holds a version, and perhaps suggest and a last day.
--
-- Two entries are equal if source, package, kind with all that it holds, criteria and notes are. That is, an entry is
-- equal only to itself (entry_eq, kind_eq, entry_eq-Decides). An entry as an own one, or as one of a peer, is the same
-- except for its source (own, of_source).
use Rattle.std.specs.Prelude.{◌&&◌, Bool, true, false}
use Rattle.std.specs.Option.{option_eq}
use Rattle.std.specs.Str.{bytes_eq}
use Rattle.vet_base.specs.Names.{same_names}
use Rattle.vet_entries.specs.declared.entry.Entry.{Entry}
use Rattle.vet_entries.specs.declared.entry.Source.{Source}
use Rattle.vet_entries.specs.declared.entry.Source.TheVariants.{Own, Peer}
use Rattle.vet_entries.specs.Kind.{kind_eq}

-- whether two sources are the same organisation
abbrev pub source_eq : Source → Source → Bool
source_eq Own Own = true
source_eq (Peer a) (Peer b) = bytes_eq a b
source_eq _ _ = false

-- whether two entries say the same, whatever their sources
abbrev pub says_same : Entry → Entry → Bool
says_same a b =
    bytes_eq a.«package» b.«package» &&
    (kind_eq a.kind b.kind && (same_names a.criteria b.criteria && option_eq bytes_eq a.notes b.notes))

-- whether two entries are the same in every field
abbrev pub entry_eq : Entry → Entry → Bool
entry_eq a b = source_eq a.source b.source && says_same a b

-- the entry as one of a source
abbrev pub of_source : Source → Entry → Entry
of_source source entry = record entry { source = source }

-- the entry as an own one
abbrev pub own : Entry → Entry
own entry = of_source Own entry
