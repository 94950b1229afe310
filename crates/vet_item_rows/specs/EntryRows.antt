-- The rows of entries and of publisher records (ours).
use Rattle.std.specs.Prelude.{pos, negsuc, List, [], ◌++◌, ◌∷◌, map}
use Rattle.std.specs.List.{flat_map}
use Rattle.vet_base.specs.Day.{day_number}
use Rattle.vet_base.specs.Version.{version_text}
use Rattle.vet_base.specs.Words.{Name}
use Rattle.vet_entries.specs.Facts.{Facts}
use Rattle.vet_entries.specs.declared.facts.HeldEntry.{HeldEntry}
use Rattle.vet_entries.specs.declared.held_peer.HeldPeer.{HeldPeer}
use Rattle.vet_entries.specs.declared.kind.Audit.{Audit}
use Rattle.vet_entries.specs.declared.kind.Grant.{Grant}
use Rattle.vet_entries.specs.declared.kind.Kind.{Kind}
use Rattle.vet_entries.specs.declared.kind.Kind.TheVariants as kind
use Rattle.vet_entries.specs.declared.kind.Window.{Window}
use Rattle.vet_entries.specs.declared.publisher.Publisher.{Publisher}
use Rattle.vet_entries.specs.declared.publisher_records.PackagePublishers.{PackagePublishers}
use Rattle.vet_item_rows.specs.Columns.{flag, packed_names, peer_of_source}
use Rattle.vet_item_rows.specs.Packed.{packed, packed_option}
use Rattle.vet_item_rows.specs.KindColumns.{KindColumns}
use Rattle.vet_tables.specs.Cells.{Row}
use Rattle.vet_tables.specs.declared.cell.Cell.TheVariants.{Blob, Int, Text}

-- ---- entries

-- what columns hold that the kind of an entry doesn't use
abbrev pub unused : KindColumns
unused = record {
  kind = pos 0;
  a = [];
  b = [];
  user = pos 0;
  day1 = pos 0;
  day2 = pos 0;
  who = packed [];
  suggest = negsuc 0;
  renew = negsuc 0;
  importable = negsuc 0;
}

-- with who made an audit, and whether others may import it
abbrev pub with_audit : Audit → KindColumns → KindColumns
with_audit audit said = record said { who = packed_names audit.who; importable = flag audit.importable }

-- with who grants, and whether that is to be renewed
abbrev pub with_grant : Grant → KindColumns → KindColumns
with_grant grant said = record said { who = packed_names grant.who; renew = flag grant.renew }

-- with a window
abbrev pub with_window : Window → KindColumns → KindColumns
with_window window said =
    record said { user = pos window.user; day1 = day_number window.first; day2 = day_number window.last }

-- with what the entry says of its package, except its last day
abbrev pub with_kind : Kind → KindColumns → KindColumns
with_kind (kind.Full v audit) said = with_audit audit (record said { kind = pos 0; a = version_text v })
with_kind (kind.Delta d audit) said =
    with_audit audit (record said { kind = pos 1; a = version_text d.from; b = version_text d.to })
with_kind (kind.Violation r audit) said = with_audit audit (record said { kind = pos 2; a = r })
with_kind (kind.Wildcard window grant) said = with_grant grant (with_window window (record said { kind = pos 3 }))
with_kind (kind.Trusted window) said = with_window window (record said { kind = pos 4 })
with_kind (kind.Exemption v s last) said = record said { kind = pos 5; a = version_text v; suggest = flag s }

-- the row of an entry of whose kind these are the columns
abbrev pub row_saying : HeldEntry → KindColumns → Row
row_saying held said =
    Int (pos held.number) ∷ Text (peer_of_source held.entry.source) ∷ Text held.entry.«package» ∷ Int said.kind
    ∷ Text said.a ∷ Text said.b ∷ Int said.user ∷ Int said.day1 ∷ Int said.day2
    ∷ Blob (packed_names held.entry.criteria) ∷ Blob said.who ∷ Blob (packed_option held.entry.notes)
    ∷ Int said.suggest ∷ Int said.renew ∷ Int said.importable ∷ []

abbrev pub entry_row : HeldEntry → Row
entry_row held = row_saying held (with_kind held.entry.kind unused)

-- those of a peer
abbrev pub peer_entries : HeldPeer → List Row
peer_entries peer = map entry_row peer.content.entries

-- one's own, then those of each peer
abbrev pub all_entries : Facts → List Row
all_entries facts = map entry_row facts.entries ++ flat_map peer_entries facts.peers

-- ---- publisher records

abbrev pub publisher_row : Name → Publisher → Row
publisher_row name p =
    Text name ∷ Text (version_text p.version) ∷ Int (pos p.user) ∷ Int (day_number p.day)
    ∷ Blob (packed_option p.login) ∷ Blob (packed_option p.name) ∷ []

-- those of a package
abbrev pub package_rows : PackagePublishers → List Row
package_rows held = map (publisher_row held.«package») held.publishers
