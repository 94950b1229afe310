-- What rows of criteria, entries, publishers and peers stand for (ours).
use Rattle.std.specs.Prelude.{◌≡◌, ℕ}
use Rattle.std.specs.FinMap as map
use Rattle.std.specs.List.{All}
use Rattle.vet_base.specs.Day.{DayValue}
use Rattle.vet_base.specs.Names.{NameSet}
use Rattle.vet_base.specs.Words.{Bytes, Name}
use Rattle.vet_entries.specs.CriteriaMap.{NamesByName}
use Rattle.vet_entries.specs.declared.criteria_map.MappedCriterion.{MappedCriterion}
use Rattle.vet_entries.specs.declared.facts.HeldEntry.{HeldEntry}
use Rattle.vet_entries.specs.declared.kind.Kind.{Kind}
use Rattle.vet_entries.specs.declared.peer_settings.PeerSettings.{PeerSettings}
use Rattle.vet_entries.specs.declared.publisher.Publisher.{Publisher}
use Rattle.vet_item_rows.specs.Columns.{packed_map, peer_of_source}
use Rattle.vet_item_rows.specs.DayRows.{IsPlain}
use Rattle.vet_item_rows.specs.EntryRows.{publisher_row, with_kind}
use Rattle.vet_item_rows.specs.KindColumns.{KindColumns}
use Rattle.vet_item_rows.specs.SettingRows.{criterion_row}
use Rattle.vet_item_rows.specs.Values.{AreNames, ArePackages, AreTexts, IsCriterion, IsDay, IsHeldEntry, IsKind, IsName}
use Rattle.vet_item_rows.specs.Values.{IsPackage, IsPublisher, IsSource}
use Rattle.vet_item_rows.specs.declared.read.criteria.SourcedCriterion.{SourcedCriterion}
use Rattle.vet_item_rows.specs.declared.read.gathered.WithKey.{WithKey}
use Rattle.vet_tables.specs.Cells.{Row}

-- ---- criteria

abbrev pub IsSourcedCriterion : SourcedCriterion → Type 0
IsSourcedCriterion c = IsSource c.source × IsCriterion c.criterion

abbrev pub sourced_criterion_row : SourcedCriterion → Row
sourced_criterion_row c = criterion_row (peer_of_source c.source) c.criterion

-- ---- entries

-- an entry can be held, and its row has all of it: there is no last day
abbrev pub IsRowEntry : HeldEntry → Type 0
IsRowEntry held = IsHeldEntry held × IsPlain held

-- columns say this of a package, whatever those hold that the kind doesn't use
abbrev pub IsSaidIn : KindColumns → Kind → Type 0
IsSaidIn said kind = IsKind kind × ((plain : KindColumns) × (said ≡ with_kind kind plain))

-- ---- last days

-- a day under a number
abbrev pub IsFiledDay : WithKey ℕ DayValue → Type 0
IsFiledDay filed = IsDay filed.item

-- ---- publisher records

abbrev pub IsFiledPublisher : WithKey Name Publisher → Type 0
IsFiledPublisher filed = IsPackage filed.key × IsPublisher filed.item

abbrev pub filed_publisher_row : WithKey Name Publisher → Row
filed_publisher_row filed = publisher_row filed.key filed.item

-- ---- peers

abbrev pub IsMapped : Name × NameSet → Type 0
IsMapped entry = IsName entry.0 × AreNames entry.1

abbrev pub IsCriteriaMap : NamesByName → Type 0
IsCriteriaMap m = All IsMapped (map.entries m)

abbrev pub criteria_map_column : NamesByName → Bytes
criteria_map_column m = packed_map (map.entries m)

-- names that are filed under a key, as an item of such a map
abbrev pub mapped_criterion : WithKey Name NameSet → MappedCriterion
mapped_criterion filed = record { name = filed.key; criteria = filed.item }

pub record IsPeerSettings (s : PeerSettings) : Type 0 where
  pub name : IsName s.name
  pub url : AreTexts s.url
  pub exclude : ArePackages s.exclude
  pub map : IsCriteriaMap s.map
