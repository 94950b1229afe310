-- Comparisons of a peer's content with the one held, and of the entries of files with one's own (ours).
--
-- A content is the one held of a peer (same_content) if each held entry is among its entries, each of its entries is
-- held, and the definitions are equal. A law says that it then has the same criteria and the same entries, in any order
-- (SameItemsAreSame). compared says which held entries are in the content, which of its entries are new and how many,
-- and whether the content is the one held. compared_own says the same for files, and counts one's own exemptions with a
-- last day as if the files had them.
use Rattle.std.specs.Prelude.{ℕ, ◌&&◌, Bool, List, length, map}
use Rattle.std.specs.List.{list_all}
use Rattle.vet_base.specs.Defined.{defined}
use Rattle.vet_base.specs.Definitions.{criteria_eq}
use Rattle.vet_base.specs.Words.{Name}
use Rattle.vet_entries.specs.declared.entry.Entry.{Entry}
use Rattle.vet_entries.specs.declared.entry.Source.TheVariants.{Own}
use Rattle.vet_entries.specs.declared.facts.HeldEntry.{HeldEntry}
use Rattle.vet_entries.specs.HeldPeer.{as_peers, new_entries}
use Rattle.vet_entries.specs.Holding.{HoldingValue}
use Rattle.vet_entries.specs.PeerContent.{PeerContentValue}
use Rattle.vet_entries.specs.Replaced.{as_of, comes_again, is_dated, is_held, is_new, new_of, remains, same_entries}

-- a content is the one held of a peer: each held entry is among its entries, each of these, as the peer's, is held, and
-- the criteria are the same
abbrev pub same_content : Name → HoldingValue → PeerContentValue → Bool
same_content name held content =
    list_all (comes_again (as_peers name content.entries)) held.entries
    && (list_all (is_held held.entries) (as_peers name content.entries) && criteria_eq (defined content.criteria)
    held.table)

-- which held entries remain, which entries are new and how many, and whether nothing changes
pub record ComparisonValue : Type 0 where
  pub again : List Bool
  pub fresh : List Bool
  pub new_count : ℕ
  pub is_same : Bool

-- the comparison of a content with the one held of a peer
abbrev pub compared : Name → HoldingValue → PeerContentValue → ComparisonValue
compared name held content = record {
  again = map (comes_again (as_peers name content.entries)) held.entries;
  fresh = map (is_new held.entries) (as_peers name content.entries);
  new_count = length (new_entries name held.entries content.entries);
  is_same = same_content name held content;
}

-- the comparison of the entries of files, as own ones, with those held
abbrev pub compared_own : List HeldEntry → List Entry → ComparisonValue
compared_own held entries = record {
  again = map (remains is_dated (as_of Own entries)) held;
  fresh = map (is_new held) (as_of Own entries);
  new_count = length (new_of Own held entries);
  is_same = same_entries is_dated Own held entries;
}
