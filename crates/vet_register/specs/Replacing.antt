-- Everything that is held after three files replace what was held (ours).
--
-- ReplaceFiles puts the content of three files (FilesValue) in place of all that is held except projects, the desk, own
-- exemptions with a last day and the register's day (facts_of_files, tool_of_files). Own entries are those of the
-- audits file and then the exemptions, each once. A peer is held for each peer of the config file, with what the
-- imports file says of it, or nothing if it is not there (peers_after, content_for). For each source, held entries that
-- the files have keep their numbers and come first, and so do one's own exemptions with a last day, each at its place
-- (entries_after). The new ones get the next numbers in the order of reading: one's own, and then peer by peer in the
-- order of their names (new_of_files).
use Rattle.std.specs.Prelude.{ℕ, ◌+◌, List, [], ◌∷◌, filter, length}
use Rattle.std.specs.List.{sum_by}
use Rattle.vet_base.specs.Defined.{defined}
use Rattle.vet_entries.specs.declared.entry.Source.TheVariants.{Own}
use Rattle.vet_entries.specs.declared.held_peer.HeldPeer.{HeldPeer}
use Rattle.vet_entries.specs.declared.peer_settings.PeerSettings.{PeerSettings}
use Rattle.vet_entries.specs.Facts.{Facts}
use Rattle.vet_entries.specs.HeldPeer.{holding_or_none, imported, new_entries, peer_of}
use Rattle.vet_entries.specs.Holding.{HoldingValue}
use Rattle.vet_entries.specs.Import.{ComparisonValue, compared}
use Rattle.vet_entries.specs.Replaced.{entries_after, is_dated, new_of}
use Rattle.vet_files.specs.FilesContent.{FilesValue, content_for}
use Rattle.vet_files.specs.declared.imports_file.ImportedPeer.{ImportedPeer}
use Rattle.vet_register.specs.declared.tool_settings.ToolSettings.{ToolSettings}

-- the holding of the peer of some settings; nothing for a new one
abbrev pub held_of_peer : List HeldPeer → PeerSettings → HoldingValue
held_of_peer peers settings = holding_or_none (peer_of peers settings.name)

-- how many entries of a peer are new
abbrev pub new_of_peer : List HeldPeer → List ImportedPeer → PeerSettings → ℕ
new_of_peer peers contents settings =
    length
    (new_entries settings.name (held_of_peer peers settings).entries (content_for contents settings.name).entries)

-- a peer afterwards, given the next number: these settings, and what the imports file says of it
abbrev pub peer_after : ℕ → List HeldPeer → List ImportedPeer → PeerSettings → HeldPeer
peer_after next peers contents settings = record {
  settings = settings;
  content = imported settings.name next (content_for contents settings.name) (held_of_peer peers settings);
}

-- the peers afterwards, given the next number: the new entries of each are numbered after those of the peers before it
abbrev pub peers_after : ℕ → List HeldPeer → List ImportedPeer → List PeerSettings → List HeldPeer
peers_after next peers contents [] = []
peers_after next peers contents (settings ∷ rest) =
    peer_after next peers contents settings
    ∷ peers_after (next + new_of_peer peers contents settings) peers contents rest

-- how many own entries are new, and how many of all sources
abbrev pub new_own : Facts → FilesValue → ℕ
new_own facts f = length (new_of Own facts.entries f.entries)

abbrev pub new_of_files : Facts → FilesValue → ℕ
new_of_files facts f = new_own facts f + sum_by (new_of_peer facts.peers f.contents) f.settings

-- the facts of packages afterwards, given the next number: new entries are numbered in the order of reading, one's own
-- before those of peers
abbrev pub facts_of_files : ℕ → FilesValue → Facts → Facts
facts_of_files next f facts = record {
  criteria = defined f.criteria;
  entries = entries_after is_dated Own next facts.entries f.entries;
  peers = peers_after (next + new_own facts f) facts.peers f.contents f.settings;
  publishers = f.publishers;
  today = facts.today;
}

-- their settings for the tool
abbrev pub tool_of_files : FilesValue → ToolSettings
tool_of_files f = record { vet_version = f.vet_version; default_criteria = f.default_criteria }

-- how many entries files hold: one's own, and those of each peer of the config file
abbrev pub count_of_peer : List ImportedPeer → PeerSettings → ℕ
count_of_peer contents settings = length (content_for contents settings.name).entries

abbrev pub entries_in_files : FilesValue → ℕ
entries_in_files f = length f.entries + sum_by (count_of_peer f.contents) f.settings

-- how many entries are held afterwards: those, and one's own exemptions with a last day
abbrev pub entries_of_files : Facts → FilesValue → ℕ
entries_of_files facts f = length (filter is_dated facts.entries) + entries_in_files f

-- how the content of a peer compares with what is held of it
abbrev pub compared_peer : List HeldPeer → List ImportedPeer → PeerSettings → ComparisonValue
compared_peer peers contents settings =
    compared settings.name (held_of_peer peers settings) (content_for contents settings.name)
