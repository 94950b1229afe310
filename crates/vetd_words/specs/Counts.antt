-- The counts of a file, and the line that is printed about it (ours).
use Rattle.std.specs.Prelude.{ℕ, List, ◌++◌, codes, length}
use Rattle.std.specs.Fmt.{decimal}
use Rattle.std.specs.List.{sum_by}
use Rattle.vet_base.specs.Words.{Text}
use Rattle.vet_entries.specs.PublisherRecords.{records_total}
use Rattle.vet_files.specs.declared.audits_file.AuditsContent.{AuditsContent}
use Rattle.vet_files.specs.declared.config_file.ConfigContent.{ConfigContent}
use Rattle.vet_files.specs.declared.imports_file.ImportedPeer.{ImportedPeer}
use Rattle.vet_files.specs.declared.imports_file.ImportsContent.{ImportsContent}
use Rattle.vet_files.specs.declared.notices.Notices.{Notices}
use Rattle.vetd_words.specs.declared.counts.FileCounts.{FileCounts}

abbrev pub counts_of_audits : AuditsContent → FileCounts
counts_of_audits content = record {
  criteria = length content.criteria;
  entries = length content.entries;
  publishers = 0;
  policies = 0;
  peers = 0;
}

-- exemptions are entries
abbrev pub counts_of_config : ConfigContent → FileCounts
counts_of_config content = record {
  criteria = 0;
  entries = length content.exemptions;
  publishers = 0;
  policies = length content.policies;
  peers = length content.peers;
}

-- the criteria and the entries of all peers
abbrev pub criteria_total : List ImportedPeer → ℕ
criteria_total peers = sum_by (λ peer. length peer.content.criteria) peers

abbrev pub entries_total : List ImportedPeer → ℕ
entries_total peers = sum_by (λ peer. length peer.content.entries) peers

abbrev pub counts_of_imports : ImportsContent → FileCounts
counts_of_imports content = record {
  criteria = criteria_total content.peers;
  entries = entries_total content.peers;
  publishers = records_total content.publishers;
  policies = 0;
  peers = length content.peers;
}

-- the texts of the things that a file holds, and of those that were ignored in it
abbrev pub entries_text : FileCounts → Text
entries_text counts = codes "criteria " ++ (decimal counts.criteria ++ (codes " entries " ++ (decimal counts.entries
    ++ (codes " publishers " ++ decimal counts.publishers))))

abbrev pub settings_text : FileCounts → Text
settings_text counts = codes "policies " ++ (decimal counts.policies ++ (codes " peers " ++ decimal counts.peers))

abbrev pub notices_text : Notices → Text
notices_text notices = codes "keys " ++ (decimal notices.keys ++ (codes " skipped " ++ (decimal notices.skipped
    ++ (codes " doubles " ++ decimal notices.doubles))))

-- the line of a file
abbrev pub counts_line : FileCounts → Notices → Text
counts_line counts notices =
    codes "read " ++ (entries_text counts ++ (codes " " ++ (settings_text counts
    ++ (codes " " ++ (notices_text notices ++ codes "\n")))))
