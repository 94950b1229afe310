-- The tables of a file from which entries are read, and the reading of one entry (ours, of cargo-vet's files).
use Rattle.vet_entries.specs.declared.entry.Entry.{Entry}
use Rattle.vet_files.specs.Audits.{audit_told, trusted_told, wildcard_told}
use Rattle.vet_files.specs.Config.{exemption_told}
use Rattle.vet_files.specs.Lists.{Reading}
use Rattle.vet_files.specs.declared.read.package_entries.ReadEntry.{ReadEntry}
use Rattle.vet_files.specs.declared.read.package_entries.ReadEntry.TheVariants.{Audits, Exemptions, Trusted, Wildcards}

abbrev pub entry_told : ReadEntry → Reading Entry
entry_told (Audits whose) = audit_told whose
entry_told Wildcards = wildcard_told
entry_told (Trusted whose) = trusted_told whose
entry_told Exemptions = exemption_told
