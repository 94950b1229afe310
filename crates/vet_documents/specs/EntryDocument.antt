-- The documents of the commands to entries (The Cargo Vet Book for the kinds; the keys and their order are ours).
use Rattle.std.specs.Prelude.{List, [], ◌∷◌, Ok}
use Rattle.toml.specs.Data.{Members}
use Rattle.vet_base.specs.Gives.{Told, found_or, ◌>>=◌}
use Rattle.vet_base.specs.Words.{Key, Name}
use Rattle.vet_documents.specs.CommandWord.{beside, kinds}
use Rattle.vet_documents.specs.DocumentField.{a_day, a_delta, a_number, a_package, a_requirement, a_version}
use Rattle.vet_documents.specs.DocumentField.{any_text, names, only}
use Rattle.vet_documents.specs.DocumentKeys.{COMMAND, KIND, LAST_DAY, NUMBER, PACKAGE}
use Rattle.vet_documents.specs.declared.command_word.KindWord.{KindWord}
use Rattle.vet_documents.specs.declared.command_word.KindWord.TheVariants as kind
use Rattle.vet_documents.specs.declared.entry_document.Audited.{Audited}
use Rattle.vet_documents.specs.declared.entry_document.Stated.{Stated}
use Rattle.vet_entries.specs.declared.entry.Entry.{Entry}
use Rattle.vet_entries.specs.declared.kind.Kind.TheVariants as entry
use Rattle.vet_entries.specs.declared.kind.Window.{Window}
use Rattle.vet_files.specs.Audits.{or_none, own_entry}
use Rattle.vet_files.specs.Field.{a_flag, a_text, a_user, fault, optional, required, texts}
use Rattle.vet_files.specs.KeyNames.{CRITERIA, DELTA, END, IMPORTABLE, NOTES, RENEW, START, SUGGEST, USER_ID, VERSION}
use Rattle.vet_files.specs.KeyNames.{VIOLATION, WHO}
use Rattle.vet_register.specs.declared.command.Action.{Action}
use Rattle.vet_register.specs.declared.command.Action.TheVariants.{AddEntry, DropEntry}

-- ---- audits

-- the parts of an audit beside its subject
abbrev pub audited_told : Members → Told Audited
audited_told ms =
    required names COMMAND CRITERIA ms >>= λ criteria.
    optional texts COMMAND WHO ms >>= λ who.
    optional a_text COMMAND NOTES ms >>= λ notes.
    optional a_flag COMMAND IMPORTABLE ms >>= λ importable.
    Ok (record {
      criteria = criteria;
      notes = notes;
      audit = record { who = or_none who; importable = importable };
    })

abbrev pub full_told : Members → Told Stated
full_told ms =
    required a_version COMMAND VERSION ms >>= λ version.
    audited_told ms >>= λ a.
    Ok (record { kind = entry.Full version a.audit; criteria = a.criteria; notes = a.notes })

abbrev pub delta_told : Members → Told Stated
delta_told ms =
    required a_delta COMMAND DELTA ms >>= λ delta.
    audited_told ms >>= λ a.
    Ok (record { kind = entry.Delta delta a.audit; criteria = a.criteria; notes = a.notes })

abbrev pub violation_told : Members → Told Stated
violation_told ms =
    required a_requirement COMMAND VIOLATION ms >>= λ req.
    audited_told ms >>= λ a.
    Ok (record { kind = entry.Violation req a.audit; criteria = a.criteria; notes = a.notes })

-- ---- windows

abbrev pub window_told : Members → Told Window
window_told ms =
    required a_user COMMAND USER_ID ms >>= λ user.
    required a_day COMMAND START ms >>= λ first.
    required a_day COMMAND END ms >>= λ last.
    Ok (record { user = user; first = first; last = last })

abbrev pub wildcard_of : Members → Window → Told Stated
wildcard_of ms window =
    required names COMMAND CRITERIA ms >>= λ criteria.
    optional texts COMMAND WHO ms >>= λ who.
    optional a_text COMMAND NOTES ms >>= λ notes.
    optional a_flag COMMAND RENEW ms >>= λ renew.
    Ok (record {
      kind = entry.Wildcard window (record { who = or_none who; renew = renew });
      criteria = criteria;
      notes = notes;
    })

abbrev pub wildcard_told : Members → Told Stated
wildcard_told ms = window_told ms >>= wildcard_of ms

abbrev pub trusted_told : Members → Told Stated
trusted_told ms =
    window_told ms >>= λ window.
    required names COMMAND CRITERIA ms >>= λ criteria.
    optional a_text COMMAND NOTES ms >>= λ notes.
    Ok (record { kind = entry.Trusted window; criteria = criteria; notes = notes })

-- ---- exemptions

abbrev pub exemption_told : Members → Told Stated
exemption_told ms =
    required a_version COMMAND VERSION ms >>= λ version.
    required names COMMAND CRITERIA ms >>= λ criteria.
    optional a_text COMMAND NOTES ms >>= λ notes.
    optional a_flag COMMAND SUGGEST ms >>= λ suggest.
    optional a_day COMMAND LAST_DAY ms >>= λ last.
    Ok (record { kind = entry.Exemption version suggest last; criteria = criteria; notes = notes })

-- ---- the commands

-- the kind of an entry, by its word
abbrev pub kind_told : Members → Told KindWord
kind_told ms = required any_text COMMAND KIND ms >>= λ word. found_or (fault COMMAND KIND) (beside word kinds)

-- the parts of an entry of a kind beside its package
abbrev pub stated_told : Members → KindWord → Told Stated
stated_told ms kind.Full = full_told ms
stated_told ms kind.Delta = delta_told ms
stated_told ms kind.Violation = violation_told ms
stated_told ms kind.Wildcard = wildcard_told ms
stated_told ms kind.Trusted = trusted_told ms
stated_told ms kind.Exemption = exemption_told ms

-- the keys of an audit with its subject at a key
abbrev pub audit_keys : Key → List Key
audit_keys subject = PACKAGE ∷ KIND ∷ subject ∷ CRITERIA ∷ WHO ∷ NOTES ∷ IMPORTABLE ∷ []

abbrev pub wildcard_keys : List Key
wildcard_keys = PACKAGE ∷ KIND ∷ USER_ID ∷ START ∷ END ∷ CRITERIA ∷ WHO ∷ NOTES ∷ RENEW ∷ []

abbrev pub trusted_keys : List Key
trusted_keys = PACKAGE ∷ KIND ∷ USER_ID ∷ START ∷ END ∷ CRITERIA ∷ NOTES ∷ []

abbrev pub exemption_keys : List Key
exemption_keys = PACKAGE ∷ KIND ∷ VERSION ∷ CRITERIA ∷ NOTES ∷ SUGGEST ∷ LAST_DAY ∷ []

-- the keys of each kind
abbrev pub entry_keys : KindWord → List Key
entry_keys kind.Full = audit_keys VERSION
entry_keys kind.Delta = audit_keys DELTA
entry_keys kind.Violation = audit_keys VIOLATION
entry_keys kind.Wildcard = wildcard_keys
entry_keys kind.Trusted = trusted_keys
entry_keys kind.Exemption = exemption_keys

-- one's own entry for a package, with these parts
abbrev pub entry_of : Name → Stated → Entry
entry_of name stated = own_entry name stated.kind stated.criteria stated.notes

abbrev pub add_entry_told : Members → Told Action
add_entry_told ms =
    required a_package COMMAND PACKAGE ms >>= λ name.
    kind_told ms >>= λ kind.
    stated_told ms kind >>= λ stated.
    only (entry_keys kind) ms >>= λ _.
    Ok (AddEntry (entry_of name stated))

abbrev pub drop_entry_told : Members → Told Action
drop_entry_told ms =
    required a_number COMMAND NUMBER ms >>= λ number.
    only (NUMBER ∷ []) ms >>= λ _.
    Ok (DropEntry number)
