-- The tables of an audits file (The Cargo Vet Book, audits file; what is skipped and counted is ours).
use Rattle.std.specs.Prelude.{ℕ, Bool, true, false, List, [], ◌++◌, Option, Some, None, Ok, Err, if◌then◌else◌, is_some}
use Rattle.std.specs.Prelude.{length, nat_lt}
use Rattle.std.specs.FinSet as set
use Rattle.std.specs.Option.{option_map_or}
use Rattle.std.specs.Str.{is_utf8}
use Rattle.toml.specs.Parse.{parse_document}
use Rattle.toml.specs.Data.{Data, boolean, Members, as_table, get_member}
use Rattle.vet_base.specs.CriteriaChanges.{is_built_in}
use Rattle.vet_base.specs.Gives.{Told, found_or, ◌>>=◌}
use Rattle.vet_base.specs.Name.{is_name}
use Rattle.vet_base.specs.Names.{NameSet}
use Rattle.vet_base.specs.Words.{Bytes, Key, Name, Path, Text}
use Rattle.vet_base.specs.declared.criterion.Criterion.{Criterion}
use Rattle.vet_base.specs.declared.limits.TheConstants.{MOST_PEER_CRITERIA}
use Rattle.vet_base.specs.declared.refusal.Limit.TheVariants.{PeerCriteria}
use Rattle.vet_base.specs.declared.refusal.Refusal.TheVariants.{TomlRefused, TooLarge}
use Rattle.vet_entries.specs.Distinct.{distinct}
use Rattle.vet_entries.specs.declared.entry.Entry.{Entry}
use Rattle.vet_entries.specs.declared.entry.Source.TheVariants.{Own}
use Rattle.vet_entries.specs.declared.kind.Audit.{Audit}
use Rattle.vet_entries.specs.declared.kind.Kind.{Kind}
use Rattle.vet_entries.specs.declared.kind.Kind.TheVariants as entry
use Rattle.vet_entries.specs.declared.kind.Window.{Window}
use Rattle.vet_files.specs.KeyNames.{AUDITS, CRITERIA, DELTA, DESCRIPTION, DESCRIPTION_URL, END, IMPLIES, IMPORTABLE}
use Rattle.vet_files.specs.KeyNames.{NOTES, RENEW, START, TOP, TRUSTED, USER_ID, VERSION, VIOLATION, WHO}
use Rattle.vet_files.specs.KeyNames.{WILDCARD_AUDITS}
use Rattle.vet_files.specs.declared.keys.TableKind.TheVariants as kind
use Rattle.vet_files.specs.declared.audits_file.AuditsContent.{AuditsContent}
use Rattle.vet_files.specs.declared.found.Found.{Found}
use Rattle.vet_files.specs.declared.notices.Notices.{Notices}
use Rattle.vet_files.specs.declared.read.subject.Subject.{Subject}
use Rattle.vet_files.specs.declared.read.subject.SubjectKey.{SubjectKey}
use Rattle.vet_files.specs.declared.read.subject.SubjectKey.TheVariants as key
use Rattle.vet_files.specs.declared.read.subject.Subject.TheVariants as subject
use Rattle.vet_files.specs.declared.read.whose.Whose.{Whose}
use Rattle.vet_files.specs.declared.read.whose.Whose.TheVariants.{Ours, Peers}
use Rattle.vet_files.specs.Field.{a_day, a_delta, a_flag, a_requirement, a_text, a_user, a_version, fault, names}
use Rattle.vet_files.specs.Field.{optional, required, texts}
use Rattle.vet_files.specs.Keys.{unknown_keys}
use Rattle.vet_files.specs.Lists.{Reading, each_once, listed, nothing, found_one, found_with, path_below, skipped}
use Rattle.vet_files.specs.Lists.{table_at, tables_of_package}
use Rattle.vet_files.specs.Notices.{one_key, only_keys, sum_of_notices}
use Rattle.vet_files.specs.Walk.{each_member}

-- the names or texts at an optional key, or none if the key is missing
abbrev pub or_none : Option NameSet → NameSet
or_none o = option_map_or (λ s. s) o set.empty

-- ---- criteria

-- the criterion of a table: its description, its url, and what it implies
abbrev pub criterion_told : Name → Path → Members → Told (Found (Option Criterion))
criterion_told name path ms =
    optional a_text path DESCRIPTION ms >>= λ description.
    optional a_text path DESCRIPTION_URL ms >>= λ url.
    optional names path IMPLIES ms >>= λ implies.
    Ok (found_one (record { name = name; description = description; url = url; implies = or_none implies })
    (unknown_keys kind.Criterion ms))

-- whether a file may define one more criterion; a peer's file has a limit
abbrev pub room_for_criterion : Whose → ℕ → Told (Unit {0})
room_for_criterion Ours defined = Ok tt
room_for_criterion Peers defined = if nat_lt defined MOST_PEER_CRITERIA then Ok tt else Err (TooLarge PeerCriteria)

-- the criterion whose table is at a name
abbrev pub criterion_at : Path → Name → Option Members → Told (Found (Option Criterion))
criterion_at path name table = found_or (fault path name) table >>= criterion_told name (path_below path name)

abbrev pub further_criterion : Whose → Path → Name → Found (List Criterion) → Option Members
    → Told (Found (List Criterion))
further_criterion whose path name found table =
    room_for_criterion whose (length found.content) >>= λ _.
    criterion_at path name table >>= λ more.
    Ok (found_with found (listed more))

-- a table with the name of a built-in criterion is counted as one unknown key, and not read
abbrev pub built_in_criterion : Path → Name → Found (List Criterion) → Option Members
    → Told (Found (List Criterion))
built_in_criterion path name found table =
    found_or (fault path name) table >>= λ _.
    Ok (record { content = found.content; notices = sum_of_notices found.notices one_key })

abbrev pub next_criterion : Whose → Path → Found (List Criterion) → Name → Data → Told (Found (List Criterion))
next_criterion whose path found name d =
    if is_name name
    then (if is_built_in name then built_in_criterion path name found (as_table d)
    else further_criterion whose path name found (as_table d))
    else Err (fault path name)

-- ---- audits

-- whether a table has a key
abbrev pub has : Members → Key → Bool
has ms key = is_some (get_member key ms)

-- the first of the three keys that give the subject of an audit
abbrev pub first_key : Members → Option SubjectKey
first_key ms =
    if has ms VERSION then Some key.Version
    else (if has ms DELTA then Some key.Delta else
    (if has ms VIOLATION then Some key.Violation else None))

-- a second of them is a fault, whatever it holds
abbrev pub absent : Path → Key → Members → Told (Unit {0})
absent path key ms = if has ms key then Err (fault path key) else Ok tt

abbrev pub subject_told : Path → Members → SubjectKey → Told Subject
subject_told path ms key.Version =
    required a_version path VERSION ms >>= λ version.
    absent path DELTA ms >>= λ _.
    absent path VIOLATION ms >>= λ _.
    Ok (subject.Full version)
subject_told path ms key.Delta =
    required a_delta path DELTA ms >>= λ delta.
    absent path VIOLATION ms >>= λ _.
    Ok (subject.Delta delta)
subject_told path ms key.Violation =
    required a_requirement path VIOLATION ms >>= λ req.
    Ok (subject.Violation req)

-- the kind of an audit
abbrev pub audit_kind : Subject → Audit → Kind
audit_kind (subject.Full version) audit = entry.Full version audit
audit_kind (subject.Delta delta) audit = entry.Delta delta audit
audit_kind (subject.Violation req) audit = entry.Violation req audit

-- an own entry
abbrev pub own_entry : Name → Kind → NameSet → Option Text → Entry
own_entry name what criteria notes =
    record { source = Own; «package» = name; kind = what; criteria = criteria; notes = notes }

-- an entry that a peer withholds: it is marked as not importable
abbrev pub is_no : Option Data → Bool
is_no (Some (boolean false)) = true
is_no _ = false

abbrev pub is_withheld : Whose → Members → Bool
is_withheld Ours ms = false
is_withheld Peers ms = is_no (get_member IMPORTABLE ms)

-- the audit of a subject for some criteria: who made it, its notes, and whether others may import it
abbrev pub audit_of_subject : Name → Path → Members → NameSet → Subject → Told (Found (Option Entry))
audit_of_subject name path ms criteria what =
    optional texts path WHO ms >>= λ who.
    optional a_text path NOTES ms >>= λ notes.
    optional a_flag path IMPORTABLE ms >>= λ importable.
    Ok (found_one (own_entry name (audit_kind what (record { who = or_none who; importable = importable })) criteria
    notes)
    (unknown_keys kind.Audit ms))

abbrev pub audit_of : Name → Path → Members → Option SubjectKey → Told (Found (Option Entry))
audit_of name path ms None = Ok skipped
audit_of name path ms (Some key) =
    required names path CRITERIA ms >>= λ criteria.
    subject_told path ms key >>= audit_of_subject name path ms criteria

-- the audit of a table; it is skipped if it is withheld, or is of none of the three kinds
abbrev pub audit_told : Whose → Reading Entry
audit_told whose name path ms = if is_withheld whose ms then Ok skipped else audit_of name path ms (first_key ms)

-- ---- windows

-- the window of a table: its user, its first day and its last
abbrev pub window_told : Path → Members → Told Window
window_told path ms =
    required a_user path USER_ID ms >>= λ user.
    required a_day path START ms >>= λ first.
    required a_day path END ms >>= λ last.
    Ok (record { user = user; first = first; last = last })

-- the wildcard audit of a window for some criteria: who vouches, whether it is to be renewed, and its notes
abbrev pub wildcard_of_window : Name → Path → Members → NameSet → Window → Told (Found (Option Entry))
wildcard_of_window name path ms criteria window =
    optional texts path WHO ms >>= λ who.
    optional a_flag path RENEW ms >>= λ renew.
    optional a_text path NOTES ms >>= λ notes.
    Ok (found_one (own_entry name (entry.Wildcard window (record { who = or_none who; renew = renew })) criteria notes)
    (unknown_keys kind.Wildcard ms))

abbrev pub wildcard_of : Name → Path → Members → Told (Found (Option Entry))
wildcard_of name path ms =
    required names path CRITERIA ms >>= λ criteria.
    window_told path ms >>= wildcard_of_window name path ms criteria

-- the wildcard audit of a table; it is skipped if it names no user
abbrev pub wildcard_told : Reading Entry
wildcard_told name path ms = if has ms USER_ID then wildcard_of name path ms else Ok skipped

abbrev pub trusted_of : Name → Path → Members → Told (Found (Option Entry))
trusted_of name path ms =
    required names path CRITERIA ms >>= λ criteria.
    window_told path ms >>= λ window.
    optional a_text path NOTES ms >>= λ notes.
    Ok (found_one (own_entry name (entry.Trusted window) criteria notes) (unknown_keys kind.Trusted ms))

-- whether a trusted publisher is read: it is an own one and names a user
abbrev pub is_trusted : Whose → Members → Bool
is_trusted Ours ms = has ms USER_ID
is_trusted Peers ms = false

abbrev pub trusted_told : Whose → Reading Entry
trusted_told whose name path ms = if is_trusted whose ms then trusted_of name path ms else Ok skipped

-- ---- the file

-- the entries of a package, each once, after those found before
abbrev pub next_package : Reading Entry → Path → Found (List Entry) → Name → Data → Told (Found (List Entry))
next_package read path found name d =
    tables_of_package read path name d >>= λ more.
    Ok (found_with found (each_once distinct more))

-- criteria and entries, and the counts of all that was ignored
abbrev pub audits_content : Found (List Criterion) → Found (List Entry) → Notices → Found AuditsContent
audits_content criteria entries keys = record {
  content = record { criteria = criteria.content; entries = entries.content };
  notices = sum_of_notices (sum_of_notices criteria.notices entries.notices) keys;
}

-- the entries of all packages of a file's table of lists
abbrev pub entries_of : Reading Entry → Path → Path → Key → Members → Told (Found (List Entry))
entries_of read path prefix key ms = table_at path key ms >>= each_member (next_package read (prefix ++ key)) nothing

abbrev pub criteria_of : Whose → Path → Path → Members → Told (Found (List Criterion))
criteria_of whose path prefix ms = table_at path CRITERIA ms >>= each_member
    (next_criterion whose (prefix ++ CRITERIA)) nothing

-- the content of an audits file that has these criteria, and these entries besides its trusted publishers
abbrev pub trusted_entries_told : Whose → Path → Path → Members → Found (List Criterion) → Found (List Entry)
    → Told (Found AuditsContent)
trusted_entries_told whose path prefix ms criteria entries =
    entries_of (trusted_told whose) path prefix TRUSTED ms >>= λ trusted.
    Ok (audits_content criteria (found_with entries trusted) (only_keys (unknown_keys kind.AuditsFile ms)))

-- the content of an audits file that has these criteria and audits
abbrev pub further_entries_told : Whose → Path → Path → Members → Found (List Criterion) → Found (List Entry)
    → Told (Found AuditsContent)
further_entries_told whose path prefix ms criteria audits =
    entries_of wildcard_told path prefix WILDCARD_AUDITS ms >>= λ wildcards.
    trusted_entries_told whose path prefix ms criteria (found_with audits wildcards)

-- the content of an audits file whose table has this path. The paths of the tables in it begin with this prefix.
abbrev pub audits_file_told : Whose → Path → Path → Members → Told (Found AuditsContent)
audits_file_told whose path prefix ms =
    criteria_of whose path prefix ms >>= λ criteria.
    entries_of (audit_told whose) path prefix AUDITS ms >>= λ audits.
    further_entries_told whose path prefix ms criteria audits

-- the table of a file: a TOML document in UTF-8
abbrev pub document_told : Bytes → Told Members
document_told bytes = found_or TomlRefused (if is_utf8 bytes then parse_document bytes else None)

-- the content of an audits file
abbrev pub audits_told : Bytes → Told (Found AuditsContent)
audits_told bytes = document_told bytes >>= audits_file_told Ours TOP []
