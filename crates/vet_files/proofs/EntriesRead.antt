-- An entry's table is read again as the entry.
use Rattle.std.proofs.Common.{◌≡◌, ℕ, pos, Bool, true, false, List, codes, Option, Some, None, Ok, is_some}
use Rattle.std.proofs.Common.{if◌then◌else◌, refl, sym, ap, subst, ◌∙◌, take, drop}
use Rattle.std.proofs.lemmas.Bool.{false≢true}
use Rattle.std.specs.Option.{IfSome}
use Rattle.toml.specs.Data.{string, integer, boolean, Members, get_member}
use Rattle.vet_base.specs.Day.{DayValue, day_text}
use Rattle.vet_base.specs.Delta.{delta_text}
use Rattle.vet_base.specs.Name.{is_package_name}
use Rattle.vet_base.specs.Names.{NameSet}
use Rattle.vet_base.specs.Version.{VersionValue, version_text}
use Rattle.vet_base.specs.declared.delta.Delta.{Delta as Change}
use Rattle.vet_entries.specs.PeerContent.{is_own, is_peer_kind, may_import}
use Rattle.vet_entries.specs.declared.entry.Entry.{Entry}
use Rattle.vet_entries.specs.declared.entry.Source.{Source}
use Rattle.vet_entries.specs.declared.entry.Source.TheVariants.{Own, Peer}
use Rattle.vet_entries.specs.declared.kind.Audit.{Audit}
use Rattle.vet_entries.specs.declared.kind.Grant.{Grant}
use Rattle.vet_entries.specs.declared.kind.Kind.{Kind}
use Rattle.vet_entries.specs.declared.kind.Kind.TheVariants.{Full, Delta, Violation, Wildcard, Trusted, Exemption}
use Rattle.vet_entries.specs.declared.kind.Window.{Window}
use Rattle.vet_files.specs.Audits.{audit_kind, audit_of, audit_told, first_key, is_no, is_withheld, own_entry}
use Rattle.vet_files.specs.Audits.{subject_told, trusted_of, wildcard_of, window_told}
use Rattle.vet_files.specs.EntryTables.{audit_fields, audit_table, entry_fields, entry_table, some_flag, some_text}
use Rattle.vet_files.specs.Field.{a_day, a_delta, a_flag, a_requirement, a_text, a_user, a_version, names, texts}
use Rattle.vet_files.specs.Lists.{found_one, skipped}
use Rattle.vet_files.specs.OfKind.{of_kind}
use Rattle.vet_files.specs.ReadAgain.{IsReadAs, ReadsAudit, ReadsEntry, is_taken, reading_of}
use Rattle.vet_files.specs.Tables.{fields, set_data, some_set}
use Rattle.vet_files.specs.declared.keys.TableKind.TheVariants as kind
use Rattle.vet_files.specs.declared.read.subject.Subject.{Subject}
use Rattle.vet_files.specs.declared.read.subject.SubjectKey.{SubjectKey}
use Rattle.vet_files.specs.declared.read.subject.Subject.TheVariants as subject
use Rattle.vet_files.specs.declared.read.subject.SubjectKey.TheVariants as key
use Rattle.vet_files.specs.declared.read.whose.Whose.{Whose}
use Rattle.vet_files.specs.declared.read.whose.Whose.TheVariants.{Ours, Peers}
use Rattle.vet_files.proofs.Fields.{Fields, all_known, field_at, get_field, none_unknown, put_between}
use Rattle.vet_files.proofs.KeysRead.{optional_read, optional_set_read, required_read}

-- ---- that the values are read again

abbrev pub NotesRead : Option (List ℕ) → Type 0
NotesRead notes = IfSome notes (λ t. IsReadAs a_text (string t) t)

-- of each entry
pub record ValuesRead (e : Entry) : Type 0 where
  pub named : is_package_name e.«package» ≡ true
  pub criteria : IsReadAs names (set_data e.criteria) e.criteria
  pub notes : NotesRead e.notes

-- they are where its table's values are read as those that it has
pub values_read : (e : Entry) (notes : Option (List ℕ)) → is_package_name e.«package» ≡ true
    → IsReadAs names (set_data e.criteria) e.criteria → notes ≡ e.notes
    → NotesRead notes → ValuesRead e
values_read e notes named criteria same read = record {
  named = named;
  criteria = criteria;
  notes = subst NotesRead same read;
}

abbrev pub FlagRead : Option Bool → Type 0
FlagRead flag = IfSome flag (λ b. IsReadAs a_flag (boolean b) b)

abbrev pub WhoRead : NameSet → Type 0
WhoRead who = IsReadAs texts (set_data who) who

pub record WindowRead (w : Window) : Type 0 where
  pub user : IsReadAs a_user (integer (pos w.user)) w.user
  pub first : IsReadAs a_day (string (day_text w.first)) w.first
  pub last : IsReadAs a_day (string (day_text w.last)) w.last

-- ---- one's own entry of a kind

abbrev fields_of : Entry → Kind → Fields
fields_of e what = entry_fields (set_data e.criteria) (some_text e.notes) what

own_source : (s : Source) → is_own s ≡ true → s ≡ Own
own_source Own own = refl
own_source (Peer name) own = absurd (false≢true own)

-- what a kind's table is read as
abbrev KindRead : Entry → Kind → Type 0
KindRead e what =
    (whose : Whose) → is_taken whose what ≡ true → (path : List ℕ)
    → reading_of whose what e.«package» path (fields (fields_of e what))
    ≡ Ok (found_one (own_entry e.«package» what e.criteria e.notes) 0)

of_own : (e : Entry) (what : Kind) → is_package_name e.«package» ≡ true → KindRead e what → ReadsEntry (of_kind e what)
of_own e what named reads = record {
  named = named;
  read = λ whose own taken path. (
      reads whose taken path
      ∙ ap (λ s. Ok (found_one (record {
        source = s;
        «package» = e.«package»;
        kind = what;
        criteria = e.criteria;
        notes =
            e.notes;
      }) 0)) (sym (own_source e.source own)));
}

-- ---- audits

-- an audit that is taken isn't withheld
not_withheld : (whose : Whose) (what : Kind) (importable : Option Bool) (ms : Members)
    → is_peer_kind what ≡ may_import importable → is_taken whose what ≡ true
    → get_member (codes "importable") ms ≡ some_flag importable → is_withheld whose ms ≡ false
not_withheld Ours what importable ms same taken at = refl
not_withheld Peers what None ms same taken at = ap is_no at
not_withheld Peers what (Some true) ms same taken at = ap is_no at
not_withheld Peers what (Some false) ms same taken at = absurd (false≢true (sym same ∙ taken))

-- what the tables of the three kinds of audits have in common
record AuditAt (e : Entry) (a : Audit) (fs : Fields) : Type 0 where
  criteria : field_at (codes "criteria") fs ≡ Some (set_data e.criteria)
  importable : field_at (codes "importable") fs ≡ some_flag a.importable
  notes : field_at (codes "notes") fs ≡ some_text e.notes
  who : field_at (codes "who") fs ≡ some_set a.who
  known : all_known kind.Audit fs ≡ true

audit_read : (e : Entry) (a : Audit) (whose : Whose) (path : List ℕ) (fs : Fields) (first : SubjectKey) (what : Subject)
    → AuditAt e a fs
    → first_key (fields fs) ≡ Some first → subject_told path (fields fs) first ≡ Ok what
    → is_peer_kind (audit_kind what a) ≡ may_import a.importable
    → is_taken whose (audit_kind what a) ≡ true → ReadsAudit e a
    → audit_told whose e.«package» path (fields fs)
    ≡ Ok (found_one (own_entry e.«package» (audit_kind what a) e.criteria e.notes) 0)
audit_read e a whose path fs first what at is_first told same taken values =
    let ms = fields fs in
    let importable_at = get_field (codes "importable") fs ∙ at.importable in
    let (o, (who_told, is)) = optional_set_read texts set_data path (codes "who") ms a.who
    (get_field (codes "who") fs ∙ at.who) values.who in
    ap (λ b. if b then Ok skipped else audit_of e.«package» path ms (first_key ms))
    (not_withheld whose (audit_kind what a) a.importable ms same taken importable_at)
    ∙ ap (audit_of e.«package» path ms) is_first
    ∙ rw (
      required_read names set_data path (codes "criteria") ms e.criteria (get_field (codes "criteria") fs ∙ at.criteria)
          values.criteria,
      told,
      who_told,
      optional_read a_text string path (codes "notes") ms e.notes (get_field (codes "notes") fs ∙ at.notes)
          values.notes,
      optional_read a_flag boolean path (codes "importable") ms a.importable importable_at values.importable,
      is,
      none_unknown kind.Audit fs at.known,
    )
    refl

-- what an audit is of stands in its place among the other keys
pub full_written : (e : Entry) (v : VersionValue) (a : Audit) → e.kind ≡ Full v a
    → audit_table e a (codes "version") (string (version_text v)) ≡ entry_table e
full_written e v a is =
    put_between (take 3 (audit_fields e a)) (drop 3 (audit_fields e a)) (codes "version") (string (version_text v)) refl
    refl
    ∙ ap (λ what. fields (fields_of e what)) (sym is)

pub delta_written : (e : Entry) (d : Change) (a : Audit) → e.kind ≡ Delta d a
    → audit_table e a (codes "delta") (string (delta_text d)) ≡ entry_table e
delta_written e d a is =
    put_between (take 1 (audit_fields e a)) (drop 1 (audit_fields e a)) (codes "delta") (string (delta_text d)) refl
    refl
    ∙ ap (λ what. fields (fields_of e what)) (sym is)

pub violation_written : (e : Entry) (req : List ℕ) (a : Audit) → e.kind ≡ Violation req a
    → audit_table e a (codes "violation") (string req) ≡ entry_table e
violation_written e req a is =
    put_between (take 3 (audit_fields e a)) (drop 3 (audit_fields e a)) (codes "violation") (string req) refl refl
    ∙ ap (λ what. fields (fields_of e what)) (sym is)

pub full_read : (e : Entry) (v : VersionValue) (a : Audit) → ReadsAudit e a
    → IsReadAs a_version (string (version_text v)) v
    → ReadsEntry (of_kind e (Full v a))
full_read e v a values version = of_own e (Full v a) values.named (λ whose taken path. (
    let fs = fields_of e (Full v a) in
    let told = required_read a_version (λ x. string (version_text x)) path (codes "version") (fields fs) v
    (get_field (codes "version") fs) version in
    audit_read e a whose path fs key.Version (subject.Full v) record
    { criteria = refl; importable = refl; notes = refl; who = refl; known = refl }
    (rw (get_field (codes "version") fs) refl)
    (rw (told, get_field (codes "delta") fs, get_field (codes "violation") fs) refl) refl taken values))

pub delta_read : (e : Entry) (d : Change) (a : Audit) → ReadsAudit e a
    → IsReadAs a_delta (string (delta_text d)) d
    → ReadsEntry (of_kind e (Delta d a))
delta_read e d a values delta = of_own e (Delta d a) values.named (λ whose taken path. (
    let fs = fields_of e (Delta d a) in
    let told = required_read a_delta (λ x. string (delta_text x)) path (codes "delta") (fields fs) d
    (get_field (codes "delta") fs) delta in
    audit_read e a whose path fs key.Delta (subject.Delta d) record
    { criteria = refl; importable = refl; notes = refl; who = refl; known = refl }
    (rw (get_field (codes "version") fs) refl) (rw (told, get_field (codes "violation") fs) refl) refl taken values))

pub violation_read : (e : Entry) (req : List ℕ) (a : Audit) → ReadsAudit e a
    → IsReadAs a_requirement (string req) req
    → ReadsEntry (of_kind e (Violation req a))
violation_read e req a values violation = of_own e (Violation req a) values.named (λ whose taken path. (
    let fs = fields_of e (Violation req a) in
    let told = required_read a_requirement string path (codes "violation") (fields fs) req
    (get_field (codes "violation") fs) violation in
    audit_read e a whose path fs key.Violation (subject.Violation req) record
    { criteria = refl; importable = refl; notes = refl; who = refl; known = refl }
    (rw (get_field (codes "version") fs, get_field (codes "delta") fs, get_field (codes "violation") fs) refl)
    (rw told refl) refl taken values))

-- ---- windows

window_read : (path : List ℕ) (ms : Members) (w : Window)
    → get_member (codes "user-id") ms ≡ Some (integer (pos w.user))
    → get_member (codes "start") ms ≡ Some (string (day_text w.first))
    → get_member (codes "end") ms ≡ Some (string (day_text w.last))
    → WindowRead w → window_told path ms ≡ Ok w
window_read path ms w user first last reads =
    rw (
      required_read a_user (λ u. integer (pos u)) path (codes "user-id") ms w.user user reads.user,
      required_read a_day (λ d. string (day_text d)) path (codes "start") ms w.first first reads.first,
      required_read a_day (λ d. string (day_text d)) path (codes "end") ms w.last last reads.last,
    )
    refl

pub wildcard_read : (e : Entry) (w : Window) (g : Grant) → ValuesRead e → WindowRead w → FlagRead g.renew
    → WhoRead g.who → ReadsEntry (of_kind e (Wildcard w g))
wildcard_read e w g values window renew who = of_own e (Wildcard w g) values.named (λ whose taken path. (
    let fs = fields_of e (Wildcard w g) in
    let ms = fields fs in
    let (o, (who_told, is)) = optional_set_read texts set_data path (codes "who") ms g.who (get_field (codes "who") fs)
    who in
    ap (λ d. if is_some d then wildcard_of e.«package» path ms else Ok skipped) (get_field (codes "user-id") fs)
    ∙ rw (
      required_read names set_data path (codes "criteria") ms e.criteria (get_field (codes "criteria") fs)
          values.criteria,
      window_read path ms w (get_field (codes "user-id") fs) (get_field (codes "start") fs) (get_field (codes "end") fs)
          window,
      who_told,
      optional_read a_flag boolean path (codes "renew") ms g.renew (get_field (codes "renew") fs) renew,
      optional_read a_text string path (codes "notes") ms e.notes (get_field (codes "notes") fs) values.notes,
      is,
      none_unknown kind.Wildcard fs refl,
    )
    refl))

trusted_of_read : (e : Entry) (w : Window) (path : List ℕ) → ValuesRead e → WindowRead w
    → trusted_of e.«package» path (fields (fields_of e (Trusted w)))
    ≡ Ok (found_one (own_entry e.«package» (Trusted w) e.criteria e.notes) 0)
trusted_of_read e w path values window =
    let fs = fields_of e (Trusted w) in
    let ms = fields fs in
    rw (
      required_read names set_data path (codes "criteria") ms e.criteria (get_field (codes "criteria") fs)
          values.criteria,
      window_read path ms w (get_field (codes "user-id") fs) (get_field (codes "start") fs) (get_field (codes "end") fs)
          window,
      optional_read a_text string path (codes "notes") ms e.notes (get_field (codes "notes") fs) values.notes,
      none_unknown kind.Trusted fs refl,
    )
    refl

pub trusted_read : (e : Entry) (w : Window) → ValuesRead e → WindowRead w → ReadsEntry (of_kind e (Trusted w))
trusted_read e w values window = of_own e (Trusted w) values.named by
  where
    by : KindRead e (Trusted w)
    by Ours taken path =
        ap (λ d. if is_some d then trusted_of e.«package» path (fields (fields_of e (Trusted w))) else Ok skipped)
        (get_field (codes "user-id") (fields_of e (Trusted w)))
        ∙ trusted_of_read e w path values window
    by Peers taken path = absurd (false≢true taken)

-- ---- exemptions

pub exemption_read : (e : Entry) (v : VersionValue) (suggest : Option Bool) → ValuesRead e
    → IsReadAs a_version (string (version_text v)) v → FlagRead suggest
    → ReadsEntry (of_kind e (Exemption v suggest None))
exemption_read e v suggest values version suggested =
    of_own e (Exemption v suggest None) values.named (λ whose taken path. (
    let fs = fields_of e (Exemption v suggest None) in
    let ms = fields fs in
    rw (
      required_read a_version (λ x. string (version_text x)) path (codes "version") ms v
          (get_field (codes "version") fs) version,
      required_read names set_data path (codes "criteria") ms e.criteria (get_field (codes "criteria") fs)
          values.criteria,
      optional_read a_flag boolean path (codes "suggest") ms suggest (get_field (codes "suggest") fs) suggested,
      optional_read a_text string path (codes "notes") ms e.notes (get_field (codes "notes") fs) values.notes,
      none_unknown kind.Exemption fs refl,
    )
    refl))

-- nothing is asked of an exemption with a last day: no file can have it
any_exemption_read : (e : Entry) (v : VersionValue) (suggest : Option Bool) (last : Option DayValue)
    → ReadsEntry (of_kind e (Exemption v suggest None)) → ReadsEntry (of_kind e (Exemption v suggest last))
any_exemption_read e v suggest None reads = reads
any_exemption_read e v suggest (Some day) reads = record {
  named = reads.named;
  read = λ whose own taken path. absurd (false≢true (sym (none whose) ∙ taken));
}
  where
    none : (whose : Whose) → is_taken whose (Exemption v suggest (Some day)) ≡ false
    none Ours = refl
    none Peers = refl

-- so an exemption is read back if it would be without its last day
pub exemption_entry_read : (e : Entry) (v : VersionValue) (suggest : Option Bool) (last : Option DayValue)
    → e.kind ≡ Exemption v suggest last → ReadsEntry (of_kind e (Exemption v suggest None)) → ReadsEntry e
exemption_entry_read e v suggest last is reads =
    subst (λ (k : Kind). ReadsEntry (of_kind e k)) (sym is) (any_exemption_read e v suggest last reads)
