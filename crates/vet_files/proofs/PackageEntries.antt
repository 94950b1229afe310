-- The entries of a table of lists: each is of its package and of a kind that stands there, and each stands once.
use Rattle.std.proofs.Common.{◌≡◌, ℕ, true, List, [], ◌∷◌, ◌++◌, refl, IfOk}
use Rattle.std.specs.Prelude.{Ok, Err, Option, Some, None, codes}
use Rattle.std.specs.List.{All}
use Rattle.std.specs.Option.{option_to_list}
use Rattle.std.proofs.lemmas.Bool.{cond_both}
use Rattle.std.proofs.lemmas.List.Elements.{All-append, All-cons, All-nil, All-weaker}
use Rattle.toml.specs.Data.{Data, Members, as_array, as_table}
use Rattle.vet_base.specs.Gives.{found_or, ◌>>=◌}
use Rattle.vet_base.specs.Name.{is_package_name}
use Rattle.vet_base.specs.Names.{NameSet}
use Rattle.vet_entries.specs.Distinct.{distinct}
use Rattle.vet_entries.specs.DistinctLaws.{distinct-All}
use Rattle.vet_entries.specs.PeerContent.{is_own}
use Rattle.vet_entries.specs.declared.entry.Entry.{Entry}
use Rattle.vet_entries.specs.declared.kind.Audit.{Audit}
use Rattle.vet_entries.specs.declared.kind.Kind.{Kind}
use Rattle.vet_files.specs.declared.found.Found.{Found}
use Rattle.vet_files.specs.declared.write.sections.Listing.{Listing}
use Rattle.vet_files.specs.declared.write.sections.Listing.TheVariants as listing
use Rattle.vet_files.specs.declared.read.subject.Subject.{Subject}
use Rattle.vet_files.specs.declared.read.subject.Subject.TheVariants as subject
use Rattle.vet_files.specs.declared.read.subject.SubjectKey.{SubjectKey}
use Rattle.vet_files.specs.declared.read.whose.Whose.{Whose}
use Rattle.vet_files.specs.Audits.{audit_kind, audit_of, audit_told, entries_of, first_key, has, is_trusted}
use Rattle.vet_files.specs.Audits.{is_withheld, next_package, or_none, own_entry, subject_told, trusted_of}
use Rattle.vet_files.specs.Audits.{trusted_told, wildcard_of, wildcard_told, window_told}
use Rattle.vet_files.specs.Config.{exemption_told}
use Rattle.vet_files.specs.EntryTables.{is_listed}
use Rattle.vet_files.specs.Field.{a_flag, a_text, a_version, fault, names, optional, required, texts}
use Rattle.vet_files.specs.Lists.{Reading, RisesAt, next_table, nothing, path_in_list, skipped, table_at}
use Rattle.vet_files.specs.Lists.{tables_of_package}
use Rattle.vet_files.specs.Walk.{KeysRise, each_item, each_member}
use Rattle.vet_files.proofs.Apart.{Appends, Holds, IsOther, other-item, walk-keys}
use Rattle.vet_files.proofs.Once.{distinct-once}
use Rattle.vet_files.proofs.Walks.{bind-gives, bind-keeps, each_item-keeps}

-- ---- the tables of a package

abbrev pub AllFound : {A : Type 0} → (A → Type 0) → Found (List A) → Type 0
AllFound P found = All P found.content

abbrev pub IfFound : {A : Type 0} → (A → Type 0) → Found (Option A) → Type 0
IfFound P found = All P (option_to_list found.content)

abbrev pub GivesOf : {A : Type 0} → (A → Type 0) → List ℕ → Reading A → Type 0
GivesOf P name read = (path : List ℕ) (ms : Members) → IfOk (read name path ms) (IfFound P)

next_table-of : {A : Type 0} (P : A → Type 0) (read : Reading A) (path name : List ℕ) → GivesOf P name read
    → (found : Found (List A)) (place : ℕ) (d : Data) → AllFound P found
    → IfOk (next_table read path name found place d) (AllFound P)
next_table-of P read path name gives found place d held =
    let below = path_in_list path name place in
    bind-keeps (IfFound P) (AllFound P) (found_or (fault path name) (as_table d) >>= read name below) _
    (bind-gives (IfFound P) (found_or (fault path name) (as_table d)) (read name below) (gives below))
    (λ more given. All-append P found.content (option_to_list more.content) held given)

-- what is read of each table holds of all that is found
pub package-of : {A : Type 0} (P : A → Type 0) (read : Reading A) (path name : List ℕ) (d : Data) → GivesOf P name read
    → IfOk (tables_of_package read path name d) (AllFound P)
package-of P read path name d gives =
    let step = next_table read path name in
    cond_both (is_package_name name) (found_or (fault path name) (as_array d) >>= each_item step nothing 0)
    (Err (fault path name)) (λ r. IfOk r (AllFound P))
    (λ _. bind-gives (AllFound P) (found_or (fault path name) (as_array d)) (each_item step nothing 0)
    (λ ds. each_item-keeps (AllFound P) step (next_table-of P read path name gives) nothing 0 ds (All-nil P)))
    (λ _. tt)

-- ---- entries of one table of lists

-- an own entry of a kind that stands there
abbrev pub IsOf : Listing → Entry → Type 0
IsOf which e = (is_own e.source ≡ true) × (is_listed which e.kind ≡ true)

abbrev IsAt : Listing → List ℕ → Entry → Type 0
IsAt which name e = (e.«package» ≡ name) × IsOf which e

-- each table gives such an entry of its package
abbrev pub GivesEntries : Listing → Reading Entry → Type 0
GivesEntries which read = (name : List ℕ) → GivesOf (IsAt which name) name read

-- no two are the same
abbrev pub StandOnce : Listing → Found (List Entry) → Type 0
StandOnce which = Holds IsOther (IsOf which)

next_package-appends : (which : Listing) (read : Reading Entry) → GivesEntries which read
    → (path : List ℕ) (found : Found (List Entry)) (name : List ℕ) (d : Data)
    → IfOk (next_package read path found name d) (Appends (λ (e : Entry). e.«package») IsOther (IsOf which) found name)
next_package-appends which read gives path found name d =
    bind-keeps (AllFound (IsAt which name)) (Appends (λ (e : Entry). e.«package») IsOther (IsOf which) found name)
    (tables_of_package read path name d) _
    (package-of (IsAt which name) read path name d (gives name))
    (λ more held.
    let once : All (IsAt which name) (distinct more.content) = distinct-All (IsAt which name) more.content held in (
      distinct more.content,
      (
        refl,
        (
          All-weaker (IsAt which name) (λ (e : Entry). e.«package» ≡ name) (λ e h. h.0) (distinct more.content) once,
          (
            distinct-once more.content,
            All-weaker (IsAt which name) (IsOf which) (λ e h. h.1) (distinct more.content)
                once,
          ),
        ),
      ),
    ))

pub entries-once : (which : Listing) (read : Reading Entry) → GivesEntries which read
    → (path prefix key : List ℕ) (ms : Members) → RisesAt path key ms
    → IfOk (entries_of read path prefix key ms) (StandOnce which)
entries-once which read gives path prefix key ms rise =
    let step = next_package read (prefix ++ key) in
    bind-keeps KeysRise (StandOnce which) (table_at path key ms) (each_member step nothing) rise
    (λ inner inner_rise. walk-keys (λ (e : Entry). e.«package») IsOther (IsOf which)
    (other-item (λ (e : Entry). e.«package»)) step
    (λ found name d. next_package-appends which read gives (prefix ++ key) found name d) inner inner_rise)

-- ---- what the readers of one table give

one-entry : (which : Listing) (name : List ℕ) (what : Kind) (criteria : NameSet) (notes : Option (List ℕ))
    → is_listed which what ≡ true
    → All (IsAt which name) (own_entry name what criteria notes ∷ [])
one-entry which name what criteria notes is = All-cons (IsAt which name) (own_entry name what criteria notes) []
    (refl, (refl, is)) (All-nil (IsAt which name))

audit_kind-listed : (what : Subject) (audit : Audit) → is_listed listing.Audits (audit_kind what audit) ≡ true
audit_kind-listed (subject.Full version) audit = refl
audit_kind-listed (subject.Delta delta) audit = refl
audit_kind-listed (subject.Violation req) audit = refl

audit_of-listed : (name path : List ℕ) (ms : Members) (key : Option SubjectKey)
    → IfOk (audit_of name path ms key) (IfFound (IsAt listing.Audits name))
audit_of-listed name path ms None = All-nil (IsAt listing.Audits name)
audit_of-listed name path ms (Some key) =
    let Given = IfFound (IsAt listing.Audits name) in
    bind-gives Given (required names path (codes "criteria") ms) _ (λ criteria.
    bind-gives Given (subject_told path ms key) _ (λ what.
    bind-gives Given (optional texts path (codes "who") ms) _ (λ who.
    bind-gives Given (optional a_text path (codes "notes") ms) _ (λ notes.
    bind-gives Given (optional a_flag path (codes "importable") ms) _ (λ importable.
    let audit : Audit = record { who = or_none who; importable = importable } in
    one-entry listing.Audits name (audit_kind what audit) criteria notes (audit_kind-listed what audit))))))

pub audits-listed : (whose : Whose) → GivesEntries listing.Audits (audit_told whose)
audits-listed whose name path ms =
    cond_both (is_withheld whose ms) (Ok skipped) (audit_of name path ms (first_key ms))
    (λ r. IfOk r (IfFound (IsAt listing.Audits name)))
    (λ _. All-nil (IsAt listing.Audits name)) (λ _. audit_of-listed name path ms (first_key ms))

pub wildcards-listed : GivesEntries listing.WildcardAudits wildcard_told
wildcards-listed name path ms =
    let Given = IfFound (IsAt listing.WildcardAudits name) in
    cond_both (has ms (codes "user-id")) (wildcard_of name path ms) (Ok skipped) (λ r. IfOk r Given) (λ _.
    bind-gives Given (required names path (codes "criteria") ms) _ (λ criteria.
    bind-gives Given (window_told path ms) _ (λ window.
    bind-gives Given (optional texts path (codes "who") ms) _ (λ who.
    bind-gives Given (optional a_flag path (codes "renew") ms) _ (λ renew.
    bind-gives Given (optional a_text path (codes "notes") ms) _
    (λ notes. one-entry listing.WildcardAudits name _ criteria notes refl))))))
    (λ _. All-nil (IsAt listing.WildcardAudits name))

pub trusted-listed : (whose : Whose) → GivesEntries listing.Trusted (trusted_told whose)
trusted-listed whose name path ms =
    let Given = IfFound (IsAt listing.Trusted name) in
    cond_both (is_trusted whose ms) (trusted_of name path ms) (Ok skipped) (λ r. IfOk r Given) (λ _.
    bind-gives Given (required names path (codes "criteria") ms) _ (λ criteria.
    bind-gives Given (window_told path ms) _ (λ window.
    bind-gives Given (optional a_text path (codes "notes") ms) _
    (λ notes. one-entry listing.Trusted name _ criteria notes refl))))
    (λ _. All-nil (IsAt listing.Trusted name))

pub exemptions-listed : GivesEntries listing.Exemptions exemption_told
exemptions-listed name path ms =
    let Given = IfFound (IsAt listing.Exemptions name) in
    bind-gives Given (required a_version path (codes "version") ms) _ (λ version.
    bind-gives Given (required names path (codes "criteria") ms) _ (λ criteria.
    bind-gives Given (optional a_flag path (codes "suggest") ms) _ (λ suggest.
    bind-gives Given (optional a_text path (codes "notes") ms) _
    (λ notes. one-entry listing.Exemptions name _ criteria notes refl))))
