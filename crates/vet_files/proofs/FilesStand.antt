-- What three files hold is what three files can hold.
use Rattle.std.proofs.Common.{◌≡◌, ℕ, ◌<◌, ◌&&◌, not, Bool, true, false, List, [], ◌∷◌, ◌++◌, length, refl, subst}
use Rattle.std.proofs.Common.{arith}
use Rattle.std.proofs.Common.{Less}
use Rattle.std.specs.List.{All}
use Rattle.std.proofs.lemmas.Bool.{false≢true}
use Rattle.std.proofs.lemmas.Cmp.{nat_list_cmp_total}
use Rattle.std.proofs.lemmas.List.Elements.{All-append, All-head, All-nil, All-tail, All-weaker}
use Rattle.vet_base.specs.Keyed.{IsByKey, all_set, with_item}
use Rattle.vet_base.proofs.ItemLemmas.{pairs_none}
use Rattle.vet_base.proofs.KeyedLemmas.{IsByKey-all_set}
use Rattle.vet_base.proofs.KeyedParts.{All-with_item}
use Rattle.vet_base.proofs.Rising.{R, only_equal}
use Rattle.vet_entries.specs.Distinct.{distinct}
use Rattle.vet_entries.specs.DistinctLaws.{distinct-All}
use Rattle.vet_entries.specs.Kind.{has_last_day, is_exemption}
use Rattle.vet_entries.specs.PeerContent.{IsPeerContent, is_own}
use Rattle.vet_entries.specs.PeerSettings.{settings_name}
use Rattle.vet_entries.specs.PublisherRecords.{HasAny, package_of}
use Rattle.vet_entries.specs.Publishers.{IsInOrder}
use Rattle.vet_entries.specs.declared.entry.Entry.{Entry}
use Rattle.vet_entries.specs.declared.kind.Kind.{Kind}
use Rattle.vet_entries.specs.declared.kind.Kind.TheVariants.{Full, Delta, Violation, Wildcard, Trusted, Exemption}
use Rattle.vet_entries.specs.declared.publisher_records.PackagePublishers.{PackagePublishers}
use Rattle.vet_files.specs.FilesContent.{IsFiles, files_of}
use Rattle.vet_files.specs.Imports.{imported_name}
use Rattle.vet_files.specs.SameContent.{AreUndated, CanStand, HasRecords, IsAudits, IsConfig, IsImports, is_entry_of}
use Rattle.vet_files.specs.SameContent.{is_kind_of, is_own_exemption}
use Rattle.vet_files.specs.declared.audits_file.AuditsContent.{AuditsContent}
use Rattle.vet_files.specs.declared.config_file.ConfigContent.{ConfigContent}
use Rattle.vet_files.specs.declared.imports_file.ImportedPeer.{ImportedPeer}
use Rattle.vet_files.specs.declared.imports_file.ImportsContent.{ImportsContent}
use Rattle.vet_files.specs.declared.read.whose.Whose.TheVariants.{Ours, Peers}
use Rattle.vet_files.proofs.Once.{distinct-apart, distinct-once}
use Rattle.vet_files.proofs.Ordered.{in_order-AreTheRecords}
use Rattle.vet_files.proofs.PeerStanding.{is-content}

-- ---- items set one after another

module _ {E : Type 0} (key : E → List ℕ) where
  all_set-by_name : (xs : List E) → IsByKey R key (all_set R key [] xs)
  all_set-by_name xs = IsByKey-all_set R nat_list_cmp_total only_equal key [] xs
      (pairs_none (λ a b. R (key a) (key b) ≡ Less))

  -- what holds of each item still does
  all_set-All : (P : E → Type 0) (held more : List E) → All P held → All P more → All P (all_set R key held more)
  all_set-All P held [] each others = each
  all_set-All P held (e ∷ more) each others =
      all_set-All P (with_item R key held e) more (All-with_item R key P held e each (All-head P e more others))
      (All-tail P e more others)

-- ---- entries

first : (a b : Bool) → (a && b) ≡ true → a ≡ true
first true b h = refl
first false b h = h

second : (a b : Bool) → (a && b) ≡ true → b ≡ true
second true b h = h
second false b h = absurd (false≢true h)

abbrev IsOwn : Entry → Type 0
IsOwn e = is_own e.source ≡ true

entries_own : (audits : AuditsContent) (config : ConfigContent) → IsAudits audits → IsConfig config
    → All IsOwn (audits.entries ++ config.exemptions)
entries_own audits config can is =
    All-append IsOwn audits.entries config.exemptions
    (All-weaker (λ e. is_entry_of Ours e ≡ true) IsOwn (λ e h. first (is_own e.source) (is_kind_of Ours e.kind) h)
    audits.entries can.kinds)
    (All-weaker (λ e. is_own_exemption e ≡ true) IsOwn (λ e h. first (is_own e.source) (is_exemption e.kind) h)
    config.exemptions is.kinds)

abbrev IsUndated : Entry → Type 0
IsUndated e = has_last_day e.kind ≡ false

-- only exemptions have a last day
audit_undated : (k : Kind) → not (is_exemption k) ≡ true → has_last_day k ≡ false
audit_undated (Full v a) h = refl
audit_undated (Delta d a) h = refl
audit_undated (Violation r a) h = refl
audit_undated (Wildcard w g) h = refl
audit_undated (Trusted w) h = refl
audit_undated (Exemption v s l) h = absurd (false≢true h)

entries_undated : (audits : AuditsContent) (config : ConfigContent) → IsAudits audits → AreUndated config.exemptions
    → All IsUndated (audits.entries ++ config.exemptions)
entries_undated audits config can undated =
    All-append IsUndated audits.entries config.exemptions
    (All-weaker (λ e. is_entry_of Ours e ≡ true) IsUndated
    (λ e h. audit_undated e.kind (second (is_own e.source) (is_kind_of Ours e.kind) h)) audits.entries can.kinds)
    undated

-- ---- publisher records

some : {X : Type 0} (xs : List X) → (xs ≡ [] → ⊥) → 0 < length xs
some [] h = absurd (h refl)
some (x ∷ xs) h = omega arith

abbrev AreInOrder : PackagePublishers → Type 0
AreInOrder held = IsInOrder held.publishers

records_in_order : (held : PackagePublishers) → HasRecords held → AreInOrder held
records_in_order held has = subst IsInOrder has.1 (in_order-AreTheRecords held.publishers).in_order

-- ---- the files

abbrev IsReadable : ImportedPeer → Type 0
IsReadable p = IsPeerContent p.content.criteria p.content.entries

pub files-stand : (audits : AuditsContent) (config : ConfigContent) (imports : ImportsContent) → IsAudits audits
    → IsConfig config → AreUndated config.exemptions → IsImports imports
    → IsFiles (files_of audits config imports)
files-stand audits config imports can is undated held = record {
  further = can.further;
  named_once = can.named_once;
  own = distinct-All IsOwn entries (entries_own audits config can is);
  undated = distinct-All IsUndated entries (entries_undated audits config can undated);
  once = distinct-apart (distinct entries) (distinct-once entries);
  settings_by_name = all_set-by_name settings_name config.peers;
  contents_by_name = all_set-by_name imported_name imports.peers;
  readable = all_set-All imported_name IsReadable [] imports.peers (All-nil IsReadable)
      (All-weaker (λ p. CanStand Peers p.content.criteria p.content.entries) IsReadable
      (λ p h. is-content p.content.criteria p.content.entries h) imports.peers held.peers);
  publishers_by_name = record {
    rising = all_set-by_name package_of imports.publishers;
    filled = all_set-All package_of HasAny [] imports.publishers (All-nil HasAny)
        (All-weaker HasRecords HasAny (λ p h. some p.publishers h.0) imports.publishers held.published);
  };
  in_order = all_set-All package_of AreInOrder [] imports.publishers (All-nil AreInOrder)
      (All-weaker HasRecords AreInOrder records_in_order imports.publishers held.published);
  policies_by_key = is.by_key;
}
  where
    entries : List Entry
    entries = audits.entries ++ config.exemptions
