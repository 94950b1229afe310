-- The content of the three files together (ours).
use Rattle.std.specs.Prelude.{◌≡◌, Bool, true, false, List, [], ◌++◌, Option, Some, None, is_some}
use Rattle.std.specs.Cmp.Lexicographic.{slice_cmp}
use Rattle.std.specs.Coded.{Coded, code_by, coded×, coded_list, coded_option, coded_ℕ}
use Rattle.std.specs.FinSet as set
use Rattle.std.specs.List.{All, list_all}
use Rattle.std.specs.Ordering.{nat_cmp}
use Rattle.std.proofs.Common.{refl}
use Rattle.vet_base.specs.Encodings.{criterion_code}
use Rattle.vet_base.specs.CriteriaChanges.{is_built_in}
use Rattle.vet_base.specs.Items.{NamedOnce}
use Rattle.vet_base.specs.Keyed.{IsByKey, all_set, item_of}
use Rattle.vet_base.specs.Names.{NameSet}
use Rattle.vet_base.specs.Words.{Name, Text}
use Rattle.vet_base.specs.declared.criterion.Criterion.{Criterion}
use Rattle.vet_demand.specs.Policies.{IsInKeyOrder}
use Rattle.vet_demand.specs.declared.policies.KeyedPolicy.{KeyedPolicy}
use Rattle.vet_entries.specs.Distinct.{distinct}
use Rattle.vet_entries.specs.PeerContent.{IsPeerContent, PeerContentValue, is_own}
use Rattle.vet_entries.specs.PeerSettings.{settings_name}
use Rattle.vet_entries.specs.PublisherRecords.{IsByName, package_of}
use Rattle.vet_entries.specs.Publishers.{IsInOrder}
use Rattle.vet_entries.specs.declared.entry.Entry.{Entry}
use Rattle.vet_entries.specs.declared.peer_settings.PeerSettings.{PeerSettings}
use Rattle.vet_entries.specs.declared.publisher_records.PackagePublishers.{PackagePublishers}
use Rattle.vet_files.specs.Imports.{imported_name}
use Rattle.vet_files.specs.SameContent.{AreUndated}
use Rattle.vet_files.specs.declared.audits_file.AuditsContent.{AuditsContent}
use Rattle.vet_files.specs.declared.config_file.ConfigContent.{ConfigContent}
use Rattle.vet_files.specs.declared.imports_file.ImportedPeer.{ImportedPeer}
use Rattle.vet_files.specs.declared.imports_file.ImportsContent.{ImportsContent}

-- the criteria of the audits file; its entries and then the exemptions, each once; the peers of the config file and
-- those of the imports file, by name; the publisher records by package, the policies by key; and the other settings of
-- the config file
pub record FilesValue : Type 0 where
  pub criteria : List Criterion
  pub entries : List Entry
  pub settings : List PeerSettings
  pub contents : List ImportedPeer
  pub publishers : List PackagePublishers
  pub policies : List KeyedPolicy
  pub vet_version : Option Text
  pub default_criteria : Option NameSet

-- it is stored as the tuple of its parts
abbrev pub files_code : Coded Entry → Coded PeerSettings → Coded ImportedPeer → Coded PackagePublishers
    → Coded KeyedPolicy → Coded FilesValue
files_code of_entry of_settings of_content of_publishers of_policy =
    code_by (List Criterion
    × (List Entry × (List PeerSettings
    × (List ImportedPeer × (List PackagePublishers × (List KeyedPolicy × (Option Text × Option NameSet)))))))
    (coded× (coded_list criterion_code)
    (coded× (coded_list of_entry) (coded× (coded_list of_settings) (coded× (coded_list of_content)
    (coded× (coded_list of_publishers)
    (coded× (coded_list of_policy)
    (coded× (coded_option (coded_list coded_ℕ)) (coded_option (set.code (coded_list coded_ℕ))))))))))
    (λ f. (
      f.criteria,
      (
        f.entries,
        (f.settings, (f.contents, (f.publishers, (f.policies, (f.vet_version, f.default_criteria))))),
      ),
    ))
    (λ p. record {
      criteria = p.0;
      entries = p.1.0;
      settings = p.1.1.0;
      contents = p.1.1.1.0;
      publishers = p.1.1.1.1.0;
      policies = p.1.1.1.1.1.0;
      vet_version = p.1.1.1.1.1.1.0;
      default_criteria = p.1.1.1.1.1.1.1;
    })
    (λ _. refl)

-- the content of three files
abbrev pub files_of : AuditsContent → ConfigContent → ImportsContent → FilesValue
files_of audits config imports = record {
  criteria = audits.criteria;
  entries = distinct (audits.entries ++ config.exemptions);
  settings = all_set (slice_cmp nat_cmp) settings_name [] config.peers;
  contents = all_set (slice_cmp nat_cmp) imported_name [] imports.peers;
  publishers = all_set (slice_cmp nat_cmp) package_of [] imports.publishers;
  policies = config.policies;
  vet_version = config.vet_version;
  default_criteria = config.default_criteria;
}

-- the contents that three files can give
pub record IsFiles (f : FilesValue) : Type 0 where
  pub further : All (λ c. is_built_in c.name ≡ false) f.criteria
  pub named_once : NamedOnce (λ (c : Criterion). c.name) f.criteria
  pub own : All (λ e. is_own e.source ≡ true) f.entries
  pub undated : AreUndated f.entries
  pub once : distinct f.entries ≡ f.entries
  pub settings_by_name : IsByKey (slice_cmp nat_cmp) settings_name f.settings
  pub contents_by_name : IsByKey (slice_cmp nat_cmp) imported_name f.contents
  pub readable : All (λ (p : ImportedPeer). IsPeerContent p.content.criteria p.content.entries) f.contents
  pub publishers_by_name : IsByName f.publishers
  pub in_order : All (λ (held : PackagePublishers). IsInOrder held.publishers) f.publishers
  pub policies_by_key : IsInKeyOrder f.policies

-- the content of a peer that is not in the imports file
abbrev pub no_content : PeerContentValue
no_content = record { criteria = []; entries = [] }

abbrev pub content_held : Option ImportedPeer → PeerContentValue
content_held None = no_content
content_held (Some peer) = peer.content

-- the content of the peer with a name in an imports file, which is empty if the peer is not there
abbrev pub content_for : List ImportedPeer → Name → PeerContentValue
content_for contents name = content_held (item_of (slice_cmp nat_cmp) imported_name contents name)

-- the config file has settings of a peer
abbrev pub is_set : List PeerSettings → ImportedPeer → Bool
is_set settings peer = is_some (item_of (slice_cmp nat_cmp) settings_name settings peer.name)

-- the config file has settings of each peer of the imports file
abbrev pub each_is_set : FilesValue → Bool
each_is_set f = list_all (is_set f.settings) f.contents
