-- What is held can be read from files.
use Rattle.std.proofs.Common.{◌≡◌, ◌≢◌, ◌&&◌, ℕ, ◌≤◌, ◌<◌, Bool, true, List, [], ◌∷◌, get_or, length, map, sym, ap}
use Rattle.std.proofs.Common.{subst, ◌∙◌, arith}
use Rattle.std.specs.List.{All, AllPairs, filter}
use Rattle.std.specs.Ordering.{nat_cmp, is_eq}
use Rattle.std.specs.Cmp.Lexicographic.{slice_cmp}
use Rattle.std.proofs.lemmas.Bool.{false≢true}
use Rattle.std.proofs.lemmas.Cmp.{nat_list_cmp_total, tied_itself}
use Rattle.std.proofs.lemmas.List.{get_or-map, length-map}
use Rattle.std.proofs.lemmas.List.Kept.{AllPairs-filter}
use Rattle.vet_base.specs.declared.criterion.Criterion.{Criterion}
use Rattle.vet_base.specs.declared.limits.TheConstants.{MOST_PEER_CRITERIA}
use Rattle.vet_base.specs.FurtherCriteria.{further}
use Rattle.vet_base.specs.Items.{IsIn, NamedOnce}
use Rattle.vet_base.specs.Keyed.{IsByKey}
use Rattle.vet_base.proofs.FurtherLaws.{further_are_defined}
use Rattle.vet_base.proofs.ItemLemmas.{all_in, in_all, in_filter, in_map, map_in, no_longer, pairs_head, pairs_tail}
use Rattle.vet_entries.specs.declared.entry.Entry.{Entry}
use Rattle.vet_entries.specs.declared.entry.Source.{Source}
use Rattle.vet_entries.specs.declared.entry.Source.TheVariants.{Own, Peer}
use Rattle.vet_entries.specs.declared.facts.HeldEntry.{HeldEntry}
use Rattle.vet_entries.specs.declared.held_peer.HeldPeer.{HeldPeer}
use Rattle.vet_entries.specs.declared.peer_settings.PeerSettings.{PeerSettings}
use Rattle.vet_entries.specs.declared.publisher_records.PackagePublishers.{PackagePublishers}
use Rattle.vet_entries.specs.Distinct.{distinct}
use Rattle.vet_entries.specs.Entry.{of_source, own}
use Rattle.vet_entries.specs.Facts.{Facts}
use Rattle.vet_entries.specs.HeldPeer.{peer_name}
use Rattle.vet_entries.specs.Holding.{HoldingValue}
use Rattle.vet_entries.specs.PeerContent.{IsPeerContent, PeerContentValue, is_own, is_peer_entry}
use Rattle.vet_entries.specs.Publishers as Publishers
use Rattle.vet_entries.specs.PublisherRecords.{HasAny}
use Rattle.vet_entries.proofs.ImportCompared.{own_of, restored}
use Rattle.vet_files.specs.SameContent.{HasRecords, IsAudits, IsConfig, IsImports}
use Rattle.vet_files.specs.declared.imports_file.ImportedPeer.{ImportedPeer}
use Rattle.vet_files.proofs.Apart.{AreApart, IsOther}
use Rattle.vet_files.proofs.Once.{distinct-apart}
use Rattle.vet_files.proofs.Ordered.{in_order-is}
use Rattle.vet_files.proofs.PeerStanding.{can-stand}
use Rattle.vet_register.specs.Held.{HeldValue}
use Rattle.vet_register.specs.HeldFiles.{audits_of, config_of, content_of, imported_of, imports_of, is_audit}
use Rattle.vet_register.specs.HeldFiles.{is_exemption, spoken, unnumbered}
use Rattle.vet_register.specs.Sound.{AreSound, Differ, IsFrom, IsOfContent, IsSoundHeld, IsSoundPeer}
use Rattle.vet_register.proofs.FurtherCriteria.{named_once, none_built_in}
use Rattle.vet_register.proofs.Lists.{AllPairs-map}

-- ---- the criteria

items_differ : (cs : List Criterion) → NamedOnce (λ c. c.name) cs → AllPairs (λ a b. a ≢ b) cs
items_differ cs once i j d l m same = once i j d l m (ap (λ (c : Criterion). c.name) same)

-- ---- the entries

module _ (name : List ℕ) (content : PeerContentValue) (held : HoldingValue) (is : IsOfContent name content held) where
  from_content : (h : HeldEntry) → IsIn h held.entries → (e : Entry) × (IsIn e content.entries × (own h.entry ≡ e))
  from_content h i =
      let among = is.entries.1 h.entry (map_in (λ (g : HeldEntry). g.entry) held.entries h i) in
      let e = in_map (of_source (Peer name)) content.entries h.entry among in
      let its : e.0.source ≡ Own = own_of e.0
      (in_all (λ x. is_peer_entry x ≡ true) content.entries is.readable.kinds e.0 e.1.0) in
      (e.0, (e.1.0, ap own e.1.1 ∙ restored e.0 Own its))

  kinds : All (λ e. is_peer_entry e ≡ true) (spoken held.entries)
  kinds = all_in (λ e. is_peer_entry e ≡ true) (spoken held.entries) (λ e i.
      (let h = in_map (λ (g : HeldEntry). own g.entry) held.entries e i in
      let from = from_content h.0 h.1.0 in
      subst (λ x. is_peer_entry x ≡ true) (sym (h.1.1 ∙ from.1.1))
      (in_all (λ x. is_peer_entry x ≡ true) content.entries is.readable.kinds from.0 from.1.0)))

  once : NamedOnce (λ c. c.name) (further held.table)
  once = subst (λ t. NamedOnce (λ c. c.name) (further t)) (sym is.criteria)
      (further_are_defined content.criteria is.readable.named_once is.readable.further).1

  few : length (further held.table) ≤ MOST_PEER_CRITERIA
  few =
      let fewer : length (further held.table) ≤ length content.criteria =
      no_longer (further held.table) content.criteria (items_differ (further held.table) once)
      (λ c i. (further_are_defined content.criteria is.readable.named_once is.readable.further).0.0 c
      (subst (λ t. IsIn c (further t)) is.criteria i)) in
      let most : length content.criteria ≤ MOST_PEER_CRITERIA = is.readable.few in
      omega (arith, fewer, most)

-- ---- entries that differ

pairs_apart : {X : Type 0} (R : X → X → Type 0) (xs : List X) → AllPairs R xs → AreApart R xs
pairs_apart R [] h = tt
pairs_apart R (x ∷ xs) h = (pairs_head R x xs h, pairs_apart R xs (pairs_tail R x xs h))

-- no entry is passed over where all differ
pub each_once : (entries : List Entry) → AllPairs IsOther entries → distinct entries ≡ entries
each_once entries differ = distinct-apart entries (pairs_apart IsOther entries differ)

-- held entries differ without their numbers too
unnumbered_differ : (held : List HeldEntry) → AllPairs Differ held → AllPairs IsOther (unnumbered held)
unnumbered_differ held differ = AllPairs-map (λ (h : HeldEntry). h.entry) IsOther held differ

-- and those of one source do as each speaks of its own
pub spoken_differ : (source : Source) (held : List HeldEntry) → All (IsFrom source) held → AllPairs Differ held
    → AllPairs IsOther (spoken held)
spoken_differ source held from differ =
    AllPairs-map (λ (h : HeldEntry). own h.entry) IsOther held
    (λ i j d l m same. differ i j d l m
    (sym (restored (get_or held i d).entry source (from i d (omega (arith, l, m)))) ∙ ap (of_source source) same ∙
    restored (get_or held j d).entry source (from j d m)))

-- what differs as each speaks of its own differs
pub said_differ : (held : List HeldEntry) → AllPairs IsOther (spoken held) → AllPairs Differ held
said_differ held differ i j d l m same =
    let in_front : i < length held = omega (arith, l, m) in
    differ i j (own d.entry) l (rw length-map m)
    (get_or-map (λ (h : HeldEntry). own h.entry) held i d (own d.entry) in_front ∙ ap own same
    ∙ sym (get_or-map (λ (h : HeldEntry). own h.entry) held j d (own d.entry) m))

-- ---- peers

-- what is held of a sound peer is what a reader can give
pub readable : (next : ℕ) (peer : HeldPeer) → IsSoundPeer next peer → IsPeerContent (content_of peer.content).criteria
    (content_of peer.content).entries
readable next peer sound =
    let name = peer.settings.name in
    let content = sound.content.0 in
    let held = peer.content in
    let is = sound.content.1 in
    record {
      further = none_built_in held.table;
      named_once = once name content held is;
      few = few name content held is;
      kinds = kinds name content held is;
      once = each_once (spoken held.entries)
          (spoken_differ (Peer name) held.entries sound.entries.from sound.entries.different);
    }

pub all_readable : (peers : List HeldPeer) (next : ℕ) → All (IsSoundPeer next) peers → All
    (λ p. IsPeerContent (content_of p.content).criteria (content_of p.content).entries) peers
all_readable peers next sound = all_in
    (λ p. IsPeerContent (content_of p.content).criteria (content_of p.content).entries) peers
    (λ p i. readable next p (in_all (IsSoundPeer next) peers sound p i))

-- ---- the imports file

-- things in the order of their names are named once
named : {X : Type 0} (name : X → List ℕ) (xs : List X) → IsByKey (slice_cmp nat_cmp) name xs → NamedOnce name xs
named name xs up i j d l m same =
    false≢true (sym (ap is_eq (up i j d l m)) ∙ ap (λ n. is_eq (slice_cmp nat_cmp n (name (get_or xs j d)))) same ∙ ap
    is_eq (tied_itself nat_list_cmp_total (name (get_or xs j d))))

not_empty : {X : Type 0} (xs : List X) → 0 < length xs → xs ≡ [] → ⊥
not_empty xs more none = (let len : length xs ≡ 0 = ap length none in absurd (omega (arith, more, len)))

pub imports_readable : (facts : Facts) (next : ℕ) → AreSound facts next → IsImports (imports_of facts)
imports_readable facts next sound = record {
  published_once = named (λ (p : PackagePublishers). p.«package») facts.publishers sound.publishers.by_name.rising;
  published = all_in HasRecords facts.publishers (λ p i. (
    not_empty p.publishers (in_all HasAny facts.publishers sound.publishers.by_name.filled p i),
    in_order-is p.publishers p.publishers (record {
      in_order = in_all (λ (k : PackagePublishers). Publishers.IsInOrder k.publishers) facts.publishers
          sound.publishers.in_order p i;
      same = λ x. (λ h. h, λ h. h);
    }),
  ));
  named_once = AllPairs-map imported_of (λ (a b : ImportedPeer). a.name ≡ b.name → ⊥) facts.peers
      (named peer_name facts.peers sound.peers.by_name);
  peers = all_in _ (map imported_of facts.peers) (λ p i.
      (let q = in_map imported_of facts.peers p i in
      let is = readable next q.0 (in_all (IsSoundPeer next) facts.peers sound.peers.sound q.0 q.1.0) in
      can-stand p.content.criteria p.content.entries
      (subst (λ (x : ImportedPeer). IsPeerContent x.content.criteria x.content.entries) (sym q.1.1) is)));
}

-- ---- the audits file and the config file

-- own entries that pass are such ones of one's own
own_ones : (passes : Entry → Bool) (held : List HeldEntry) → All (IsFrom Own) held → All
    (λ e. (is_own e.source && passes e) ≡ true) (filter passes (unnumbered held))
own_ones passes held from =
    all_in (λ e. (is_own e.source && passes e) ≡ true) (filter passes (unnumbered held)) (λ e i.
    (let among = in_filter passes (unnumbered held) e i in
    let h = in_map (λ (g : HeldEntry). g.entry) held e among.0 in
    let its : e.source ≡ Own = ap (λ (x : Entry). x.source) h.1.1 ∙ in_all (IsFrom Own) held from h.0 h.1.0 in
    ap (λ s. is_own s && passes e) its ∙ among.1))

own_once : (passes : Entry → Bool) (held : List HeldEntry) → AllPairs Differ held → distinct
    (filter passes (unnumbered held)) ≡ filter passes (unnumbered held)
own_once passes held differ = each_once (filter passes (unnumbered held))
    (AllPairs-filter IsOther passes (unnumbered held) (unnumbered_differ held differ))

pub audits_readable : (facts : Facts) (next : ℕ) → AreSound facts next → IsAudits (audits_of facts)
audits_readable facts next sound = record {
  further = none_built_in facts.criteria;
  named_once = named_once facts.criteria sound.criteria;
  few = tt;
  kinds = own_ones is_audit facts.entries sound.entries.from;
  once = own_once is_audit facts.entries sound.entries.different;
}

pub config_readable : (held : HeldValue) (next : ℕ) → IsSoundHeld held next → IsConfig (config_of held)
config_readable held next sound = record {
  named_once = AllPairs-map (λ (p : HeldPeer). p.settings) (λ (a b : PeerSettings). a.name ≡ b.name → ⊥)
      held.facts.peers (named peer_name held.facts.peers sound.facts.peers.by_name);
  by_key = sound.policies.by_key;
  kinds = own_ones is_exemption held.facts.entries sound.facts.entries.from;
  once = own_once is_exemption held.facts.entries sound.facts.entries.different;
}
