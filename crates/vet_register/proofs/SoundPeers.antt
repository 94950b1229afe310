-- What a peer's file can give.
use Rattle.std.proofs.Common.{◌≡◌, ℕ, ◌<◌, ◌≤◌, ◌↔◌, ◌&&◌, Bool, true, false, List, [], ◌∷◌, length, refl}
use Rattle.std.proofs.Common.{sym, ap, subst, ◌∙◌, arith}
use Rattle.std.specs.List.{All}
use Rattle.std.proofs.lemmas.Bool.{false≢true}
use Rattle.std.proofs.lemmas.List.Elements.{All-head, All-tail}
use Rattle.vet_base.specs.declared.criterion.Criterion.{Criterion}
use Rattle.vet_base.specs.declared.limits.TheConstants.{MOST_PEER_CRITERIA}
use Rattle.vet_base.specs.Criteria.{Criteria}
use Rattle.vet_base.specs.Defined.{defined}
use Rattle.vet_base.specs.FurtherCriteria.{further}
use Rattle.vet_base.specs.Items.{IsIn, NamedOnce, SameItems}
use Rattle.vet_base.proofs.DefinitionLaws.{same_definitions}
use Rattle.vet_base.proofs.FurtherLaws.{further_are_defined}
use Rattle.vet_base.proofs.FurtherOrder.{AreNamed, defined_named, further_once}
use Rattle.vet_base.proofs.ItemLemmas.{all_in, in_all, in_map, map_in, no_longer}
use Rattle.vet_entries.specs.declared.entry.Entry.{Entry}
use Rattle.vet_entries.specs.declared.entry.Source.TheVariants.{Peer}
use Rattle.vet_entries.specs.declared.facts.HeldEntry.{HeldEntry}
use Rattle.vet_entries.specs.Entry.{of_source, own}
use Rattle.vet_entries.specs.HeldPeer.{as_peers}
use Rattle.vet_entries.specs.Holding.{HoldingValue}
use Rattle.vet_entries.specs.PeerContent.{PeerContentValue, is_own, is_peer_entry, is_peer_kind}
use Rattle.vet_entries.proofs.ImportCompared.{restored}
use Rattle.vet_register.specs.HeldFiles.{spoken, unnumbered}
use Rattle.vet_register.specs.Sound.{AreEntries, IsFrom, IsOfContent}
use Rattle.vet_register.specs.SoundPeers.{AreDefinedBy, AreOfPeer, IsOfPeer}
use Rattle.vet_register.proofs.FurtherCriteria.{none_built_in}
use Rattle.vet_register.proofs.Readable.{each_once, spoken_differ}

-- ---- the criteria

module _ (criteria : Criteria) (cs : List Criterion) (is : AreDefinedBy criteria cs) where
  theirs : SameItems (further criteria) cs
  theirs = subst (λ t. SameItems (further t) cs) (sym is.defines) (further_are_defined cs is.named_once is.further).0

  once : NamedOnce (λ (c : Criterion). c.name) (further criteria)
  once = subst (λ t. NamedOnce (λ (c : Criterion). c.name) (further t)) (sym is.defines)
      (further_are_defined cs is.named_once is.further).1

  few : length (further criteria) ≤ MOST_PEER_CRITERIA
  few =
      let fewer = no_longer (further criteria) cs
      (λ i j d l m same. once i j d l m (ap (λ (c : Criterion). c.name) same)) theirs.0 in
      let most = is.few in
      omega (arith, fewer, most)

  again : defined (further criteria) ≡ criteria
  again = (same_definitions (further criteria) cs once is.named_once (none_built_in criteria) is.further).1 theirs
      ∙ sym is.defines

-- there are no criteria that define them where those beside the built-in ones are too many
pub too_many : (criteria : Criteria) → MOST_PEER_CRITERIA < length (further criteria) → AreOfPeer criteria → ⊥
too_many criteria more of_peer = (let most = few criteria of_peer.0 of_peer.1 in absurd (omega (arith, more, most)))

-- there are some just where those beside the built-in ones do
pub again_is : (criteria : Criteria) → length (further criteria) ≤ MOST_PEER_CRITERIA
    → (defined (further criteria) ≡ criteria) ↔ AreOfPeer criteria
again_is criteria most = (
  λ same. (
    further criteria,
    record {
      further = none_built_in criteria;
      named_once = further_once criteria (subst AreNamed same (defined_named (further criteria)));
      few = most;
      defines = sym same;
    },
  ),
  λ of_peer. again criteria of_peer.0 of_peer.1,
)

-- ---- the entries

-- what the peer says itself is, as the peer's, what is held
as_held : (name : List ℕ) (held : List HeldEntry) → All (IsFrom (Peer name)) held → as_peers name (spoken held)
    ≡ unnumbered held
as_held name [] from = refl
as_held name (h ∷ held) from =
    λ i. restored h.entry (Peer name) (All-head (IsFrom (Peer name)) h held from) i
    ∷ as_held name held (All-tail (IsFrom (Peer name)) h held from) i

same_as : {X : Type 0} (xs ys : List X) → xs ≡ ys → SameItems xs ys
same_as {X} xs ys e = (λ x i. subst (λ zs. IsIn x zs) e i, λ x i. subst (λ zs. IsIn x zs) (sym e) i)

-- what is held is that of a content where its entries are sound and of the kinds that a peer gives, and its criteria
-- are those of a peer
pub content_of_parts : (name : List ℕ) (held : HoldingValue) (next : ℕ) → AreEntries (Peer name) held.entries next
    → All IsOfPeer held.entries → AreOfPeer held.table → (content : PeerContentValue) × IsOfContent name content held
content_of_parts name held next sound kinds of_peer = (
  record { criteria = of_peer.0; entries = spoken held.entries },
  record {
    readable = record {
      further = of_peer.1.further;
      named_once = of_peer.1.named_once;
      few = of_peer.1.few;
      kinds = all_in (λ e. is_peer_entry e ≡ true) (spoken held.entries) (λ e i.
          (let h = in_map (λ (g : HeldEntry). own g.entry) held.entries e i in
          subst (λ x. is_peer_entry x ≡ true) (sym h.1.1) (in_all IsOfPeer held.entries kinds h.0 h.1.0)));
      once = each_once (spoken held.entries) (spoken_differ (Peer name) held.entries sound.from sound.different);
    };
    criteria = of_peer.1.defines;
    entries = same_as (as_peers name (spoken held.entries)) (unnumbered held.entries)
        (as_held name held.entries sound.from);
  },
)

-- an entry that a peer's file gives is of such a kind
kind_of : (e : Entry) → is_peer_entry e ≡ true → is_peer_kind e.kind ≡ true
kind_of e h = by (is_own e.source) (is_peer_kind e.kind) h
  where
    by : (a b : Bool) → (a && b) ≡ true → b ≡ true
    by true b t = t
    by false b t = absurd (false≢true t)

module _ (name : List ℕ) (held : HoldingValue) (some : (content : PeerContentValue) × IsOfContent name content held)
  where
    -- what is held of a content has criteria of a peer
    pub criteria_of : AreOfPeer held.table
    criteria_of = (
      some.0.criteria,
      record {
        further = some.1.readable.further;
        named_once = some.1.readable.named_once;
        few = some.1.readable.few;
        defines = some.1.criteria;
      },
    )

    -- and entries of the kinds that a peer gives
    pub kinds_of : All IsOfPeer held.entries
    kinds_of = all_in IsOfPeer held.entries (λ h i.
        (let among = some.1.entries.1 h.entry (map_in (λ (g : HeldEntry). g.entry) held.entries h i) in
        let e = in_map (of_source (Peer name)) some.0.entries h.entry among in
        subst (λ (x : Entry). is_peer_kind x.kind ≡ true) (sym e.1.1)
        (kind_of e.0 (in_all (λ x. is_peer_entry x ≡ true) some.0.entries some.1.readable.kinds e.0 e.1.0))))
