-- What entries and peers are after three files took the place of what is held.
use Rattle.std.proofs.Common.{◌≡◌, ◌⊎◌, ℕ, ◌+◌, ◌≤◌, true, List, [], ◌∷◌, length, map, Option, Some, None, inl, inr}
use Rattle.std.proofs.Common.{refl, sym, ap, subst, ◌∙◌, arith}
use Rattle.std.specs.List.{All, AllPairs, sum_by}
use Rattle.std.specs.declared.cmp.Ordering.TheVariants.{Less}
use Rattle.std.proofs.lemmas.List.Elements.{All-nil, All-cons, All-weaker}
use Rattle.std.proofs.lemmas.List.Kept.{AllPairs-cons}
use Rattle.std.proofs.lemmas.List.Sums.{sum_by-cons}
use Rattle.vet_base.specs.declared.limits.TheConstants.{MOST_PEERS}
use Rattle.vet_base.specs.Items.{IsIn}
use Rattle.vet_base.specs.Keyed.{IsByKey, item_of}
use Rattle.vet_base.proofs.ItemLemmas.{all_in, in_all, in_map, pairs_head, pairs_none, pairs_tail}
use Rattle.vet_base.proofs.KeyedParts.{item_found}
use Rattle.vet_base.proofs.Rising.{R}
use Rattle.vet_entries.specs.declared.entry.Source.TheVariants.{Own, Peer}
use Rattle.vet_entries.specs.declared.facts.HeldEntry.{HeldEntry}
use Rattle.vet_entries.specs.declared.held_peer.HeldPeer.{HeldPeer}
use Rattle.vet_entries.specs.declared.peer_settings.PeerSettings.{PeerSettings}
use Rattle.vet_entries.specs.Facts.{entries_of_peers, entries_total}
use Rattle.vet_entries.specs.HeldPeer.{holding_or_none, peer_name, peer_of}
use Rattle.vet_entries.specs.PeerContent.{IsPeerContent}
use Rattle.vet_entries.specs.PeerSettings.{settings_name}
use Rattle.vet_entries.specs.Replaced.{as_of, entries_after, is_dated}
use Rattle.vet_entries.proofs.ImportLaws.{entries_are_taken, entries_keep_order, entries_stand_once, entry_keeps_number}
use Rattle.vet_entries.proofs.ImportLaws.{holds_each_once, number_kept}
use Rattle.vet_entries.proofs.PeerLaws.{found_name}
use Rattle.vet_files.specs.FilesContent.{FilesValue, IsFiles, content_for, content_held}
use Rattle.vet_files.specs.Imports.{imported_name}
use Rattle.vet_files.specs.declared.imports_file.ImportedPeer.{ImportedPeer}
use Rattle.vet_register.specs.Replacing.{count_of_peer, entries_of_files, facts_of_files, held_of_peer, new_of_files}
use Rattle.vet_register.specs.Replacing.{new_of_peer, new_own, peer_after, peers_after}
use Rattle.vet_register.specs.Sound.{AreEntries, ArePeers, IsFrom, IsGiven, IsSoundPeer, ShareNone}
use Rattle.vet_register.specs.State.{State}
use Rattle.vet_register.proofs.DatedEntries.{dated_alone}
use Rattle.vet_register.proofs.PeerEffects.{PeersSound, found_in, found_sound, imported_sound, later_entries}
use Rattle.vet_register.proofs.PeerEffects.{later_peer, none_shared, nothing_readable, other_names, peers_apart}
use Rattle.vet_register.proofs.PeerEffects.{set_from_own, set_sound, set_to, share_none, shared, theirs}

-- ---- what is held before

-- what is held of a peer of these settings is that peer's, and its numbers were given
pub peer_before : (peers : List HeldPeer) (next : ℕ) → ArePeers peers next → (p : PeerSettings)
    → All (IsFrom (Peer p.name)) (held_of_peer peers p).entries × All (IsGiven next) (held_of_peer peers p).entries
peer_before peers next are p = by (peer_of peers p.name) refl
  where
    by : (o : Option HeldPeer) → peer_of peers p.name ≡ o → All (IsFrom (Peer p.name)) (holding_or_none o).entries ×
        All (IsGiven next) (holding_or_none o).entries
    by None e = (All-nil (IsFrom (Peer p.name)), All-nil (IsGiven next))
    by (Some x) e =
        let entries = (found_sound peers p.name next x are e).entries in (
          subst (λ name. All (IsFrom (Peer name)) x.content.entries) (found_name peers p.name x e) entries.from,
          entries.numbers_given,
        )

-- a reader can give what the imports file says of a peer
pub content_readable : (f : FilesValue) → IsFiles f → (name : List ℕ) → IsPeerContent
    (content_for f.contents name).criteria (content_for f.contents name).entries
content_readable f is name = by (item_of R imported_name f.contents name) refl
  where
    by : (o : Option ImportedPeer) → item_of R imported_name f.contents name ≡ o → IsPeerContent
        (content_held o).criteria (content_held o).entries
    by None e = nothing_readable
    by (Some x) e = (item_found R imported_name
        (λ (p : ImportedPeer). IsPeerContent p.content.criteria p.content.entries) f.contents name x is.readable e).1

-- entries that were among some, or are new, are apart from such others, where those are, and the first end below the
-- others'
-- new ones
both_apart : (k m : ℕ) (hs xs is ys : List HeldEntry) → ((h : HeldEntry) → IsIn h xs → IsIn h hs ⊎ (k ≤ h.number)) →
    ((h : HeldEntry) → IsIn h ys → IsIn h is ⊎ (m ≤ h.number))
    → ShareNone hs is → All (IsGiven k) is → All (IsGiven m) xs → ShareNone xs ys
both_apart k m hs xs is ys from_xs from_ys apart given below =
    shared ys xs (share_none m is ys xs from_ys (shared xs is (share_none k hs xs is from_xs apart given)) below)

-- ---- one's own entries

pub files_entries : (s : State) (f : FilesValue) → IsFiles f → AreEntries Own s.held.facts.entries s.next_entry
    → AreEntries Own (entries_after is_dated Own s.next_entry s.held.facts.entries f.entries)
    (s.next_entry + new_of_files s.held.facts f)
files_entries s f is h =
    let own = s.held.facts.entries in
    let end = s.next_entry + new_own s.held.facts f in
    let after = entries_after is_dated Own s.next_entry own f.entries in
    let order = entries_keep_order is_dated Own s.next_entry own f.entries h.numbers_rise h.numbers_given in
    later_entries Own after end (s.next_entry + new_of_files s.held.facts f) (omega arith) (record {
      from = All-weaker IsTaken (IsFrom Own) from after (entries_are_taken is_dated Own s.next_entry own f.entries);
      different = (entries_stand_once is_dated Own s.next_entry own f.entries is.own is.once h.different).0;
      numbers_rise = order.0;
      numbers_given = order.1;
    })
  where
    IsTaken : HeldEntry → Type 0
    IsTaken e = (IsIn e s.held.facts.entries × (is_dated e ≡ true))
        ⊎ (IsIn e.entry (as_of Own f.entries) × (e.entry.source ≡ Own))

    from : (e : HeldEntry) → IsTaken e → IsFrom Own e
    from e (inl stays) = in_all (IsFrom Own) s.held.facts.entries h.from e stays.0
    from e (inr given) = given.1

-- ---- peers

module _ (own : List HeldEntry) (peers : List HeldPeer) (next : ℕ) (h : PeersSound own peers next)
    (contents : List ImportedPeer)
    (readable : (name : List ℕ) → IsPeerContent (content_for contents name).criteria
    (content_for contents name).entries) where
  abbrev before : PeerSettings → List HeldEntry
  before p = (held_of_peer peers p).entries

  abbrev fresh : PeerSettings → ℕ
  fresh = new_of_peer peers contents

  abbrev after : ℕ → List PeerSettings → List HeldPeer
  after k ps = peers_after k peers contents ps

  before_given : (k : ℕ) → next ≤ k → (p : PeerSettings) → All (IsGiven k) (before p)
  before_given k above p = All-weaker (IsGiven next) (IsGiven k) (λ e low. omega (arith, above, low)) (before p)
      (peer_before peers next h.are p).1

  -- what is held of peers of two names is apart
  before_apart : (p q : PeerSettings) → (p.name ≡ q.name → ⊥) → ShareNone (before p) (before q)
  before_apart p q differ = by (peer_of peers p.name) (peer_of peers q.name) refl refl
    where
      by : (o u : Option HeldPeer) → peer_of peers p.name ≡ o → peer_of peers q.name ≡ u → ShareNone
          (holding_or_none o).entries (holding_or_none u).entries
      by None u e d = shared (holding_or_none u).entries [] (none_shared (holding_or_none u).entries)
      by (Some x) None e d = none_shared x.content.entries
      by (Some x) (Some y) e d =
          peers_apart own peers h.apart x y (found_in peers p.name x e) (found_in peers q.name y d)
          (λ same. differ (sym (found_name peers p.name x e) ∙ same ∙ found_name peers q.name y d))

  one_sound : (k : ℕ) → next ≤ k → (p : PeerSettings) → IsSoundPeer (k + fresh p) (peer_after k peers contents p)
  one_sound k above p =
      let x = set_to own peers p next h (peer_of peers p.name) in
      imported_sound k x (content_for contents p.name) (readable p.name)
      (later_peer next k above x (set_sound own peers p next h (peer_of peers p.name) refl))

  each_sound : (k : ℕ) → next ≤ k → (ps : List PeerSettings) → All (IsSoundPeer (k + sum_by fresh ps)) (after k ps)
  each_sound k above [] = All-nil _
  each_sound k above (p ∷ ps) =
      let j = k + fresh p in
      let end = k + sum_by fresh (p ∷ ps) in
      let sum = sum_by-cons fresh p ps in
      All-cons (IsSoundPeer end) (peer_after k peers contents p) (after j ps)
      (later_peer j end (omega (arith, sum)) (peer_after k peers contents p) (one_sound k above p))
      (All-weaker (IsSoundPeer (j + sum_by fresh ps)) (IsSoundPeer end)
      (later_peer (j + sum_by fresh ps) end (omega (arith, sum))) (after j ps)
      (each_sound j (omega (arith, above)) ps))

  -- each has settings that are given, and entries that were held under them, or have new numbers
  each_from : (k : ℕ) (ps : List PeerSettings) (q : HeldPeer) → IsIn q (after k ps)
      → IsIn q.settings ps × ((e : HeldEntry) → IsIn e q.content.entries → IsIn e (before q.settings) ⊎ (k ≤ e.number))
  each_from k [] q i = absurd i
  each_from k (p ∷ ps) q (inl same) = (
    inl (ap (λ (x : HeldPeer). x.settings) same),
    subst (λ (x : HeldPeer). (e : HeldEntry) → IsIn e x.content.entries → IsIn e (before x.settings) ⊎ (k ≤ e.number))
        (sym same)
        (number_kept p.name k (before p) (content_for contents p.name).entries),
  )
  each_from k (p ∷ ps) q (inr i) =
      let rest = each_from (k + fresh p) ps q i in
      (inr rest.0, λ e j. elim (rest.1 e j) [ inl old ↦ inl old | inr new ↦ inr (omega (arith, new)) ])

  names_rise : (k : ℕ) (ps : List PeerSettings) → IsByKey R settings_name ps → IsByKey R peer_name (after k ps)
  names_rise k [] up = pairs_none (λ (a b : HeldPeer). R (peer_name a) (peer_name b) ≡ Less)
  names_rise k (p ∷ ps) up =
      let Before : PeerSettings → PeerSettings → Type 0 = λ a b. R a.name b.name ≡ Less in
      let rest = after (k + fresh p) ps in
      AllPairs-cons (λ (a b : HeldPeer). R (peer_name a) (peer_name b) ≡ Less) (peer_after k peers contents p) rest
      (all_in (λ (q : HeldPeer). R p.name q.settings.name ≡ Less) rest
      (λ q i. in_all (Before p) ps (pairs_head Before p ps up) q.settings (each_from (k + fresh p) ps q i).0))
      (names_rise (k + fresh p) ps (pairs_tail Before p ps up))

  -- the entries of one are apart from those of each after it
  one_apart : (k : ℕ) → next ≤ k → (p : PeerSettings) (ps : List PeerSettings) → IsByKey R settings_name (p ∷ ps)
      → (q : HeldPeer) → IsIn q (after (k + fresh p) ps) → ShareNone (theirs (peer_after k peers contents p)) (theirs q)
  one_apart k above p ps up q i =
      let Before : PeerSettings → PeerSettings → Type 0 = λ a b. R a.name b.name ≡ Less in
      let from = each_from (k + fresh p) ps q i in
      both_apart k (k + fresh p) (before p) (theirs (peer_after k peers contents p)) (before q.settings) (theirs q)
      (number_kept p.name k (before p) (content_for contents p.name).entries) from.1
      (before_apart p q.settings
      (other_names p.name q.settings.name (in_all (Before p) ps (pairs_head Before p ps up) q.settings from.0)))
      (before_given k above q.settings) (one_sound k above p).entries.numbers_given

  each_apart : (k : ℕ) → next ≤ k → (ps : List PeerSettings) → IsByKey R settings_name ps → AllPairs ShareNone
      (map theirs (after k ps))
  each_apart k above [] up = pairs_none ShareNone
  each_apart k above (p ∷ ps) up =
      let first = theirs (peer_after k peers contents p) in
      let rest = after (k + fresh p) ps in
      AllPairs-cons ShareNone first (map theirs rest)
      (all_in (ShareNone first) (map theirs rest)
      (λ ys i. (let m = in_map theirs rest ys i in subst (ShareNone first) (sym m.1.1)
      (one_apart k above p ps up m.0 m.1.0))))
      (each_apart (k + fresh p) (omega (arith, above)) ps
      (pairs_tail (λ (a b : PeerSettings). R a.name b.name ≡ Less) p ps up))

  as_many : (k : ℕ) (ps : List PeerSettings) → length (after k ps) ≡ length ps
  as_many k [] = refl
  as_many k (p ∷ ps) = omega (arith, as_many (k + fresh p) ps)

  -- each holds what is given
  each_counted : (k : ℕ) → next ≤ k → (ps : List PeerSettings) → entries_of_peers (after k ps) ≡ sum_by
      (count_of_peer contents) ps
  each_counted k above [] = refl
  each_counted k above (p ∷ ps) =
      let x = set_to own peers p next h (peer_of peers p.name) in
      let different = (set_sound own peers p next h (peer_of peers p.name) refl).entries.different in
      let one : length (theirs (peer_after k peers contents p)) ≡ count_of_peer contents p =
      (holds_each_once p.name k (before p) (content_for contents p.name) (readable p.name) different).1 in
      omega (
        arith,
        one,
        each_counted (k + fresh p) (omega (arith, above)) ps,
        sum_by-cons (count_of_peer contents) p ps,
        sum_by-cons (λ (q : HeldPeer). length q.content.entries) (peer_after k peers contents p)
            (after (k + fresh p) ps),
      )

  -- one's own after, which were held or have new numbers below these, are apart from each peer's
  own_and_each : (k : ℕ) → next ≤ k → (ps : List PeerSettings) (mine : List HeldEntry) →
      ((e : HeldEntry) → IsIn e mine → IsIn e own ⊎ (next ≤ e.number)) → All (IsGiven k) mine
      → (q : HeldPeer) → IsIn q (after k ps) → ShareNone mine (theirs q)
  own_and_each k above ps mine from below q i =
      both_apart next k own mine (before q.settings) (theirs q) from (each_from k ps q i).1
      (set_from_own own peers q.settings next h (peer_of peers q.settings.name) refl)
      (before_given next (omega arith) q.settings) below

pub files_peers : (s : State) (f : FilesValue) → IsFiles f → AreEntries Own s.held.facts.entries s.next_entry →
    PeersSound s.held.facts.entries s.held.facts.peers s.next_entry
    → length f.settings ≤ MOST_PEERS
    → PeersSound (facts_of_files s.next_entry f s.held.facts).entries
    (facts_of_files s.next_entry f s.held.facts).peers (s.next_entry + new_of_files s.held.facts f)
files_peers s f is mine h few =
    let facts = s.held.facts in
    let next = s.next_entry in
    let readable = content_readable f is in
    let k = next + new_own facts f in
    let end = next + new_of_files facts f in
    let sum = sum_by (new_of_peer facts.peers f.contents) f.settings in
    let own_after = entries_after is_dated Own next facts.entries f.entries in
    let after = peers_after k facts.peers f.contents f.settings in
    let above : next ≤ k = omega arith in
    record {
      are = record {
        by_name = names_rise facts.entries facts.peers next h f.contents readable k f.settings is.settings_by_name;
        sound = All-weaker (IsSoundPeer (k + sum)) (IsSoundPeer end) (later_peer (k + sum) end (omega arith)) after
            (each_sound facts.entries facts.peers next h f.contents readable k above f.settings);
        few = omega (arith, few, as_many facts.entries facts.peers next h f.contents readable k f.settings);
      };
      apart = AllPairs-cons ShareNone own_after (map theirs after)
          (all_in (ShareNone own_after) (map theirs after) (λ ys i.
          (let m = in_map theirs after ys i in
          subst (ShareNone own_after) (sym m.1.1)
          (own_and_each facts.entries facts.peers next h f.contents readable k above f.settings own_after
          (entry_keeps_number is_dated Own next facts.entries f.entries)
          (entries_keep_order is_dated Own next facts.entries f.entries mine.numbers_rise mine.numbers_given).1 m.0
          m.1.0))))
          (each_apart facts.entries facts.peers next h f.contents readable k above f.settings is.settings_by_name);
    }

-- as many entries are held as the files hold, and exemptions with a last day
pub files_counted : (s : State) (f : FilesValue) → IsFiles f → AreEntries Own s.held.facts.entries s.next_entry →
    PeersSound s.held.facts.entries s.held.facts.peers s.next_entry
    → entries_total (facts_of_files s.next_entry f s.held.facts) ≡ entries_of_files s.held.facts f
files_counted s f is mine h =
    let facts = s.held.facts in
    let k = s.next_entry + new_own facts f in
    omega (
      arith,
      (entries_stand_once is_dated Own s.next_entry facts.entries f.entries is.own is.once mine.different).1,
      ap (λ (hs : List HeldEntry). length hs) (dated_alone f.entries is.undated facts.entries),
      each_counted facts.entries facts.peers s.next_entry h f.contents (content_readable f is) k (omega arith)
          f.settings,
    )
