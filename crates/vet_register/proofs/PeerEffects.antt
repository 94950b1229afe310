-- What peers are after one was set, dropped or imported.
use Rattle.std.proofs.Common.{◌≡◌, ◌⊎◌, ℕ, ◌+◌, ◌<◌, ◌≤◌, true, false, not, ◌&&◌, is_none, List, [], ◌∷◌, filter}
use Rattle.std.proofs.Common.{get_or, length, map, Option, Some, None, inl, inr, refl, sym, ap, subst, ◌∙◌, arith}
use Rattle.std.proofs.Common.{eqb-true}
use Rattle.std.specs.Cmp.{tied_itself}
use Rattle.std.specs.Cmp.Lexicographic.{nat_list_cmp_total}
use Rattle.std.specs.List.{All, AllPairs}
use Rattle.std.specs.Ordering.{is_eq, is_gt, is_lt}
use Rattle.std.specs.Prelude.{nat_lt}
use Rattle.std.specs.declared.cmp.Ordering.TheVariants.{Less}
use Rattle.std.proofs.lemmas.Bool.{false≢true}
use Rattle.std.proofs.lemmas.List.Elements.{All-nil, All-weaker}
use Rattle.std.proofs.lemmas.List.Kept.{AllPairs-cons}
use Rattle.vet_base.specs.declared.criterion.Criterion.{Criterion}
use Rattle.vet_base.specs.declared.limits.TheConstants.{MOST_PEERS}
use Rattle.vet_base.specs.Items.{IsIn}
use Rattle.vet_base.specs.Keyed.{IsByKey, is_before, is_behind, is_of}
use Rattle.vet_base.proofs.KeyedLemmas.{IsByKey-with_item}
use Rattle.vet_base.proofs.KeyedParts.{All-with_item, All-without_item, IsByKey-without_item, item_found}
use Rattle.vet_base.proofs.Rising.{R, only_equal}
use Rattle.vet_entries.specs.declared.entry.Source.{Source}
use Rattle.vet_entries.specs.declared.entry.Source.TheVariants.{Peer}
use Rattle.vet_entries.specs.declared.facts.HeldEntry.{HeldEntry}
use Rattle.vet_entries.specs.declared.held_peer.HeldPeer.{HeldPeer}
use Rattle.vet_entries.specs.declared.peer_settings.PeerSettings.{PeerSettings}
use Rattle.vet_entries.specs.HeldPeer.{as_peers, entries_after_import, holding_or_none, imported, new_entries}
use Rattle.vet_entries.specs.HeldPeer.{peer_name, peer_of, with_content_of, with_peer, with_settings, without_peer}
use Rattle.vet_entries.specs.Numbered.{Rise, has_number}
use Rattle.vet_entries.specs.PeerContent.{IsPeerContent, PeerContentValue}
use Rattle.vet_base.proofs.ItemLemmas.{all_in, any_in, in_all, in_any, in_append, in_filter, in_map, map_in, pairs_head}
use Rattle.vet_base.proofs.ItemLemmas.{pairs_none, pairs_tail}
use Rattle.vet_entries.proofs.ImportLaws.{holds_each_once, holds_its_content, keeps_order, number_kept, takes_entries}
use Rattle.vet_entries.proofs.PeerLaws.{found_name}
use Rattle.vet_register.specs.Sound.{AreEntries, ArePeers, Differ, IsFrom, IsGiven, IsOfContent, IsSoundPeer, ShareNone}
use Rattle.vet_register.proofs.Fewness.{few_over, few_with}
use Rattle.vet_register.proofs.Lists.{AllPairs-map, filter-fewer}

-- ---- numbers among entries

pub shared : (xs ys : List HeldEntry) → ShareNone xs ys → ShareNone ys xs
shared xs ys h n a b = h n b a

pub none_shared : (xs : List HeldEntry) → ShareNone xs []
none_shared xs n a b = false≢true b

-- numbers that were among others, or are new, are not among entries of lower numbers
pub share_none : (next : ℕ) (hs xs ys : List HeldEntry) →
    ((h : HeldEntry) → IsIn h xs → IsIn h hs ⊎ (next ≤ h.number)) → ShareNone hs ys → All (IsGiven next) ys →
    ShareNone xs ys
share_none next hs xs ys from apart given n a b =
    let x = any_in (has_number n) xs a in
    let y = any_in (has_number n) ys b in
    elim (from x.0 x.1.0) [
      | inl held ↦ apart n (in_any (has_number n) hs x.0 held x.1.1) b
      | inr later ↦
          (let here : x.0.number ≡ n = eqb-true x.0.number n x.1.1 in
          let there : y.0.number ≡ n = eqb-true y.0.number n y.1.1 in
          let low : y.0.number < next = in_all (IsGiven next) ys given y.0 y.1.0 in
          absurd (omega (arith, later, here, there, low)))
    ]

-- ---- entries of all sources

abbrev pub theirs : HeldPeer → List HeldEntry
theirs p = p.content.entries

abbrev pub AreByName : List HeldPeer → Type 0
AreByName peers = IsByKey R peer_name peers

abbrev pub Sources : List HeldEntry → List HeldPeer → Type 0
Sources own peers = AllPairs ShareNone (own ∷ map (λ (p : HeldPeer). p.content.entries) peers)

pub own_apart : (own : List HeldEntry) (peers : List HeldPeer) → Sources own peers → (p : HeldPeer) → IsIn p peers →
    ShareNone own (theirs p)
own_apart own peers h p i = in_all (ShareNone own) (map theirs peers) (pairs_head ShareNone own (map theirs peers) h)
    (theirs p) (map_in theirs peers p i)

two_apart : (peers : List HeldPeer) → AllPairs ShareNone (map theirs peers) → (p q : HeldPeer) → IsIn p peers → IsIn q
    peers → (p ≡ q → ⊥) → ShareNone (theirs p) (theirs q)
two_apart [] h p q i j differ = absurd i
two_apart (x ∷ xs) h p q (inl a) (inl b) differ = absurd (differ (a ∙ sym b))
two_apart (x ∷ xs) h p q (inl a) (inr j) differ =
    subst (λ z. ShareNone (theirs z) (theirs q)) (sym a)
    (in_all (ShareNone (theirs x)) (map theirs xs) (pairs_head ShareNone (theirs x) (map theirs xs) h) (theirs q)
    (map_in theirs xs q j))
two_apart (x ∷ xs) h p q (inr i) (inl b) differ =
    subst (λ z. ShareNone (theirs p) (theirs z)) (sym b) (shared (theirs x) (theirs p)
    (in_all (ShareNone (theirs x)) (map theirs xs) (pairs_head ShareNone (theirs x) (map theirs xs) h) (theirs p)
    (map_in theirs xs p i)))
two_apart (x ∷ xs) h p q (inr i) (inr j) differ = two_apart xs (pairs_tail ShareNone (theirs x) (map theirs xs) h) p q
    i j differ

abbrev OfOthers : HeldPeer → HeldPeer → Type 0
OfOthers p q = p.settings.name ≡ q.settings.name → ⊥

pub peers_apart : (own : List HeldEntry) (peers : List HeldPeer) → Sources own peers → (p q : HeldPeer) → IsIn p peers
    → IsIn q peers → OfOthers p q → ShareNone (theirs p) (theirs q)
peers_apart own peers h p q i j differ = two_apart peers (pairs_tail ShareNone own (map theirs peers) h) p q i j
    (λ e. differ (ap peer_name e))

pub other_names : (a b : List ℕ) → R a b ≡ Less → a ≡ b → ⊥
other_names a b less same = false≢true
    (sym (ap is_eq less) ∙ ap (λ n. is_eq (R n b)) same ∙ ap is_eq (tied_itself nat_list_cmp_total b))

other_before : (a b : List ℕ) → is_lt (R a b) ≡ true → a ≡ b → ⊥
other_before a b h same = false≢true
    (sym (ap is_lt (tied_itself nat_list_cmp_total b)) ∙ ap (λ n. is_lt (R n b)) (sym same) ∙ h)

other_behind : (a b : List ℕ) → is_gt (R a b) ≡ true → a ≡ b → ⊥
other_behind a b h same = false≢true
    (sym (ap is_gt (tied_itself nat_list_cmp_total b)) ∙ ap (λ n. is_gt (R n b)) (sym same) ∙ h)

-- sources are apart where one's own are from each peer's, and each peer's from those of other names
pub all_apart : (own : List HeldEntry) (peers : List HeldPeer) → AreByName peers →
    ((p : HeldPeer) → IsIn p peers → ShareNone own (theirs p))
    → ((p q : HeldPeer) → IsIn p peers → IsIn q peers → OfOthers p q → ShareNone (theirs p) (theirs q)) → Sources own
    peers
all_apart own peers up first two =
    AllPairs-cons ShareNone own (map theirs peers)
    (all_in (ShareNone own) (map theirs peers)
    (λ ys i. (let m = in_map theirs peers ys i in subst (ShareNone own) (sym m.1.1) (first m.0 m.1.0))))
    (AllPairs-map theirs ShareNone peers (λ i j d l m.
    two (get_or peers i d) (get_or peers j d) (each i d (omega (arith, l, m))) (each j d m)
    (other_names _ _ (up i j d l m))))
  where
    each : All (λ p. IsIn p peers) peers
    each = all_in (λ p. IsIn p peers) peers (λ p i. i)

-- ---- one peer put in

pub in_with : (peers : List HeldPeer) (p x : HeldPeer) → IsIn x (with_peer p peers) → (x ≡ p) ⊎
    (IsIn x peers × OfOthers x p)
in_with peers p x i = elim
    (in_append (filter (is_before R peer_name (peer_name p)) peers)
    (p ∷ filter (is_behind R peer_name (peer_name p)) peers) x i) [
      | inl front ↦ (let f = in_filter (is_before R peer_name (peer_name p)) peers x front in inr
          (f.0, other_before _ _ f.1))
      | inr rest ↦ elim rest [
        | inl same ↦ inl same
        | inr back ↦ (let f = in_filter (is_behind R peer_name (peer_name p)) peers x back in inr
            (f.0, other_behind _ _ f.1))
      ]
    ]

apart_with : (own : List HeldEntry) (peers : List HeldPeer) (p : HeldPeer) → Sources own peers → AreByName peers →
    ShareNone own (theirs p)
    → ((x : HeldPeer) → IsIn x peers → OfOthers x p → ShareNone (theirs x) (theirs p)) → Sources own (with_peer p peers)
apart_with own peers p h up first two =
    all_apart own (with_peer p peers) (IsByKey-with_item R nat_list_cmp_total only_equal peer_name peers p up)
    (λ x i. elim (in_with peers p x i)
    [ inl e ↦ subst (λ z. ShareNone own (theirs z)) (sym e) first | inr k ↦ own_apart own peers h x k.0 ])
    (λ x y i j differ. pairs x y (in_with peers p x i) (in_with peers p y j) differ)
  where
    pairs : (x y : HeldPeer) → (x ≡ p) ⊎ (IsIn x peers × OfOthers x p) → (y ≡ p) ⊎ (IsIn y peers × OfOthers y p) →
        OfOthers x y → ShareNone (theirs x) (theirs y)
    pairs x y (inl a) (inl b) differ = absurd (differ (ap peer_name (a ∙ sym b)))
    pairs x y (inl a) (inr k) differ = subst (λ z. ShareNone (theirs z) (theirs y)) (sym a)
        (shared (theirs y) (theirs p) (two y k.0 k.1))
    pairs x y (inr k) (inl b) differ = subst (λ z. ShareNone (theirs x) (theirs z)) (sym b) (two x k.0 k.1)
    pairs x y (inr k) (inr l) differ = peers_apart own peers h x y k.0 l.0 differ

pub later_entries : (source : Source) (entries : List HeldEntry) (n m : ℕ) → n ≤ m → AreEntries source entries n →
    AreEntries source entries m
later_entries source entries n m above h = record {
  from = h.from;
  different = h.different;
  numbers_rise = h.numbers_rise;
  numbers_given = All-weaker (IsGiven n) (IsGiven m) (λ x given. omega (arith, above, given)) entries h.numbers_given;
}

pub later_peer : (n m : ℕ) → n ≤ m → (p : HeldPeer) → IsSoundPeer n p → IsSoundPeer m p
later_peer n m above p h = record
    { entries = later_entries (Peer p.settings.name) p.content.entries n m above h.entries; content = h.content }

-- ---- what is sound of peers, beside own entries

pub record PeersSound (own : List HeldEntry) (peers : List HeldPeer) (next : ℕ) : Type 0 where
  pub are : ArePeers peers next
  pub apart : Sources own peers

-- where own entries stay, go, or get new numbers
pub own_changed : (own other : List HeldEntry) (peers : List HeldPeer) (n m : ℕ) → n ≤ m →
    ((h : HeldEntry) → IsIn h other → IsIn h own ⊎ (n ≤ h.number))
    → PeersSound own peers n → PeersSound other peers m
own_changed own other peers n m above from h = record {
  are = record {
    by_name = h.are.by_name;
    sound = All-weaker (IsSoundPeer n) (IsSoundPeer m) (later_peer n m above)
        peers h.are.sound;
    few = h.are.few;
  };
  apart = all_apart other peers h.are.by_name
      (λ p i. share_none n own other (theirs p) from (own_apart own peers h.apart p i)
      (in_all (IsSoundPeer n) peers h.are.sound p i).entries.numbers_given)
      (peers_apart own peers h.apart);
}

-- where one is put in
put_in : (own : List HeldEntry) (peers : List HeldPeer) (p : HeldPeer) (n m : ℕ) → n ≤ m → PeersSound own peers n →
    IsSoundPeer m p
    → length (with_peer p peers) ≤ MOST_PEERS → ShareNone own (theirs p)
    → ((x : HeldPeer) → IsIn x peers → OfOthers x p → ShareNone (theirs x) (theirs p)) → PeersSound own
    (with_peer p peers) m
put_in own peers p n m above h sound few first two = record {
  are = record {
    by_name = IsByKey-with_item R nat_list_cmp_total only_equal peer_name peers p h.are.by_name;
    sound = All-with_item R peer_name (IsSoundPeer m) peers p
        (All-weaker (IsSoundPeer n) (IsSoundPeer m) (later_peer n m above) peers h.are.sound) sound;
    few = few;
  };
  apart = apart_with own peers p h.apart h.are.by_name first two;
}

-- where one is dropped
pub dropped_peer : (own : List HeldEntry) (peers : List HeldPeer) (name : List ℕ) (n m : ℕ) → n ≤ m → PeersSound own
    peers n → PeersSound own (without_peer name peers) m
dropped_peer own peers name n m above h =
    let rest = without_peer name peers in
    let up : AreByName rest = IsByKey-without_item R peer_name peers name h.are.by_name in
    let held : (x : HeldPeer) → IsIn x rest → IsIn x peers = λ x i. (in_filter _ peers x i).0 in
    record {
      are = record {
        by_name = up;
        sound = All-without_item R peer_name (IsSoundPeer m) peers name
            (All-weaker (IsSoundPeer n) (IsSoundPeer m) (later_peer n m above) peers h.are.sound);
        few = omega (arith, filter-fewer (λ e. not (is_of R peer_name name e)) peers, h.are.few);
      };
      apart = all_apart own rest up (λ x i. own_apart own peers h.apart x (held x i))
          (λ x y i j differ. peers_apart own peers h.apart x y (held x i) (held y j) differ);
    }

pub found_in : (peers : List HeldPeer) (name : List ℕ) (x : HeldPeer) → peer_of peers name ≡ Some x → IsIn x peers
found_in peers name x found =
    (item_found R peer_name (λ p. IsIn p peers) peers name x (all_in (λ p. IsIn p peers) peers (λ p i. i)) found).1

-- the peer that is found is sound
pub found_sound : (peers : List HeldPeer) (name : List ℕ) (n : ℕ) (x : HeldPeer) → ArePeers peers n → peer_of peers
    name ≡ Some x → IsSoundPeer n x
found_sound peers name n x are found = in_all (IsSoundPeer n) peers are.sound x (found_in peers name x found)

abbrev no_content : PeerContentValue
no_content = record { criteria = []; entries = [] }

-- a reader can give that nothing
pub nothing_readable : IsPeerContent no_content.criteria no_content.entries
nothing_readable = record {
  further = All-nil _;
  named_once = pairs_none (λ (a b : Criterion). a.name ≡ b.name → ⊥);
  few = omega arith;
  kinds = All-nil _;
  once = refl;
}

-- where the settings of one are set
module _ (own : List HeldEntry) (peers : List HeldPeer) (settings : PeerSettings) (n : ℕ) (h : PeersSound own peers n)
  where
    abbrev pub set_to : Option HeldPeer → HeldPeer
    set_to o = record { settings = settings; content = holding_or_none o }

    pub set_sound : (o : Option HeldPeer) → peer_of peers settings.name ≡ o → IsSoundPeer n (set_to o)
    set_sound None e = record {
      entries = record {
        from = All-nil (IsFrom (Peer settings.name));
        different = pairs_none Differ;
        numbers_rise = pairs_none Rise;
        numbers_given = All-nil (IsGiven n);
      };
      content = (
        no_content,
        record {
          readable = nothing_readable;
          criteria = refl;
          entries = (λ x i. i, λ x i. i);
        },
      );
    }
    set_sound (Some x) e =
        let same : x.settings.name ≡ settings.name = found_name peers settings.name x e in
        let sound = in_all (IsSoundPeer n) peers h.are.sound x (found_in peers settings.name x e) in
        record {
          entries = subst (λ name. AreEntries (Peer name) x.content.entries n) same sound.entries;
          content = (sound.content.0, subst (λ name. IsOfContent name sound.content.0 x.content) same sound.content.1);
        }

    pub set_from_own : (o : Option HeldPeer) → peer_of peers settings.name ≡ o → ShareNone own (theirs (set_to o))
    set_from_own None e = none_shared own
    set_from_own (Some x) e = own_apart own peers h.apart x (found_in peers settings.name x e)

    set_from_others : (o : Option HeldPeer) → peer_of peers settings.name ≡ o → (y : HeldPeer) → IsIn y peers → OfOthers
        y (set_to o) → ShareNone (theirs y) (theirs (set_to o))
    set_from_others None e y i differ = none_shared (theirs y)
    set_from_others (Some x) e y i differ = peers_apart own peers h.apart y x i (found_in peers settings.name x e)
        (λ same. differ (same ∙ found_name peers settings.name x e))

    pub settings_set : (m : ℕ) → n ≤ m → (is_none (peer_of peers settings.name) && nat_lt MOST_PEERS (length peers + 1))
        ≡ false
        → PeersSound own (with_settings settings peers) m
    settings_set m above limit =
        let o = peer_of peers settings.name in
        put_in own peers (set_to o) n m above h (later_peer n m above (set_to o) (set_sound o refl))
        (few_with R nat_list_cmp_total only_equal peer_name MOST_PEERS peers (set_to o) h.are.by_name h.are.few limit)
        (set_from_own o refl) (set_from_others o refl)

-- what is imported of a sound peer is sound
pub imported_sound : (next : ℕ) (x : HeldPeer) (content : PeerContentValue) → IsPeerContent content.criteria
    content.entries → IsSoundPeer next x
    → IsSoundPeer (next + length (new_entries x.settings.name x.content.entries content.entries))
    (record x { content = imported x.settings.name next content x.content })
imported_sound next x content is sound =
    let name = x.settings.name in
    let order = keeps_order name next x.content.entries content.entries sound.entries.numbers_rise
    sound.entries.numbers_given in
    let after = entries_after_import name next x.content.entries content.entries in
    record {
      entries = record {
        from = All-weaker (λ (h : HeldEntry). IsIn h.entry (as_peers name content.entries) ×
            (h.entry.source ≡ Peer name)) (IsFrom (Peer name))
            (λ e t. t.1) after (takes_entries name next x.content.entries content.entries);
        different = (holds_each_once name next x.content.entries content is sound.entries.different).0;
        numbers_rise = order.0;
        numbers_given = order.1;
      };
      content = (
        content,
        record {
          readable = is;
          criteria = refl;
          entries = (holds_its_content name next x.content content).0;
        },
      );
    }

-- where one is imported
module _ (own : List HeldEntry) (peers : List HeldPeer) (name : List ℕ) (next : ℕ) (content : PeerContentValue)
    (h : PeersSound own peers next)
    (given : All (IsGiven next) own) (is : IsPeerContent content.criteria content.entries) (x : HeldPeer)
    (found : peer_of peers name ≡ Some x) where
  same : x.settings.name ≡ name
  same = found_name peers name x found

  sound : IsSoundPeer next x
  sound = in_all (IsSoundPeer next) peers h.are.sound x (found_in peers name x found)

  abbrev new_peer : HeldPeer
  new_peer = record x { content = imported name next content x.content }

  abbrev end : ℕ
  end = next + length (new_entries name x.content.entries content.entries)

  import_sound : IsSoundPeer end new_peer
  import_sound =
      subst (λ k. IsSoundPeer (next + length (new_entries k x.content.entries content.entries))
      (record x { content = imported k next content x.content })) same
      (imported_sound next x content is sound)

  from_others : (ys : List HeldEntry) → ShareNone (theirs x) ys → All (IsGiven next) ys → ShareNone (theirs new_peer) ys
  from_others ys apart below = share_none next (theirs x) (theirs new_peer) ys
      (number_kept name next x.content.entries content.entries) apart below

  import_stays : PeersSound own (with_peer new_peer peers) end
  import_stays =
      put_in own peers new_peer next end (omega arith) h import_sound
      (few_over R nat_list_cmp_total only_equal peer_name MOST_PEERS peers new_peer x h.are.by_name h.are.few
      (ap (peer_of peers) same ∙ found))
      (shared (theirs new_peer) own
      (from_others own (shared own (theirs x) (own_apart own peers h.apart x (found_in peers name x found))) given))
      (λ y i differ. shared (theirs new_peer) (theirs y) (from_others (theirs y)
      (shared (theirs y) (theirs x) (peers_apart own peers h.apart y x i (found_in peers name x found) differ))
      (in_all (IsSoundPeer next) peers h.are.sound y i).entries.numbers_given))

pub imported_peer : (own : List HeldEntry) (peers : List HeldPeer) (name : List ℕ) (next : ℕ)
    (content : PeerContentValue) → PeersSound own peers next
    → All (IsGiven next) own → IsPeerContent content.criteria content.entries → (o : Option HeldPeer) → peer_of peers
    name ≡ o → is_none o ≡ false
    → PeersSound own (with_content_of o (imported name next content (holding_or_none o)) peers)
    (next + length (new_entries name (holding_or_none o).entries content.entries))
imported_peer own peers name next content h given is None e some = absurd (false≢true (sym some))
imported_peer own peers name next content h given is (Some x) e some = import_stays own peers name next content h
    given is x e
