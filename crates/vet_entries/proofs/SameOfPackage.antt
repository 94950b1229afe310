-- Which changes leave a package the same: own entries, publisher records and peers.
use Rattle.std.proofs.Common.{◌≡◌, ℕ, ◌||◌, Bool, true, false, List, [], ◌∷◌, ◌++◌, Option, Some, None, cond, map}
use Rattle.std.proofs.Common.{eqb, get_or, not, inl, inr, refl, sym, ap, ◌∙◌, arith}
use Rattle.std.specs.Prelude.{Contains}
use Rattle.std.specs.FinSet as set
use Rattle.std.specs.List.{All, filter, flat_map, list_any}
use Rattle.std.proofs.lemmas.Bool.{cases_Bool, cases_lt, false≢true}
use Rattle.std.proofs.lemmas.Bool.Decides.{eqb_tells}
use Rattle.std.proofs.lemmas.Cmp.{nat_list_cmp_total}
use Rattle.std.proofs.lemmas.List.{append-nil, get_or_default, map-append}
use Rattle.std.proofs.lemmas.List.Elements.{All-head, All-tail, filter-append}
use Rattle.std.proofs.lemmas.Slice.Eq.{bytes_eq-Decides}
use Rattle.vet_base.specs.Words.{Name}
use Rattle.vet_base.proofs.Comparisons.{is_false}
use Rattle.vet_base.proofs.Rising.{R, only_equal}
use Rattle.vet_entries.specs.declared.facts.HeldEntry.{HeldEntry}
use Rattle.vet_entries.specs.declared.held_peer.HeldPeer.{HeldPeer}
use Rattle.vet_entries.specs.declared.peer_settings.PeerSettings.{PeerSettings}
use Rattle.vet_entries.specs.declared.publisher.Publisher.{Publisher}
use Rattle.vet_entries.specs.ByPackage.{is_of}
use Rattle.vet_entries.specs.Facts.{Facts}
use Rattle.vet_entries.specs.HeldPeer.{holding_or_none, peer_name, peer_of, with_content, with_content_of, with_peer}
use Rattle.vet_entries.specs.HeldPeer.{with_settings, without_peer}
use Rattle.vet_entries.specs.Holding.{HoldingValue}
use Rattle.vet_entries.specs.Numbered.{AreByNumber, has_number}
use Rattle.vet_entries.specs.PublisherRecords.{with_records}
use Rattle.vet_entries.specs.SameOf.{IsSameOf, WordedEntry, Wording, worded, worded_entries, worded_from, wording_of}
use Rattle.vet_entries.specs.SameOfLaws.{HasNoneOf, HasPeersByName, content_of}
use Rattle.vet_entries.specs.Step.{SourcedEntry, sourced, taken_from}
use Rattle.vet_entries.proofs.GivenByKey.{given, given-with_item, given-without_item}
use Rattle.vet_entries.proofs.PeerLaws.{found_name}
use Rattle.vet_entries.proofs.PublisherLaws.{records_of-other}

-- ---- nothing changes, and one change after another

pub same_itself : (name : Name) (facts : Facts) → IsSameOf name facts facts
same_itself name facts = record { criteria = refl; entries = refl; records = refl; today = refl }

pub same_onward : (name : Name) (a b c : Facts) → IsSameOf name a b → IsSameOf name b c → IsSameOf name a c
same_onward name a b c first then = record {
  criteria = first.criteria ∙ then.criteria;
  entries = first.entries ∙ then.entries;
  records = first.records ∙ then.records;
  today = first.today ∙ then.today;
}

-- ---- what a filter keeps

-- what is dropped would not have passed
filter_kept : {X : Type 0} (p q : X → Bool) (xs : List X) → All (λ x. p x ≡ true → q x ≡ true) xs
    → filter p (filter q xs) ≡ filter p xs
filter_kept p q [] each = refl
filter_kept {X} p q (x ∷ xs) each =
    at (q x) (p x) refl refl (All-head (λ y. p y ≡ true → q y ≡ true) x xs each)
    (filter_kept p q xs (All-tail (λ y. p y ≡ true → q y ≡ true) x xs each))
  where
    at : (b c : Bool) → q x ≡ b → p x ≡ c → (p x ≡ true → q x ≡ true) → filter p (filter q xs) ≡ filter p xs
        → filter p (cond b (x ∷ filter q xs) (filter q xs)) ≡ cond c (x ∷ filter p xs) (filter p xs)
    at true c kept passes one rest = λ i. cond (passes i) (x ∷ rest i) (rest i)
    at false true kept passes one rest = absurd (false≢true (sym kept ∙ one passes))
    at false false kept passes one rest = rest

filter_none : {X : Type 0} (p : X → Bool) (xs : List X) → list_any p xs ≡ false → filter p xs ≡ []
filter_none p [] none = refl
filter_none p (x ∷ xs) none = at (p x) none (filter_none p xs)
  where
    at : (b : Bool) → (b || list_any p xs) ≡ false → (list_any p xs ≡ false → filter p xs ≡ [])
        → cond b (x ∷ filter p xs) (filter p xs) ≡ []
    at true none rest = absurd (false≢true (sym none))
    at false none rest = rest none

-- ---- own entries and records

pub not_of : (name : Name) (held : HeldEntry) → (name ≡ held.entry.«package» → ⊥) → is_of name held ≡ false
not_of name held differs = is_false (is_of name held)
    (λ h. differs (sym ((bytes_eq-Decides held.entry.«package» name).0 h)))

-- own entries of which those of the package are the same
pub own_same : (facts : Facts) (entries : List HeldEntry) (name : Name)
    → filter (is_of name) facts.entries ≡ filter (is_of name) entries
    → IsSameOf name facts (record facts { entries = entries })
own_same facts entries name same =
    let own : HeldEntry → SourcedEntry = λ h. record { peer = None; held = h } in
    record {
      criteria = refl;
      entries = ap (λ hs. map worded (map own hs ++ flat_map (taken_from name) facts.peers)) same;
      records = refl;
      today = refl;
    }

pub entry_added : (facts : Facts) (held : HeldEntry) (name : Name) → (name ≡ held.entry.«package» → ⊥)
    → IsSameOf name facts (record facts { entries = facts.entries ++ held ∷ [] })
entry_added facts held name differs =
    let kept = filter (is_of name) facts.entries in
    own_same facts (facts.entries ++ held ∷ []) name
    (sym (filter-append (is_of name) facts.entries (held ∷ [])
    ∙ ap (λ b. kept ++ cond b (held ∷ []) []) (not_of name held differs) ∙ append-nil kept))

-- the entry of a number is the only one
same_number : (entries : List HeldEntry) (held : HeldEntry) → AreByNumber entries → Contains entries held
    → All (λ x. x.number ≡ held.number → x ≡ held) entries
same_number entries held up among i d l same = elim (cases_lt i among.0) [
  | inl before ↦ absurd (let less = up i among.0 d before among.1 in omega (arith, less, same, number))
  | inr past ↦ elim (cases_lt among.0 i) [
    | inl behind ↦ absurd (let less = up among.0 i d behind l in omega (arith, less, same, number))
    | inr here ↦ (let alike : i ≡ among.0 = omega (arith, past, here) in ap (λ n. get_or entries n d) alike ∙ is_held)
  ]
]
  where
    is_held : get_or entries among.0 d ≡ held
    is_held = get_or_default entries among.0 d held among.1 ∙ among.2

    number : (get_or entries among.0 d).number ≡ held.number
    number = ap (λ (h : HeldEntry). h.number) is_held

equal_numbers : (a b : ℕ) → eqb a b ≡ true → a ≡ b
equal_numbers a b h = elim (eqb_tells a b) [ inl is ↦ is.1 | inr other ↦ absurd (false≢true (sym other.0 ∙ h)) ]

pub entry_dropped : (facts : Facts) (n : ℕ) (held : HeldEntry) (name : Name) → AreByNumber facts.entries
    → Contains facts.entries held → held.number ≡ n → (name ≡ held.entry.«package» → ⊥)
    → IsSameOf name facts (record facts { entries = filter (λ h. not (has_number n h)) facts.entries })
entry_dropped facts n held name up among numbered differs =
    own_same facts (filter (λ h. not (has_number n h)) facts.entries) name
    (sym (filter_kept (is_of name) (λ h. not (has_number n h)) facts.entries
    (λ i d l passes. stays (get_or facts.entries i d) passes (same_number facts.entries held up among i d l))))
  where
    stays : (x : HeldEntry) → is_of name x ≡ true → (x.number ≡ held.number → x ≡ held)
        → not (has_number n x) ≡ true
    stays x passes only = elim (cases_Bool (has_number n x)) [
      | inl same ↦ absurd (false≢true (sym (not_of name held differs)
          ∙ ap (is_of name) (sym (only (equal_numbers x.number n same ∙ sym numbered))) ∙ passes))
      | inr other ↦ ap not other
    ]

pub records_set : (facts : Facts) (other : Name) (records : List Publisher) (name : Name) → (name ≡ other → ⊥)
    → IsSameOf name facts (record facts { publishers = with_records other records facts.publishers })
records_set facts other records name differs = record {
  criteria = refl;
  entries = refl;
  records = sym (records_of-other other name records facts.publishers differs);
  today = refl;
}

-- ---- peers

map_flat : {X Y Z : Type 0} (g : Y → Z) (f : X → List Y) (xs : List X)
    → map g (flat_map f xs) ≡ flat_map (λ x. map g (f x)) xs
map_flat g f [] = refl
map_flat g f (x ∷ xs) = map-append g (f x) (flat_map f xs) ∙ ap (λ zs. map g (f x) ++ zs) (map_flat g f xs)

abbrev worded_of : Name → HeldPeer → List WordedEntry
worded_of name peer = map worded (taken_from name peer)

-- the worded entries of a package, those of the peers one after another
worded_in_parts : (facts : Facts) (name : Name)
    → worded_entries facts name
    ≡ map worded (sourced None name facts.entries) ++ flat_map (worded_of name) facts.peers
worded_in_parts facts name =
    let own = sourced None name facts.entries in
    map-append worded own (flat_map (taken_from name) facts.peers)
    ∙ ap (λ es. map worded own ++ es) (map_flat worded (taken_from name) facts.peers)

-- peers that give the same in all
pub peers_same : (facts : Facts) (peers : List HeldPeer) (name : Name)
    → flat_map (worded_of name) facts.peers ≡ flat_map (worded_of name) peers
    → IsSameOf name facts (record facts { peers = peers })
peers_same facts peers name same = record {
  criteria = refl;
  entries = worded_in_parts facts name
      ∙ ap (λ es. map worded (sourced None name facts.entries) ++ es) same
      ∙ sym (worded_in_parts (record facts { peers = peers }) name);
  records = refl;
  today = refl;
}

given_is : (name : Name) (o : Option HeldPeer) → given (worded_of name) o ≡ worded_from name o
given_is name None = refl
given_is name (Some peer) = refl

pub peer_same : (facts : Facts) (peer : HeldPeer) (name : Name) → HasPeersByName facts
    → worded_from name (peer_of facts.peers (peer_name peer)) ≡ worded_from name (Some peer)
    → IsSameOf name facts (record facts { peers = with_peer peer facts.peers })
peer_same facts peer name up same = peers_same facts (with_peer peer facts.peers) name
    (given-with_item R nat_list_cmp_total only_equal peer_name (worded_of name) facts.peers peer up
    (given_is name (peer_of facts.peers (peer_name peer)) ∙ same))

-- ---- what a peer gives

abbrev worded_in : Bool → Wording → List HeldEntry → List WordedEntry
worded_in excluded wording entries = cond excluded [] (map (λ h. record { wording = Some wording; held = h }) entries)

worded_each : (peer : HeldPeer) (entries : List HeldEntry)
    → (let theirs : HeldEntry → SourcedEntry = λ h. record { peer = Some peer; held = h } in
    map worded (map theirs entries)) ≡ map (λ h. record { wording = Some (wording_of peer); held = h }) entries
worded_each peer [] = refl
worded_each peer (h ∷ entries) =
    let e : WordedEntry = record { wording = Some (wording_of peer); held = h } in
    ap (λ es. e ∷ es) (worded_each peer entries)

worded_is : (name : Name) (peer : HeldPeer) → worded_from name (Some peer)
    ≡ worded_in (set.contains peer.settings.exclude name) (wording_of peer) (filter (is_of name) peer.content.entries)
worded_is name peer = at (set.contains peer.settings.exclude name)
  where
    at : (b : Bool) → map worded (cond b [] (sourced (Some peer) name peer.content.entries))
        ≡ worded_in b (wording_of peer) (filter (is_of name) peer.content.entries)
    at true = refl
    at false = worded_each peer (filter (is_of name) peer.content.entries)

-- two peers of the same wording and with the same entries of the package, which both exclude or neither
alike : (name : Name) (p q : HeldPeer) → set.contains p.settings.exclude name ≡ set.contains q.settings.exclude name
    → p.settings.map ≡ q.settings.map → p.content.table ≡ q.content.table
    → filter (is_of name) p.content.entries ≡ filter (is_of name) q.content.entries
    → worded_from name (Some p) ≡ worded_from name (Some q)
alike name p q excluded mapping table entries =
    worded_is name p
    ∙ (λ i. worded_in (excluded i) (record { table = table i; mapping = mapping i }) (entries i))
    ∙ sym (worded_is name q)

none_taken : (name : Name) (peer : HeldPeer) → HasNoneOf name peer.content → worded_from name (Some peer) ≡ []
none_taken name peer none =
    worded_is name peer
    ∙ ap (worded_in (set.contains peer.settings.exclude name) (wording_of peer))
    (filter_none (is_of name) peer.content.entries none)
    ∙ at (set.contains peer.settings.exclude name)
  where
    at : (b : Bool) → worded_in b (wording_of peer) [] ≡ []
    at true = refl
    at false = refl

none_held : (name : Name) (o : Option HeldPeer) → HasNoneOf name (holding_or_none o) → worded_from name o ≡ []
none_held name None none = refl
none_held name (Some peer) none = none_taken name peer none

-- ---- settings, contents, and a peer less

abbrev peer : PeerSettings → HoldingValue → HeldPeer
peer settings content = record { settings = settings; content = content }

pub settings_set : (facts : Facts) (settings : PeerSettings) (name : Name) → HasPeersByName facts
    → HasNoneOf name (content_of facts settings.name)
    → IsSameOf name facts (record facts { peers = with_settings settings facts.peers })
settings_set facts settings name up none =
    let p = peer settings (content_of facts settings.name) in
    peer_same facts p name up
    (none_held name (peer_of facts.peers settings.name) none ∙ sym (none_taken name p none))

pub exclusions_set : (facts : Facts) (held : HeldPeer) (settings : PeerSettings) (name : Name) → HasPeersByName facts
    → peer_of facts.peers settings.name ≡ Some held → settings.map ≡ held.settings.map
    → set.contains settings.exclude name ≡ set.contains held.settings.exclude name
    → IsSameOf name facts (record facts { peers = with_settings settings facts.peers })
exclusions_set facts held settings name up found mapping excluded =
    let p = peer settings (content_of facts settings.name) in
    let same : held.content ≡ content_of facts settings.name = sym (ap holding_or_none found) in
    peer_same facts p name up
    (ap (worded_from name) found
    ∙ alike name held p (sym excluded) (sym mapping) (ap (λ (c : HoldingValue). c.table) same)
    (ap (λ (c : HoldingValue). filter (is_of name) c.entries) same))

module _ (facts : Facts) (name : Name) (up : HasPeersByName facts) where
  -- another content of a held peer, which gives the same
  content_same : (at : Name) (content : HoldingValue) (held : HeldPeer) → peer_of facts.peers at ≡ Some held
      → worded_from name (Some held) ≡ worded_from name (Some (peer held.settings content))
      → IsSameOf name facts (record facts { peers = with_peer (peer held.settings content) facts.peers })
  content_same at content held found same =
      peer_same facts (peer held.settings content) name up
      (ap (λ n. worded_from name (peer_of facts.peers n)) (found_name facts.peers at held found)
      ∙ ap (worded_from name) found ∙ same)

  pub content_set : (at : Name) (content : HoldingValue) → HasNoneOf name (content_of facts at) → HasNoneOf name content
      → IsSameOf name facts (record facts { peers = with_content at content facts.peers })
  content_set at content none after = by (peer_of facts.peers at) refl none
    where
      by : (o : Option HeldPeer) → peer_of facts.peers at ≡ o → HasNoneOf name (holding_or_none o)
          → IsSameOf name facts (record facts { peers = with_content_of o content facts.peers })
      by None found before = same_itself name facts
      by (Some held) found before = content_same at content held found
          (none_taken name held before ∙ sym (none_taken name (peer held.settings content) after))

  pub entries_kept : (at : Name) (content : HoldingValue) → content.table ≡ (content_of facts at).table
      → filter (is_of name) content.entries ≡ filter (is_of name) (content_of facts at).entries
      → IsSameOf name facts (record facts { peers = with_content at content facts.peers })
  entries_kept at content table entries = by (peer_of facts.peers at) refl table entries
    where
      by : (o : Option HeldPeer) → peer_of facts.peers at ≡ o → content.table ≡ (holding_or_none o).table
          → filter (is_of name) content.entries ≡ filter (is_of name) (holding_or_none o).entries
          → IsSameOf name facts (record facts { peers = with_content_of o content facts.peers })
      by None found t es = same_itself name facts
      by (Some held) found t es = content_same at content held found
          (alike name held (peer held.settings content) refl refl (sym t) (sym es))

  pub peer_dropped : (at : Name) → HasNoneOf name (content_of facts at)
      → IsSameOf name facts (record facts { peers = without_peer at facts.peers })
  peer_dropped at none = peers_same facts (without_peer at facts.peers) name
      (given-without_item R nat_list_cmp_total only_equal peer_name (worded_of name) facts.peers at up
      (given_is name (peer_of facts.peers at) ∙ none_held name (peer_of facts.peers at) none))
