-- What is held of peers, after one was exchanged.
use Rattle.std.proofs.Common.{◌≡◌, ◌+◌, ◌<◌, ◌≤◌, ℕ, suc, arith, [], ◌∷◌, length, get_or, take, false, is_some, List}
use Rattle.std.proofs.Common.{Option, Some, None, refl, sym, ap, ◌∙◌}
use Rattle.std.proofs.lemmas.Cmp.{nat_list_cmp_total}
use Rattle.std.proofs.Math.Seq.{take-suc}
use Rattle.std.proofs.lemmas.List.Sums.{sum_by-append, sum_by-cons, sum_by-take-le}
use Rattle.vet_base.specs.Keyed.{IsByKey}
use Rattle.vet_base.proofs.KeyedLemmas.{item_of-own}
use Rattle.vet_base.proofs.Comparisons.{equal}
use Rattle.vet_base.proofs.KeyedParts.{held_sum, item_found, item_of-gone, sum_with, sum_without, with_back, with_over}
use Rattle.vet_base.proofs.Rising.{R, only_equal}
use Rattle.vet_entries.specs.declared.held_peer.HeldPeer.{HeldPeer}
use Rattle.vet_entries.specs.declared.peer_settings.PeerSettings.{PeerSettings}
use Rattle.vet_entries.specs.Facts.{entries_of_peers}
use Rattle.vet_entries.specs.HeldPeer.{holding_or_none, peer_name, peer_of, with_content, with_content_of, with_peer}
use Rattle.vet_entries.specs.HeldPeer.{with_settings, without_peer}
use Rattle.vet_entries.specs.Holding.{HoldingValue}

abbrev pub AreByName : List HeldPeer → Type 0
AreByName peers = IsByKey R peer_name peers

-- the peer that is found is of the name
pub found_name : (peers : List HeldPeer) (name : List ℕ) (x : HeldPeer) → peer_of peers name ≡ Some x
    → x.settings.name ≡ name
found_name peers name x found =
    only_equal x.settings.name name
    (equal (R x.settings.name name) (item_found R peer_name (λ _. Unit {0}) peers name x (λ k d l. tt) found).0)

-- none of the name is left once it is taken out
pub none_left : (peers : List HeldPeer) (name : List ℕ) → peer_of (without_peer name peers) name ≡ None
none_left peers name = item_of-gone R nat_list_cmp_total only_equal peer_name peers name

-- another of the name put in then stands in its place
pub put_over : (peers : List HeldPeer) (name : List ℕ) (p : HeldPeer) → AreByName peers → p.settings.name ≡ name
    → with_peer p (without_peer name peers) ≡ with_peer p peers
put_over peers name p up same = ap (λ n. with_peer p (without_peer n peers)) (sym same)
    ∙ with_over R nat_list_cmp_total only_equal peer_name peers p up

pub put_back : (peers : List HeldPeer) (p held : HeldPeer) → AreByName peers → peer_of peers p.settings.name ≡ Some held
    → with_peer held (with_peer p peers) ≡ peers
put_back peers p held up found = with_back R nat_list_cmp_total only_equal peer_name peers p held up found
    (found_name peers p.settings.name held found)

pub found_own : (peers : List HeldPeer) (p : HeldPeer) → peer_of (with_peer p peers) p.settings.name ≡ Some p
found_own peers p = item_of-own R nat_list_cmp_total only_equal peer_name peers p

abbrev peer : PeerSettings → HoldingValue → HeldPeer
peer settings content = record { settings = settings; content = content }

module _ (peers : List HeldPeer) (held : HeldPeer) (up : AreByName peers) where
  -- a peer whose settings are exchanged
  pub with_settings-held : (settings : PeerSettings) → peer_of peers settings.name ≡ Some held
      → with_settings settings peers ≡ with_peer (peer settings held.content) peers
  with_settings-held settings found = ap (λ o. with_peer (peer settings (holding_or_none o)) peers) found

  pub settings_back : (settings : PeerSettings) → peer_of peers settings.name ≡ Some held
      → with_settings held.settings (with_settings settings peers) ≡ peers
  settings_back settings found =
      let same : held.settings.name ≡ settings.name = found_name peers settings.name held found in
      let p = peer settings held.content in
      let after = with_peer p peers in
      let own : peer_of after held.settings.name ≡ Some p = ap (peer_of after) same ∙ found_own peers p in
      ap (with_settings held.settings) (with_settings-held settings found)
      ∙ ap (λ o. with_peer (peer held.settings (holding_or_none o)) after) own
      ∙ put_back peers p held up found

  -- one whose content is
  pub with_content-held : (name : List ℕ) (content : HoldingValue) → peer_of peers name ≡ Some held
      → with_content name content peers ≡ with_peer (peer held.settings content) peers
  with_content-held name content found = ap (λ o. with_content_of o content peers) found

  pub content_back : (name : List ℕ) (content : HoldingValue) → peer_of peers name ≡ Some held
      → with_content name held.content (with_content name content peers) ≡ peers
  content_back name content found =
      let same : held.settings.name ≡ name = found_name peers name held found in
      let p = peer held.settings content in
      let after = with_peer p peers in
      let own : peer_of after name ≡ Some p = ap (peer_of after) (sym same) ∙ found_own peers p in
      ap (with_content name held.content) (with_content-held name content found)
      ∙ ap (λ o. with_content_of o held.content after) own
      ∙ put_back peers p held up (ap (peer_of peers) same ∙ found)

pub none_of : (o : Option HeldPeer) → is_some o ≡ false → o ≡ None
none_of None e = refl
none_of (Some x) e = cc e

-- all entries but those of one peer
of_peer : (o : Option HeldPeer) → held_sum (λ (p : HeldPeer). length p.content.entries) o
    ≡ length (holding_or_none o).entries
of_peer None = refl
of_peer (Some x) = refl

pub entries_without : (peers : List HeldPeer) (name : List ℕ) → AreByName peers
    → entries_of_peers (without_peer name peers) + length (holding_or_none (peer_of peers name)).entries
    ≡ entries_of_peers peers
entries_without peers name up =
    omega (
      arith,
      sum_without R nat_list_cmp_total only_equal peer_name (λ p. length p.content.entries) peers name up,
      of_peer (peer_of peers name),
    )

-- and with one peer more
pub entries_with : (peers : List HeldPeer) (p : HeldPeer) → AreByName peers
    → entries_of_peers (with_peer p peers) + length (holding_or_none (peer_of peers p.settings.name)).entries
    ≡ entries_of_peers peers + length p.content.entries
entries_with peers p up =
    omega (
      arith,
      sum_with R nat_list_cmp_total only_equal peer_name (λ q. length q.content.entries) peers p up,
      of_peer (peer_of peers p.settings.name),
    )

-- one peer's entries after those of the peers in front of it
pub entries_more : (peers : List HeldPeer) (i : ℕ) (d : HeldPeer) → i < length peers
    → entries_of_peers (take (i + 1) peers) ≡ entries_of_peers (take i peers) + length
    (get_or peers i d).content.entries
entries_more peers i d l =
    let f : HeldPeer → ℕ = λ p. length p.content.entries in
    let one_more : i + 1 ≡ suc i = omega arith in
    ap (λ n. entries_of_peers (take n peers)) one_more ∙ ap entries_of_peers (take-suc peers i d l)
    ∙ omega (arith, sum_by-append f (take i peers) (get_or peers i d ∷ []), sum_by-cons f (get_or peers i d) [])

pub entries_within : (peers : List HeldPeer) (i : ℕ) → entries_of_peers (take i peers) ≤ entries_of_peers peers
entries_within peers i = sum_by-take-le (λ (p : HeldPeer). length p.content.entries) peers i
