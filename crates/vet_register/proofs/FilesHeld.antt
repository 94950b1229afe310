-- The peers that are held after three files took the place of what was held, one after another.
use Rattle.std.proofs.Common.{◌≡◌, ℕ, ◌+◌, ◌<◌, ◌≤◌, List, [], ◌∷◌, ◌++◌, length, map, take, get_or, sym, ap, ◌∙◌}
use Rattle.std.proofs.Common.{arith}
use Rattle.std.specs.List.{All, sum_by}
use Rattle.std.specs.declared.cmp.Ordering.TheVariants.{Less}
use Rattle.std.proofs.lemmas.List.{get_or-map, get_or_default, take_more}
use Rattle.std.proofs.lemmas.List.Elements.{All-cons, All-head, All-nil, All-tail}
use Rattle.std.proofs.lemmas.List.Kept.{AllPairs-cons}
use Rattle.std.proofs.lemmas.List.Sums.{sum_by-cons, sum_by-take-le, sum_by_push}
use Rattle.vet_base.specs.Keyed.{IsByKey}
use Rattle.vet_base.proofs.ItemLemmas.{pairs_none}
use Rattle.vet_base.proofs.Rising.{R}
use Rattle.vet_entries.specs.declared.held_peer.HeldPeer.{HeldPeer}
use Rattle.vet_entries.specs.declared.peer_settings.PeerSettings.{PeerSettings}
use Rattle.vet_entries.specs.HeldPeer.{peer_name}
use Rattle.vet_entries.specs.Import.{ComparisonValue}
use Rattle.vet_entries.specs.PeerSettings.{settings_name}
use Rattle.vet_files.specs.declared.imports_file.ImportedPeer.{ImportedPeer}
use Rattle.vet_register.specs.Replacing.{compared_peer, new_of_peer, peer_after, peers_after}
use Rattle.vet_register.proofs.Lists.{AllPairs-head, AllPairs-tail}

module _ (peers : List HeldPeer) (contents : List ImportedPeer) where
  abbrev fresh : PeerSettings → ℕ
  fresh = new_of_peer peers contents

  abbrev after : ℕ → List PeerSettings → List HeldPeer
  after next settings = peers_after next peers contents settings

  -- one peer more is numbered behind those before it
  after_push : (next : ℕ) (before : List PeerSettings) (p : PeerSettings)
      → after next (before ++ p ∷ []) ≡ after next before ++ peer_after (next + sum_by fresh before) peers contents p
      ∷ []
  after_push next [] p = ap (λ k. peer_after k peers contents p ∷ []) (omega arith)
  after_push next (q ∷ before) p =
      ap (λ rest. peer_after next peers contents q ∷ rest)
      (after_push (next + fresh q) before p
      ∙ ap (λ k. after (next + fresh q) before ++ peer_after k peers contents p ∷ [])
      (omega (arith, sum_by-cons fresh q before)))

  -- the peers after, up to one place more
  pub after_more : (next k : ℕ) (settings : List PeerSettings) (i : ℕ) (p : PeerSettings) → i < length settings → p ≡
      get_or settings i p
      → k ≡ next + sum_by fresh (take i settings)
      → after next (take (i + 1) settings) ≡ after next (take i settings) ++ peer_after k peers contents p ∷ []
  after_more next k settings i p l at number =
      ap (after next) (take_more settings i p l ∙ ap (λ q. take i settings ++ q ∷ []) (sym at))
      ∙ after_push next (take i settings) p
      ∙ ap (λ n. after next (take i settings) ++ peer_after n peers contents p ∷ []) (sym number)

  -- how many entries are new, up to one place more
  pub new_more : (settings : List PeerSettings) (i : ℕ) (p : PeerSettings) → i < length settings → p ≡ get_or settings
      i p
      → sum_by fresh (take (i + 1) settings) ≡ sum_by fresh (take i settings) + fresh p
  new_more settings i p l at =
      ap (sum_by fresh) (take_more settings i p l ∙ ap (λ q. take i settings ++ q ∷ []) (sym at)) ∙ sum_by_push fresh
      (take i settings) p

  -- no more are new up to a place than there are
  pub new_within : (settings : List PeerSettings) (i : ℕ) → sum_by fresh (take i settings) ≤ sum_by fresh settings
  new_within settings i = sum_by-take-le fresh settings i

  -- at a place of the comparisons of these settings
  module _ (settings given : List PeerSettings) (all : settings ≡ given) (found : List ComparisonValue)
      (of_all : found ≡ map (compared_peer peers contents) given)
      (i : ℕ) (l : i < length settings) (p : PeerSettings) (at : p ≡ get_or settings i p) (c : ComparisonValue)
      (here : c ≡ get_or found i c) where
    -- the comparison is that of the peer there
    pub compared_at : c ≡ compared_peer peers contents p
    compared_at =
        here ∙ ap (λ cs. get_or cs i c) (of_all ∙ ap (map (compared_peer peers contents)) (sym all))
        ∙ get_or-map (compared_peer peers contents) settings i p c l ∙ ap (compared_peer peers contents) (sym at)

    -- and counts its new entries
    pub count_at : c.new_count ≡ fresh p
    count_at = ap (λ (v : ComparisonValue). v.new_count) compared_at

    -- numbers for these and those before are there where they are for all
    pub numbers_at : (first number end : ℕ) → number ≡ first + sum_by fresh (take i settings) → first + sum_by fresh
        given < end → number + c.new_count < end
    numbers_at first number end is fits =
        omega (
          arith,
          count_at,
          is,
          fits,
          new_more settings i p l at,
          new_within settings (i + 1),
          ap (sum_by fresh)
              all,
        )

  -- a name that comes before those of settings comes before those of the peers after
  comes_before : (name : List ℕ) (next : ℕ) (settings : List PeerSettings) → All
      (λ p. R name (settings_name p) ≡ Less) settings
      → All (λ p. R name (peer_name p) ≡ Less) (after next settings)
  comes_before name next [] h = All-nil _
  comes_before name next (p ∷ rest) h =
      All-cons (λ (q : HeldPeer). R name (peer_name q) ≡ Less) (peer_after next peers contents p)
      (after (next + fresh p) rest)
      (All-head (λ q. R name (settings_name q) ≡ Less) p rest h)
      (comes_before name (next + fresh p) rest (All-tail (λ q. R name (settings_name q) ≡ Less) p rest h))

  -- the peers after stand in the order of their names, as their settings do
  pub after_by_name : (next : ℕ) (settings : List PeerSettings) → IsByKey R settings_name settings → IsByKey R
      peer_name (after next settings)
  after_by_name next [] up = pairs_none (λ (a b : HeldPeer). R (peer_name a) (peer_name b) ≡ Less)
  after_by_name next (p ∷ rest) up =
      AllPairs-cons (λ (a b : HeldPeer). R (peer_name a) (peer_name b) ≡ Less) (peer_after next peers contents p)
      (after (next + fresh p) rest)
      (comes_before (settings_name p) (next + fresh p) rest
      (AllPairs-head (λ a b. R (settings_name a) (settings_name b) ≡ Less) p rest up))
      (after_by_name (next + fresh p) rest
      (AllPairs-tail (λ a b. R (settings_name a) (settings_name b) ≡ Less) p rest up))

-- the settings at a place, whatever else would stand there
pub settings_at : (settings : List PeerSettings) (i : ℕ) (p q : PeerSettings) → i < length settings → p ≡ get_or
    settings i p → get_or settings i q ≡ p
settings_at settings i p q l at = get_or_default settings i q p l ∙ sym at
