-- What sound facts say of the keys of their rows.
use Rattle.std.proofs.Common.{◌≡◌, ◌≢◌, ◌⊎◌, ℕ, inl, inr, true, List, [], ◌∷◌, map, refl, sym, subst, ◌∙◌}
use Rattle.std.proofs.Common.{arith}
use Rattle.std.specs.List.{AllPairs}
use Rattle.vet_base.specs.declared.criterion.Criterion.{Criterion}
use Rattle.vet_base.specs.FurtherCriteria.{further}
use Rattle.vet_base.specs.Items.{IsIn, NamedOnce}
use Rattle.vet_base.proofs.FurtherLaws.{further_are_defined}
use Rattle.vet_base.proofs.ItemLemmas.{in_all, in_any, map_in, pairs_head, pairs_tail}
use Rattle.vet_entries.specs.declared.entry.Source.TheVariants.{Own, Peer}
use Rattle.vet_entries.specs.declared.facts.HeldEntry.{HeldEntry}
use Rattle.vet_entries.specs.declared.held_peer.HeldPeer.{HeldPeer}
use Rattle.vet_entries.specs.Facts.{Facts}
use Rattle.vet_entries.specs.HeldPeer.{peer_name}
use Rattle.vet_entries.specs.Numbered.{AreByNumber, has_number}
use Rattle.vet_item_rows.specs.Columns.{own_peer}
use Rattle.vet_register.specs.Sound.{AreSound, IsFrom, IsSoundPeer, ShareNone}
use Rattle.vet_register.proofs.FurtherCriteria.{named_once}
use Rattle.vet_rows.proofs.FactsExchanges.{HaveKeys, IsHeldIn}
use Rattle.vet_rows.proofs.RowViews.{told_once}

-- ---- numbers

its_number : (n : ℕ) (h : HeldEntry) → h.number ≡ n → has_number n h ≡ true
its_number n h e = grind arith

numbers_differ : (entries : List HeldEntry) → AreByNumber entries
    → AllPairs (λ (g h : HeldEntry). g.number ≢ h.number) entries
numbers_differ entries up i j d l m same = (let less = up i j d l m in omega (arith, less, same))

-- entries of lists that share no number have different ones
apart : (xs ys : List HeldEntry) → ShareNone xs ys → (g h : HeldEntry) → IsIn g xs → IsIn h ys → g.number ≡ h.number
    → ⊥
apart xs ys none g h i j same =
    none g.number (in_any (has_number g.number) xs g i (its_number g.number g refl))
    (in_any (has_number g.number) ys h j (its_number g.number h (sym same)))

-- two of some items are one, or stand to each other in some way
either : {X Y : Type 0} (f : X → Y) (R : Y → Y → Type 0) (xs : List X) → AllPairs R (map f xs) → (a b : X) → IsIn a xs
    → IsIn b xs → (a ≡ b) ⊎ (R (f a) (f b) ⊎ R (f b) (f a))
either f R [] up a b i j = absurd i
either f R (x ∷ xs) up a b (inl i) (inl j) = inl (i ∙ sym j)
either f R (x ∷ xs) up a b (inl i) (inr j) =
    inr (inl (subst (λ y. R (f y) (f b)) (sym i)
    (in_all (R (f x)) (map f xs) (pairs_head R (f x) (map f xs) up) (f b) (map_in f xs b j))))
either f R (x ∷ xs) up a b (inr i) (inl j) =
    inr (inr (subst (λ y. R (f y) (f a)) (sym j)
    (in_all (R (f x)) (map f xs) (pairs_head R (f x) (map f xs) up) (f a) (map_in f xs a i))))
either f R (x ∷ xs) up a b (inr i) (inr j) = either f R xs (pairs_tail R (f x) (map f xs) up) a b i j

-- ---- facts

module _ (facts : Facts) (next : ℕ) (is : AreSound facts next)
    (named : (p : HeldPeer) → IsIn p facts.peers → peer_name p ≡ own_peer → ⊥) where
  abbrev entries_of : HeldPeer → List HeldEntry
  entries_of p = p.content.entries

  peer_sound : (p : HeldPeer) → IsIn p facts.peers → IsSoundPeer next p
  peer_sound p i = in_all (IsSoundPeer next) facts.peers is.peers.sound p i

  own_apart : (p : HeldPeer) → IsIn p facts.peers → ShareNone facts.entries p.content.entries
  own_apart p i =
      in_all (ShareNone facts.entries) (map entries_of facts.peers)
      (pairs_head ShareNone facts.entries (map entries_of facts.peers) is.apart) p.content.entries
      (map_in entries_of facts.peers p i)

  one_of_peers : (p q : HeldPeer) (g h : HeldEntry) → IsIn p facts.peers → IsIn q facts.peers
      → IsIn g p.content.entries → IsIn h q.content.entries → g.number ≡ h.number → g ≡ h
  one_of_peers p q g h i j k l same =
      elim (either entries_of ShareNone facts.peers
      (pairs_tail ShareNone facts.entries (map entries_of facts.peers) is.apart) p q i j) [
        | inl one ↦ told_once (λ (x : HeldEntry). x.number) q.content.entries
            (numbers_differ q.content.entries (peer_sound q j).entries.numbers_rise) g h
            (subst (λ (x : HeldPeer). IsIn g x.content.entries) one k) l same
        | inr (inl none) ↦ absurd (apart p.content.entries q.content.entries none g h k l same)
        | inr (inr none) ↦ absurd (apart q.content.entries p.content.entries none h g l k (sym same))
      ]

  once : (g h : HeldEntry) → IsHeldIn g facts → IsHeldIn h facts → g.number ≡ h.number → g ≡ h
  once g h (inl i) (inl j) same =
      told_once (λ (x : HeldEntry). x.number) facts.entries
      (numbers_differ facts.entries is.entries.numbers_rise) g h i j same
  once g h (inl i) (inr p) same =
      absurd (apart facts.entries p.0.content.entries (own_apart p.0 p.1.0) g h i p.1.1 same)
  once g h (inr p) (inl j) same =
      absurd (apart facts.entries p.0.content.entries (own_apart p.0 p.1.0) h g j p.1.1 (sym same))
  once g h (inr p) (inr q) same = one_of_peers p.0 q.0 g h p.1.0 q.1.0 p.1.1 q.1.1 same

  of_peers : (p : HeldPeer) → IsIn p facts.peers → NamedOnce (λ c. c.name) (further p.content.table)
  of_peers p i =
      let content = (peer_sound p i).content in
      subst (λ t. NamedOnce (λ (c : Criterion). c.name) (further t)) (sym content.1.criteria)
      (further_are_defined content.0.criteria content.1.readable.named_once content.1.readable.further).1

  pub have_keys : HaveKeys facts
  have_keys = record {
    peers = is.peers.by_name;
    named = named;
    criteria = named_once facts.criteria is.criteria;
    of_peers = of_peers;
    numbers = numbers_differ facts.entries is.entries.numbers_rise;
    once = once;
    own = λ h i. in_all (IsFrom Own) facts.entries is.entries.from h i;
    theirs = λ p h i j. in_all (IsFrom (Peer p.settings.name)) p.content.entries (peer_sound p i).entries.from h j;
    packages = is.publishers.by_name.rising;
  }
