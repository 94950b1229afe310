-- No number stands in two sources just where none stands twice among all.
use Rattle.std.proofs.Common.{◌≡◌, ◌≢◌, ◌↔◌, ℕ, true, List, [], ◌∷◌, ◌++◌, map, refl, sym, ap, subst, ◌∙◌}
use Rattle.std.proofs.Common.{arith, inl, inr}
use Rattle.std.specs.Cmp.{unsigned_Decides}
use Rattle.std.specs.List.{All, AllPairs, flat_map, list_any}
use Rattle.std.proofs.lemmas.List.Concat.{flat_map-cons}
use Rattle.std.proofs.lemmas.List.Elements.{All-cons, All-head, All-nil, All-tail}
use Rattle.std.proofs.lemmas.List.Folds.{flat_map-map}
use Rattle.std.proofs.lemmas.List.Kept.{AllPairs-cons}
use Rattle.vet_base.specs.Items.{IsIn}
use Rattle.vet_base.proofs.ItemLemmas.{all_in, any_in, in_all, in_any, in_append, in_back, in_front, in_map, map_in}
use Rattle.vet_base.proofs.ItemLemmas.{pairs_append, pairs_head, pairs_none, pairs_tail}
use Rattle.vet_entries.specs.Facts.{Facts}
use Rattle.vet_entries.specs.Numbered.{AreByNumber, has_number}
use Rattle.vet_entries.specs.declared.facts.HeldEntry.{HeldEntry}
use Rattle.vet_entries.specs.declared.held_peer.HeldPeer.{HeldPeer}
use Rattle.vet_register.specs.Numbers.{numbers_of, peers_numbers}
use Rattle.vet_register.specs.Sound.{AreApart, IsSoundPeer, ShareNone}
use Rattle.vet_register.proofs.Lists.{AllPairs-map}

-- ---- pairs of two lists

pairs_back : {X : Type 0} (R : X → X → Type 0) (xs ys : List X) → AllPairs R (xs ++ ys) → AllPairs R ys
pairs_back R [] ys h = h
pairs_back R (x ∷ xs) ys h = pairs_back R xs ys (pairs_tail R x (xs ++ ys) h)

pairs_across : {X : Type 0} (R : X → X → Type 0) (xs ys : List X) → AllPairs R (xs ++ ys) → (x y : X) → IsIn x xs
    → IsIn y ys → R x y
pairs_across R [] ys h x y i j = absurd i
pairs_across R (z ∷ xs) ys h x y (inl e) j =
    subst (λ w. R w y) (sym e) (in_all (R z) (xs ++ ys) (pairs_head R z (xs ++ ys) h) y (in_back xs ys y j))
pairs_across R (z ∷ xs) ys h x y (inr i) j = pairs_across R xs ys (pairs_tail R z (xs ++ ys) h) x y i j

-- ---- numbers of entries

-- a number that an entry has is among their numbers
number_in : (n : ℕ) (entries : List HeldEntry) → list_any (has_number n) entries ≡ true → IsIn n (numbers_of entries)
number_in n entries t =
    let h = any_in (has_number n) entries t in
    subst (λ m. IsIn m (numbers_of entries)) ((unsigned_Decides h.0.number n).0 h.1.1)
    (map_in (λ (g : HeldEntry). g.number) entries h.0 h.1.0)

in_numbers : (n : ℕ) (entries : List HeldEntry) → IsIn n (numbers_of entries) → list_any (has_number n) entries ≡ true
in_numbers n entries i =
    let h = in_map (λ (g : HeldEntry). g.number) entries n i in
    in_any (has_number n) entries h.0 h.1.0 ((unsigned_Decides h.0.number n).1 (sym h.1.1))

abbrev numbers_among : List (List HeldEntry) → List ℕ
numbers_among sources = flat_map numbers_of sources

-- a number of all is one of some source
in_source : (n : ℕ) (sources : List (List HeldEntry)) → IsIn n (numbers_among sources) → (s : List HeldEntry)
    × (IsIn s sources × IsIn n (numbers_of s))
in_source n [] i = absurd i
in_source n (s ∷ sources) i =
    elim (in_append (numbers_of s) (numbers_among sources) n
    (subst (λ ns. IsIn n ns) (flat_map-cons numbers_of s sources) i)) [
      | inl here ↦ (s, (inl refl, here))
      | inr later ↦ (let h = in_source n sources later in (h.0, (inr h.1.0, h.1.1)))
    ]

source_in : (n : ℕ) (sources : List (List HeldEntry)) (s : List HeldEntry) → IsIn s sources → IsIn n (numbers_of s)
    → IsIn n (numbers_among sources)
source_in n [] s i j = absurd i
source_in n (t ∷ sources) s (inl e) j =
    subst (λ ns. IsIn n ns) (sym (flat_map-cons numbers_of t sources))
    (in_front (numbers_of t) (numbers_among sources) n (subst (λ u. IsIn n (numbers_of u)) e j))
source_in n (t ∷ sources) s (inr i) j =
    subst (λ ns. IsIn n ns) (sym (flat_map-cons numbers_of t sources))
    (in_back (numbers_of t) (numbers_among sources) n (source_in n sources s i j))

-- ---- sources

abbrev pub AreOther : List ℕ → Type 0
AreOther = AllPairs (λ (m n : ℕ). m ≢ n)

once_apart : (sources : List (List HeldEntry)) → AreOther (numbers_among sources) → AllPairs ShareNone sources
once_apart [] h = pairs_none ShareNone
once_apart (s ∷ sources) h =
    let parts : AreOther (numbers_of s ++ numbers_among sources) =
    subst AreOther (flat_map-cons numbers_of s sources) h in
    AllPairs-cons ShareNone s sources
    (all_in (ShareNone s) sources (λ t i n here there.
    pairs_across (λ (a b : ℕ). a ≢ b) (numbers_of s) (numbers_among sources) parts n n (number_in n s here)
    (source_in n sources t i (number_in n t there)) refl))
    (once_apart sources (pairs_back (λ (a b : ℕ). a ≢ b) (numbers_of s) (numbers_among sources) parts))

other_numbers : (entries : List HeldEntry) → AreByNumber entries → AreOther (numbers_of entries)
other_numbers entries rise = AllPairs-map (λ (h : HeldEntry). h.number) (λ (m n : ℕ). m ≢ n) entries
    (λ i j d l m same. (let up = rise i j d l m in absurd (omega (arith, up, same))))

apart_once : (sources : List (List HeldEntry)) → All AreByNumber sources → AllPairs ShareNone sources
    → AreOther (numbers_among sources)
apart_once [] rise apart = pairs_none (λ (m n : ℕ). m ≢ n)
apart_once (s ∷ sources) rise apart =
    subst AreOther (sym (flat_map-cons numbers_of s sources))
    (pairs_append (λ (m n : ℕ). m ≢ n) (numbers_of s) (numbers_among sources)
    (other_numbers s (All-head AreByNumber s sources rise))
    (apart_once sources (All-tail AreByNumber s sources rise) (pairs_tail ShareNone s sources apart))
    (λ m n i j same.
    (let t = in_source n sources j in
    in_all (ShareNone s) sources (pairs_head ShareNone s sources apart) t.0 t.1.0 n
    (in_numbers n s (subst (λ k. IsIn k (numbers_of s)) same i)) (in_numbers n t.0 t.1.1))))

-- ---- facts

all_numbers : (facts : Facts) → numbers_of facts.entries ++ peers_numbers facts.peers
    ≡ numbers_among (facts.entries ∷ map (λ (p : HeldPeer). p.content.entries) facts.peers)
all_numbers facts = ap (λ ns. numbers_of facts.entries ++ ns)
    (sym (flat_map-map numbers_of (λ (p : HeldPeer). p.content.entries) facts.peers))
    ∙ sym (flat_map-cons numbers_of facts.entries (map (λ (p : HeldPeer). p.content.entries) facts.peers))

peers_rise : (next : ℕ) (peers : List HeldPeer) → All (IsSoundPeer next) peers → All AreByNumber
    (map (λ (p : HeldPeer). p.content.entries) peers)
peers_rise next [] h = All-nil AreByNumber
peers_rise next (p ∷ peers) h =
    All-cons AreByNumber p.content.entries (map (λ (q : HeldPeer). q.content.entries) peers)
    (All-head (IsSoundPeer next) p peers h).entries.numbers_rise
    (peers_rise next peers (All-tail (IsSoundPeer next) p peers h))

-- the numbers of all entries are different just where no two sources share one
apart-told : (facts : Facts) (next : ℕ) → AreByNumber facts.entries → All (IsSoundPeer next) facts.peers
    → AreOther (numbers_of facts.entries ++ peers_numbers facts.peers) ↔ AreApart facts
apart-told facts next rise peers = (
  λ once. once_apart (facts.entries ∷ map (λ (p : HeldPeer). p.content.entries) facts.peers)
      (subst AreOther (all_numbers facts) once),
  λ apart. subst AreOther (sym (all_numbers facts))
      (apart_once (facts.entries ∷ map (λ (p : HeldPeer). p.content.entries) facts.peers)
      (All-cons AreByNumber facts.entries (map (λ (p : HeldPeer). p.content.entries) facts.peers) rise
      (peers_rise next facts.peers peers)) apart),
)

-- so are these numbers, which are those of all entries
pub numbers_told : (facts : Facts) (next : ℕ) (numbers : List ℕ)
    → numbers ≡ numbers_of facts.entries ++ peers_numbers facts.peers → AreByNumber facts.entries
    → All (IsSoundPeer next) facts.peers → AreOther numbers ↔ AreApart facts
numbers_told facts next numbers is rise peers =
    subst (λ ns. AreOther ns ↔ AreApart facts) (sym is) (apart-told facts next rise peers)

-- also where they were gathered from one after the other
pub gathered_told : (facts : Facts) (next : ℕ) (entries : List HeldEntry) (peers : List HeldPeer)
    (none own all numbers : List ℕ) → none ≡ [] → entries ≡ facts.entries → peers ≡ facts.peers
    → own ≡ none ++ numbers_of entries → all ≡ own ++ peers_numbers peers → numbers ≡ all
    → AreByNumber facts.entries → All (IsSoundPeer next) facts.peers → AreOther numbers ↔ AreApart facts
gathered_told facts next entries peers none own all numbers nothing mine theirs first second last =
    let ours = first ∙ ap (λ ns. ns ++ numbers_of entries) nothing ∙ ap numbers_of mine in
    numbers_told facts next numbers
    (last ∙ second ∙ ap (λ ns. ns ++ peers_numbers peers) ours
    ∙ ap (λ ps. numbers_of facts.entries ++ peers_numbers ps) theirs)
