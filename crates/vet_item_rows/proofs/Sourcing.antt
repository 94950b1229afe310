-- What is one's own and what is of each peer, among items in whatever order.
use Rattle.std.proofs.Common.{◌≡◌, true, List, [], ◌∷◌, ◌++◌, ◌∙◌, map}
use Rattle.std.proofs.Common.{refl, sym, ap}
use Rattle.std.proofs.Common.{subst, inl, inr, Ordering}
use Rattle.std.specs.Cmp.{tied_itself}
use Rattle.std.specs.List.{filter, flat_map}
use Rattle.std.specs.Ordering.{is_eq, nat_cmp}
use Rattle.std.specs.Cmp.Lexicographic.{slice_cmp}
use Rattle.std.proofs.lemmas.Cmp.{nat_list_cmp_total}
use Rattle.std.proofs.lemmas.List.{map-append}
use Rattle.std.proofs.lemmas.List.Concat.{flat_map-cons}
use Rattle.vet_base.specs.Items.{IsIn, SameItems}
use Rattle.vet_base.specs.Words.{Name}
use Rattle.vet_base.proofs.Comparisons.{equal}
use Rattle.vet_base.proofs.ItemLemmas.{filter_in, in_append, in_back, in_filter, in_front, in_map, map_in}
use Rattle.vet_base.proofs.Rising.{only_equal}
use Rattle.vet_entries.specs.declared.entry.Source.{Source}
use Rattle.vet_entries.specs.declared.entry.Source.TheVariants.{Own, Peer}
use Rattle.vet_item_rows.specs.Gathered.{is_filed_at, items_at}
use Rattle.vet_item_rows.specs.ReadSourced.{filed_of, of_peers, of_peers_one, own_items, own_of, own_one, peer_in}
use Rattle.vet_item_rows.specs.declared.read.gathered.WithKey.{WithKey}

abbrev R : Name → Name → Ordering
R = slice_cmp nat_cmp

-- ---- items of joined lists

pub in_flat : {X Y : Type 0} (f : X → List Y) (xs : List X) (y : Y) → IsIn y (flat_map f xs)
    → (x : X) × (IsIn x xs × IsIn y (f x))
in_flat f [] y among = absurd among
in_flat f (x ∷ xs) y among =
    elim (in_append (f x) (flat_map f xs) y (subst (IsIn y) (flat_map-cons f x xs) among)) [
      | inl here ↦ (x, (inl refl, here))
      | inr later ↦ let rest = in_flat f xs y later in (rest.0, (inr rest.1.0, rest.1.1))
    ]

pub flat_in : {X Y : Type 0} (f : X → List Y) (xs : List X) (x : X) (y : Y) → IsIn x xs → IsIn y (f x)
    → IsIn y (flat_map f xs)
flat_in f [] x y among here = absurd among
flat_in f (z ∷ xs) x y (inl first) here =
    subst (IsIn y) (sym (flat_map-cons f z xs))
    (in_front (f z) (flat_map f xs) y (subst (λ w. IsIn y (f w)) first here))
flat_in f (z ∷ xs) x y (inr later) here =
    subst (IsIn y) (sym (flat_map-cons f z xs)) (in_back (f z) (flat_map f xs) y (flat_in f xs x y later here))

pub map_flat : {X Y Z : Type 0} (g : Y → Z) (f : X → List Y) (xs : List X)
    → map g (flat_map f xs) ≡ flat_map (λ x. map g (f x)) xs
map_flat g f [] = refl
map_flat g f (x ∷ xs) =
    ap (map g) (flat_map-cons f x xs) ∙ map-append g (f x) (flat_map f xs)
    ∙ ap (λ zs. map g (f x) ++ zs) (map_flat g f xs) ∙ sym (flat_map-cons (λ y. map g (f y)) x xs)

-- ---- items and their sources

module _ {X : Type 0} (source_of : X → Source) where
  in_own_one : (s : Source) (x y : X) → IsIn y (own_of (peer_in s) x) → (y ≡ x) × (s ≡ Own)
  in_own_one Own x y (inl same) = (same, refl)
  in_own_one Own x y (inr none) = absurd none
  in_own_one (Peer n) x y none = absurd none

  pub in_own : (xs : List X) (x : X) → IsIn x (own_items source_of xs) → IsIn x xs × (source_of x ≡ Own)
  in_own xs x among =
      let found = in_flat (own_one source_of) xs x among in
      let one = in_own_one (source_of found.0) found.0 x found.1.1 in
      (subst (λ y. IsIn y xs) (sym one.0) found.1.0, ap source_of one.0 ∙ one.1)

  pub own_in : (xs : List X) (x : X) → IsIn x xs → source_of x ≡ Own → IsIn x (own_items source_of xs)
  own_in xs x among own =
      flat_in (own_one source_of) xs x x among (subst (λ s. IsIn x (own_of (peer_in s) x)) (sym own) (inl refl))

  in_filed_one : (s : Source) (x : X) (f : WithKey Name X) → IsIn f (filed_of (peer_in s) x)
      → (f.item ≡ x) × (s ≡ Peer f.key)
  in_filed_one Own x f none = absurd none
  in_filed_one (Peer n) x f (inl same) =
      (ap (λ (g : WithKey Name X). g.item) same, ap (λ (g : WithKey Name X). Peer g.key) (sym same))
  in_filed_one (Peer n) x f (inr none) = absurd none

  tied : (a b : Name) → is_eq (R a b) ≡ true → a ≡ b
  tied a b t = only_equal a b (equal (R a b) t)

  -- what is filed under a name among those of peers is of that peer
  pub in_peer : (xs : List X) (n : Name) (x : X) → IsIn x (items_at R n (of_peers source_of xs))
      → IsIn x xs × (source_of x ≡ Peer n)
  in_peer xs n x among =
      let f = in_map (λ (f : WithKey Name X). f.item) (filter (is_filed_at R n) (of_peers source_of xs)) x among in
      let parts = in_filter (is_filed_at R n) (of_peers source_of xs) f.0 f.1.0 in
      let found = in_flat (of_peers_one source_of) xs f.0 parts.0 in
      let one = in_filed_one (source_of found.0) found.0 f.0 found.1.1 in
      let same : x ≡ found.0 = f.1.1 ∙ one.0 in
      (subst (λ y. IsIn y xs) (sym same) found.1.0, ap source_of same ∙ one.1 ∙ ap Peer (sym (tied n f.0.key parts.1)))

  pub peer_in_items : (xs : List X) (n : Name) (x : X) → IsIn x xs → source_of x ≡ Peer n
      → IsIn x (items_at R n (of_peers source_of xs))
  peer_in_items xs n x among of =
      let filed : WithKey Name X = record { key = n; item = x } in
      let there : IsIn filed (of_peers source_of xs) =
      flat_in (of_peers_one source_of) xs x filed among
      (subst (λ s. IsIn filed (filed_of (peer_in s) x)) (sym of) (inl refl)) in
      map_in (λ (f : WithKey Name X). f.item) (filter (is_filed_at R n) (of_peers source_of xs)) filed
      (filter_in (is_filed_at R n) (of_peers source_of xs) filed there (ap is_eq (tied_itself nat_list_cmp_total n)))

-- ---- one's own, and those of each of some

module _ {X P : Type 0} (source_of : X → Source) (name : P → Name) (own : List X) (of : P → List X) (peers : List P)
    (is_own : (x : X) → IsIn x own → source_of x ≡ Own)
    (is_of : (p : P) → IsIn p peers → (x : X) → IsIn x (of p) → source_of x ≡ Peer (name p))
    (once : (p q : P) → IsIn p peers → IsIn q peers → name p ≡ name q → p ≡ q) where
  abbrev pub all : List X
  all = own ++ flat_map of peers

  name_in : Source → Name → Name
  name_in Own n = n
  name_in (Peer m) n = m

  pub same_own : (xs : List X) → SameItems xs all → SameItems (own_items source_of xs) own
  same_own xs same = (
    λ x among. (let parts = in_own source_of xs x among in
        elim (in_append own (flat_map of peers) x (same.0 x parts.0)) [
          | inl here ↦ here
          | inr later ↦ let p = in_flat of peers x later in
              absurd (no_peer (name p.0) (sym parts.1 ∙ is_of p.0 p.1.0 x p.1.1))
        ]),
    λ x among. own_in source_of xs x (same.1 x (in_front own (flat_map of peers) x among)) (is_own x among),
  )
    where
      no_peer : (n : Name) → Own ≡ Peer n → ⊥
      no_peer n e = cc e

  pub same_peer : (xs : List X) → SameItems xs all → (p : P) → IsIn p peers
      → SameItems (items_at R (name p) (of_peers source_of xs)) (of p)
  same_peer xs same p there = (
    λ x among. (let parts = in_peer source_of xs (name p) x among in
        elim (in_append own (flat_map of peers) x (same.0 x parts.0)) [
          | inl here ↦ absurd (no_own (name p) (sym (is_own x here) ∙ parts.1))
          | inr later ↦ let q = in_flat of peers x later in
              let named : name q.0 ≡ name p = same_name (sym (is_of q.0 q.1.0 x q.1.1) ∙ parts.1) in
              subst (λ r. IsIn x (of r)) (once q.0 p q.1.0 there named) q.1.1
        ]),
    λ x among. peer_in_items source_of xs (name p) x
        (same.1 x (in_back own (flat_map of peers) x (flat_in of peers p x there among))) (is_of p there x among),
  )
    where
      no_own : (n : Name) → Own ≡ Peer n → ⊥
      no_own n e = cc e

      same_name : {a b : Name} → Peer a ≡ Peer b → a ≡ b
      same_name e = cc e
