-- Items filed one after another under keys that stand in order.
use Rattle.std.specs.List.{AllPairs}
use Rattle.std.proofs.lemmas.List.Elements.{All-cons, All-head, All-nil, All-tail}
use Rattle.std.proofs.lemmas.List.Kept.{AllPairs-cons}
use Rattle.std.proofs.Common.{◌≡◌, ℕ, zero, suc, ◌<◌, Bool, true, false, cond, List, [], ◌∷◌, ◌++◌, ◌∙◌, get_or, length}
use Rattle.std.proofs.Common.{map, set, refl, sym, ap, arith, Option, Some, None, Err}
use Rattle.std.specs.Cmp.{IsTotalOrder, tied_itself}
use Rattle.std.specs.List.{All, filter, find}
use Rattle.std.specs.Ordering.{is_eq}
use Rattle.std.specs.declared.cmp.Ordering.{Ordering}
use Rattle.std.specs.declared.cmp.Ordering.TheVariants.{Less, Equal}
use Rattle.vet_base.specs.Keyed.{IsByKey, IsPlace, is_of, item_of}
use Rattle.vet_base.proofs.ItemLemmas.{pairs_head, pairs_none, pairs_tail}
use Rattle.vet_base.proofs.KeyedLemmas.{above, no_item}
use Rattle.vet_item_rows.specs.Gathered.{Gathered, gathered, head_key, is_filed_at, items_at, with_filed}
use Rattle.vet_item_rows.specs.declared.read.gathered.WithKey.{WithKey}

-- ---- lists of images

pub all_mapped : {X Y : Type 0} (f : X → Y) (P : Y → Type 0) (xs : List X) → All (λ x. P (f x)) xs → All P (map f xs)
all_mapped f P [] h = All-nil P
all_mapped f P (x ∷ xs) h = All-cons P (f x) (map f xs) (All-head (λ y. P (f y)) x xs h)
    (all_mapped f P xs (All-tail (λ y. P (f y)) x xs h))

pub pairs_mapped : {X Y : Type 0} (f : X → Y) (R : Y → Y → Type 0) (xs : List X) → AllPairs (λ x y. R (f x) (f y)) xs
    → AllPairs R (map f xs)
pairs_mapped f R [] h = pairs_none R
pairs_mapped f R (x ∷ xs) h =
    AllPairs-cons R (f x) (map f xs) (all_mapped f (R (f x)) xs (pairs_head (λ y z. R (f y) (f z)) x xs h))
    (pairs_mapped f R xs (pairs_tail (λ y z. R (f y) (f z)) x xs h))

module _ {K H T : Type 0} (cmp : K → K → Ordering) (total : IsTotalOrder cmp)
    (only : (a b : K) → cmp a b ≡ Equal → a ≡ b) (key : H → K) where
  abbrev pub pushed : Gathered H T → T → Gathered H T
  pushed g x = record g { items = g.items ++ x ∷ [] }

  -- ---- one item more

  at_key : (f : WithKey K T) (g : Gathered H T) → key g.head ≡ f.key → with_filed cmp key f g ≡ pushed g f.item
  at_key f g same = ap (λ b. cond b (pushed g f.item) g) (ap (λ k. is_eq (cmp k f.key)) same
      ∙ ap is_eq (tied_itself total f.key))

  at_other : (f : WithKey K T) (g : Gathered H T) → is_eq (cmp (key g.head) f.key) ≡ false → with_filed cmp key f g ≡ g
  at_other f g differs = ap (λ b. cond b (pushed g f.item) g) differs

  at_others : (f : WithKey K T) (gs : List (Gathered H T)) → All (λ g. is_eq (cmp (key g.head) f.key) ≡ false) gs
      → map (with_filed cmp key f) gs ≡ gs
  at_others f [] differ = refl
  at_others f (g ∷ gs) differ =
      let first = at_other f g (differ 0 g (omega arith)) in
      let rest = at_others f gs (λ k d l. differ (suc k) d (omega (arith, l))) in
      λ i. first i ∷ rest i

  -- it goes where its key stands
  pub filed_at : (f : WithKey K T) (gs : List (Gathered H T)) (place : ℕ) (g : Gathered H T)
      → IsByKey cmp (head_key key) gs
      → place < length gs → ((d : Gathered H T) → get_or gs place d ≡ g) → key g.head ≡ f.key
      → set gs place (pushed g f.item) ≡ map (with_filed cmp key f) gs
  filed_at f [] place g up within at same = absurd (omega (arith, within))
  filed_at f (x ∷ gs) zero g up within at same =
      let here : x ≡ g = at g in
      let first : with_filed cmp key f x ≡ pushed g f.item = ap (with_filed cmp key f) here ∙ at_key f g same in
      let behind : All (λ y. is_eq (cmp (key y.head) f.key) ≡ false) gs =
      λ k d l. ap is_eq (ap (λ n. cmp (key (get_or gs k d).head) n) (sym same ∙ sym (ap (λ y. key y.head) here))
      ∙ above cmp total only (head_key {T = T} key) (key x.head) (key (get_or gs k d).head) (pairs_head
      (λ a b. cmp (key a.head) (key b.head) ≡ Less) x gs up k d l)) in
      let rest = at_others f gs behind in
      sym (λ i. first i ∷ rest i)
  filed_at f (x ∷ gs) (suc place) g up within at same =
      let in_rest : place < length gs = omega (arith, within) in
      let less : cmp (key x.head) (key g.head) ≡ Less = ap (λ y. cmp (key x.head) (key y.head)) (sym (at g))
      ∙ pairs_head (λ a b. cmp (key a.head) (key b.head) ≡ Less) x gs up place g in_rest in
      let first = at_other f x (ap is_eq (ap (cmp (key x.head)) (sym same) ∙ less)) in
      let rest = filed_at f gs place g (pairs_tail (λ a b. cmp (key a.head)
      (key b.head) ≡ Less) x gs up) in_rest at same in
      λ i. sym first i ∷ rest i

  none_there : (f : WithKey K T) (gs : List (Gathered H T)) → item_of cmp (head_key key) gs f.key ≡ None
      → map (with_filed cmp key f) gs ≡ gs
  none_there f [] none = refl
  none_there f (g ∷ gs) none = by (none_there f gs) (is_eq (cmp (key g.head) f.key)) refl none
    where
      by : (item_of cmp (head_key key) gs f.key ≡ None → map (with_filed cmp key f) gs ≡ gs) → (b : Bool)
          → is_eq (cmp (key g.head) f.key) ≡ b
          → (let o : Option (Gathered H T) = cond b (Some g) (find (is_of cmp (head_key key) f.key) gs) in o) ≡ None
          → map (with_filed cmp key f) (g ∷ gs) ≡ g ∷ gs
      by more true e h = cc h
      by more false e h = (let first = at_other f g e in let rest = more h in λ i. first i ∷ rest i)

  -- and nowhere if none has its key
  pub filed_nowhere : (f : WithKey K T) (gs : List (Gathered H T)) (place : ℕ)
      → IsPlace cmp (head_key key) gs f.key (Err place)
      → gs ≡ map (with_filed cmp key f) gs
  filed_nowhere f gs place at = sym (none_there f gs (no_item cmp total only (head_key key) gs f.key place at))

  -- ---- all items

  more_at : (k : K) (filed : List (WithKey K T)) (f : WithKey K T) → items_at cmp k (filed ++ f ∷ [])
      ≡ cond (is_filed_at cmp k f) (items_at cmp k filed ++ f.item ∷ []) (items_at cmp k filed)
  more_at k [] f = by (is_filed_at cmp k f)
    where
      by : (b : Bool) → map (λ (x : WithKey K T). x.item) (cond b (f ∷ []) []) ≡ cond b (f.item ∷ []) []
      by true = refl
      by false = refl
  more_at k (x ∷ filed) f = by (is_filed_at cmp k x) (is_filed_at cmp k f) (more_at k filed f)
    where
      by : (a b : Bool) → items_at cmp k (filed ++ f ∷ [])
          ≡ cond b (items_at cmp k filed ++ f.item ∷ []) (items_at cmp k filed)
          → map (λ (y : WithKey K T). y.item) (cond a (x ∷ filter (is_filed_at cmp k) (filed ++ f ∷ []))
          (filter (is_filed_at cmp k) (filed ++ f ∷ [])))
          ≡ cond b (map (λ (y : WithKey K T). y.item) (cond a (x ∷ filter (is_filed_at cmp k) filed) (filter
          (is_filed_at cmp k) filed)) ++ f.item ∷ [])
          (map (λ (y : WithKey K T). y.item) (cond a (x ∷ filter (is_filed_at cmp k) filed) (filter
          (is_filed_at cmp k) filed)))
      by true true more = ap (λ xs. x.item ∷ xs) more
      by true false more = ap (λ xs. x.item ∷ xs) more
      by false true more = more
      by false false more = more

  abbrev of_head : H → List T → Gathered H T
  of_head h xs = record { head = h; items = xs }

  more_gathered : (filed : List (WithKey K T)) (f : WithKey K T) (h : H)
      → with_filed cmp key f (gathered cmp key filed h) ≡ gathered cmp key (filed ++ f ∷ []) h
  more_gathered filed f h =
      by (is_filed_at cmp (key h) f) ∙ ap (of_head h) (sym (more_at (key h) filed f))
    where
      by : (b : Bool)
          → cond b (of_head h (items_at cmp (key h) filed ++ f.item ∷ [])) (of_head h (items_at cmp (key h) filed))
          ≡ of_head h (cond b (items_at cmp (key h) filed ++ f.item ∷ []) (items_at cmp (key h) filed))
      by true = refl
      by false = refl

  pub gathered_more : (filed : List (WithKey K T)) (f : WithKey K T) (hs : List H)
      → map (with_filed cmp key f) (map (gathered cmp key filed) hs) ≡ map (gathered cmp key (filed ++ f ∷ [])) hs
  gathered_more filed f [] = refl
  gathered_more filed f (h ∷ hs) =
      let first = more_gathered filed f h in let rest = gathered_more filed f hs in λ i. first i ∷ rest i

  -- the keys are those of the heads, in order
  pub gathered_by_key : (filed : List (WithKey K T)) (hs : List H) → IsByKey cmp key hs
      → IsByKey cmp (head_key key) (map (gathered cmp key filed) hs)
  gathered_by_key filed hs up =
      pairs_mapped (gathered cmp key filed) (λ a b. cmp (key a.head) (key b.head) ≡ Less) hs up
