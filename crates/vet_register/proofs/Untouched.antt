-- What a package keeps where something is changed that is not of it.
use Rattle.std.proofs.Common.{◌≡◌, ◌∙◌, ℕ, Bool, true, false, cond, not, List, [], ◌∷◌, ◌++◌, map, filter}
use Rattle.std.proofs.Common.{Option, Some, None, refl, sym, ap}
use Rattle.std.specs.Cmp.{IsTotalOrder, tied_itself}
use Rattle.std.specs.Cmp.Lexicographic.{bytes_decides, nat_list_cmp_total}
use Rattle.std.specs.FinSet as set
use Rattle.std.specs.List.{All, flat_map, list_any}
use Rattle.std.specs.Ordering.{eq_by_cmp, is_eq, is_gt, is_lt, ordering_reverse}
use Rattle.std.specs.Str.{bytes_eq}
use Rattle.std.specs.declared.cmp.Ordering.{Ordering}
use Rattle.std.specs.declared.cmp.Ordering.TheVariants.{Less, Equal, Greater}
use Rattle.std.proofs.lemmas.Bool.{false≢true}
use Rattle.std.proofs.lemmas.Grind.{flat_map-append}
use Rattle.std.proofs.lemmas.List.Elements.{All-head, All-tail, All-weaker}
use Rattle.vet_base.specs.Keyed.{IsByKey, is_before, is_behind, is_of, item_of, with_item, without_item}
use Rattle.vet_base.specs.Version.{VersionValue}
use Rattle.vet_base.proofs.Comparisons.{equal, is_false}
use Rattle.vet_base.proofs.KeyedLemmas.{greater_behind, rest_by_key}
use Rattle.vet_base.proofs.KeyedParts.{without_none}
use Rattle.vet_base.proofs.ListLemmas.{filter_drops}
use Rattle.vet_base.proofs.Rising.{R}
use Rattle.vet_demand.specs.declared.pair.Pair.{Pair}
use Rattle.vet_demand.specs.Pair.{pair_cmp}
use Rattle.vet_demand.specs.PairLaws.{pair_cmp-IsAntisymmetric}
use Rattle.vet_entries.specs.declared.facts.HeldEntry.{HeldEntry}
use Rattle.vet_entries.specs.ByPackage as by_package
use Rattle.vet_entries.specs.Condemned.{condemns, is_condemned}
use Rattle.vet_entries.specs.Facts.{Facts}
use Rattle.vet_entries.specs.Numbered.{has_number}
use Rattle.vet_entries.specs.PublisherRecords.{records_of}
use Rattle.vet_entries.specs.Step.{SourcedEntry, by_number, entries_of, entry_steps, steps_of}
use Rattle.vet_graph.specs.Touched.{pairs_at}
use Rattle.vet_register.specs.Touches.{held_package, packages_between, pair_package, pairs_between, pairs_by}
use Rattle.vet_register.specs.Touches.{pairs_past}
use Rattle.vet_register.proofs.Lists.{none_pass}

-- ---- names

abbrev pub Other : List ℕ → List ℕ → Type 0
Other name other = bytes_eq other name ≡ false

not_itself : (name other : List ℕ) → eq_by_cmp R name other ≡ false → Other name other
not_itself name other differs =
    is_false (bytes_eq other name)
    (λ same. false≢true (sym differs ∙ ap (λ x. eq_by_cmp R name x) ((bytes_decides other name).0 same)
    ∙ ap is_eq (tied_itself nat_list_cmp_total name)))

-- a name that is not in a set of some is none of them
pub apart : (names : List (List ℕ)) (name : List ℕ) → set.contains (set.from_list {R = R} names) name ≡ false
    → All (Other name) names
apart names name out =
    All-weaker (λ other. eq_by_cmp R name other ≡ false) (Other name) (not_itself name) names
    (none_pass (eq_by_cmp R name) names (sym (set.contains-from_list nat_list_cmp_total names name) ∙ out))

-- ---- steps and condemned versions

-- what a package's steps and its condemned versions depend on: the criteria, its entries, its publisher records and the
-- register's day
pub record SameSources (old new : Facts) (name : List ℕ) : Type 0 where
  pub criteria : old.criteria ≡ new.criteria
  pub entries : entries_of old name ≡ entries_of new name
  pub records : records_of old.publishers name ≡ records_of new.publishers name
  pub today : old.today ≡ new.today

pub same_steps : (old new : Facts) (name : List ℕ) → SameSources old new name → steps_of old name ≡ steps_of new name
same_steps old new name same = λ i. flat_map (entry_steps (same.today i) (same.criteria i) (same.records i))
    (by_number (λ (e : SourcedEntry). e.held.number) (same.entries i))

pub same_condemned : (old new : Facts) (name : List ℕ) → SameSources old new name → (c : ℕ) (v : VersionValue)
    → is_condemned old name c v ≡ is_condemned new name c v
same_condemned old new name same c v = λ i. list_any (condemns (same.criteria i) v c) (same.entries i)

-- ---- own entries

-- with an entry more of another package, those of this one are the same
pub with_other : (name : List ℕ) (entries : List HeldEntry) (h : HeldEntry) → Other name (held_package h)
    → filter (by_package.is_of name) entries ≡ filter (by_package.is_of name) (entries ++ h ∷ [])
with_other name [] h other = ap (λ (b : Bool). cond b (h ∷ []) []) (sym other)
with_other name (x ∷ xs) h other =
    ap (λ (rest : List HeldEntry). cond (by_package.is_of name x) (x ∷ rest) rest) (with_other name xs h other)

-- and without those of a number, which are of others
pub without_others : (name : List ℕ) (n : ℕ) (entries : List HeldEntry)
    → All (Other name) (map held_package (filter (has_number n) entries))
    → filter (by_package.is_of name) entries
    ≡ filter (by_package.is_of name) (filter (λ h. not (has_number n h)) entries)
without_others name n [] others = refl
without_others name n (x ∷ xs) others = by (has_number n x) (without_others name n xs) others
  where
    by : (b : Bool)
        → (All (Other name) (map held_package (filter (has_number n) xs))
        → filter (by_package.is_of name) xs
        ≡ filter (by_package.is_of name) (filter (λ h. not (has_number n h)) xs))
        → All (Other name) (map held_package (cond b (x ∷ filter (has_number n) xs) (filter (has_number n) xs)))
        → filter (by_package.is_of name) (x ∷ xs)
        ≡ filter (by_package.is_of name)
        (cond (not b) (x ∷ filter (λ h. not (has_number n h)) xs) (filter (λ h. not (has_number n h)) xs))
    by true more others =
        let names = map held_package (filter (has_number n) xs) in
        ap (λ (b : Bool). cond b (x ∷ filter (by_package.is_of name) xs) (filter (by_package.is_of name) xs))
        (All-head (Other name) (held_package x) names others)
        ∙ more (All-tail (Other name) (held_package x) names others)
    by false more others =
        ap (λ (rest : List HeldEntry). cond (by_package.is_of name x) (x ∷ rest) rest) (more others)

-- ---- items by keys, of which one gives nothing

module _ {K E Y : Type 0} (cmp : K → K → Ordering) (total : IsTotalOrder cmp)
    (only : (a b : K) → cmp a b ≡ Equal → a ≡ b) (key : E → K) (give : E → List Y) where
  -- what the item of a key gives is nothing, if there is one
  abbrev pub GivesNone : List E → K → Type 0
  GivesNone items k = (x : E) → item_of cmp key items k ≡ Some x → give x ≡ []

  none_later : (x : E) (xs : List E) (k : K) → IsByKey cmp key (x ∷ xs) → is_of cmp key k x ≡ true
      → item_of cmp key xs k ≡ None
  none_later x xs k up here = none xs (greater_behind cmp total only key x xs up)
    where
      turned : (a b : K) → cmp a b ≡ Less → cmp b a ≡ Greater
      turned a b less = total.antisymm b a ∙ ap ordering_reverse less

      none : (ys : List E) → All (λ y. cmp (key x) (key y) ≡ Less) ys → item_of cmp key ys k ≡ None
      none [] above = refl
      none (y ∷ ys) above =
          let same : key x ≡ k = only (key x) k (equal (cmp (key x) k) here) in
          let up_from : cmp k (key y) ≡ Less = ap (λ a. cmp a (key y)) (sym same)
          ∙ All-head (λ z. cmp (key x) (key z) ≡ Less) y ys above in
          let not_of : is_of cmp key k y ≡ false = ap is_eq (turned k (key y) up_from) in
          ap (λ (b : Bool). let o : Option E = cond b (Some y) (item_of cmp key ys k) in o) not_of
          ∙ none ys (All-tail (λ z. cmp (key x) (key z) ≡ Less) y ys above)

  -- without it, the others give the same
  pub give-without : (items : List E) (k : K) → IsByKey cmp key items → GivesNone items k
      → flat_map give items ≡ flat_map give (without_item cmp key items k)
  give-without [] k up none = refl
  give-without (x ∷ xs) k up none =
      by (is_of cmp key k x) refl (give-without xs k (rest_by_key cmp total only key x xs up)) none
    where
      by : (b : Bool) → is_of cmp key k x ≡ b
          → (GivesNone xs k → flat_map give xs ≡ flat_map give (without_item cmp key xs k))
          → ((y : E) → (let o : Option E = cond b (Some x) (item_of cmp key xs k) in o) ≡ Some y → give y ≡ [])
          → flat_map give (x ∷ xs)
          ≡ flat_map give (cond (not b) (x ∷ without_item cmp key xs k) (without_item cmp key xs k))
      by true here more none =
          ap (λ ys. ys ++ flat_map give xs) (none x refl)
          ∙ ap (flat_map give) (sym (without_none cmp key xs k (none_later x xs k up here)))
      by false there more none = ap (λ ys. give x ++ ys) (more none)

  -- the items of lesser keys, then those of greater ones, are all but that of the key
  none_before : (x : E) (xs : List E) (k : K) → IsByKey cmp key (x ∷ xs) → cmp (key x) k ≡ Greater
      → filter (is_before cmp key k) xs ≡ []
  none_before x xs k up behind =
      filter_drops (is_before cmp key k) xs
      (All-weaker (λ y. cmp (key x) (key y) ≡ Less) (λ y. is_before cmp key k y ≡ false) above xs
      (greater_behind cmp total only key x xs up))
    where
      above : (y : E) → cmp (key x) (key y) ≡ Less → is_before cmp key k y ≡ false
      above y less = by (cmp (key y) k) refl
        where
          by : (r : Ordering) → cmp (key y) k ≡ r → is_lt r ≡ false
          by Less h = cc (sym behind ∙ total.trans (key x) (key y) k less h)
          by Equal h = refl
          by Greater h = refl

  by_place : (x : E) (front back rest : List E) (r : Ordering) → (r ≡ Greater → front ≡ []) → front ++ back ≡ rest
      → cond (is_lt r) (x ∷ front) front ++ cond (is_gt r) (x ∷ back) back ≡ cond (not (is_eq r)) (x ∷ rest) rest
  by_place x front back rest Less none more = ap (λ (ys : List E). x ∷ ys) more
  by_place x front back rest Equal none more = more
  by_place x front back rest Greater none more =
      let nothing = none refl in
      ap (λ (ys : List E). ys ++ (x ∷ back)) nothing
      ∙ ap (λ (ys : List E). x ∷ ys) (sym (ap (λ (ys : List E). ys ++ back) nothing) ∙ more)

  both_sides : (items : List E) (k : K) → IsByKey cmp key items
      → filter (is_before cmp key k) items ++ filter (is_behind cmp key k) items ≡ without_item cmp key items k
  both_sides [] k up = refl
  both_sides (x ∷ xs) k up =
      by_place x (filter (is_before cmp key k) xs) (filter (is_behind cmp key k) xs) (without_item cmp key xs k)
      (cmp (key x) k) (none_before x xs k up) (both_sides xs k (rest_by_key cmp total only key x xs up))

  -- with an item that gives nothing, in place of one that gives nothing, they give the same
  pub give-with : (items : List E) (e : E) → IsByKey cmp key items → give e ≡ [] → GivesNone items (key e)
      → flat_map give items ≡ flat_map give (with_item cmp key items e)
  give-with items e up own none =
      let front = filter (is_before cmp key (key e)) items in
      let back = filter (is_behind cmp key (key e)) items in
      give-without items (key e) up none
      ∙ ap (flat_map give) (sym (both_sides items (key e) up))
      ∙ flat_map-append give front back
      ∙ ap (λ ys. flat_map give front ++ (ys ++ flat_map give back)) (sym own)
      ∙ sym (flat_map-append give front (e ∷ back))

-- ---- demanded pairs

module _ (name : List ℕ) where
  -- a package of which no pair is in one of two demands alone has the same pairs in both
  abbrev SamePairs : List Pair → List Pair → Type 0
  SamePairs before after =
      All (Other name) (packages_between before after) → pairs_at name before ≡ pairs_at name after

  abbrev at : Pair → List Pair → List Pair
  at q rest = cond (bytes_eq q.«package» name) (q ∷ rest) rest

  -- a pair of another package is no pair of this one
  drops : (q : Pair) (rest : List Pair) (more : List (List ℕ)) → All (Other name) (pair_package q ∷ more)
      → at q rest ≡ rest
  drops q rest more h = ap (λ (b : Bool). cond b (q ∷ rest) rest) (All-head (Other name) (pair_package q) more h)

  of_others : (ps : List Pair) → All (Other name) (map pair_package ps) → pairs_at name ps ≡ []
  of_others [] h = refl
  of_others (p ∷ ps) h =
      drops p (pairs_at name ps) (map pair_package ps) h
      ∙ of_others ps (All-tail (Other name) (pair_package p) (map pair_package ps) h)

  by_order : (p q : Pair) (before after : List Pair) (r : Ordering) → pair_cmp p q ≡ r
      → SamePairs before (q ∷ after) → SamePairs before after → SamePairs (p ∷ before) after
      → All (Other name) (map pair_package (pairs_by r p q (pairs_between before (q ∷ after))
      (pairs_between before after) (pairs_past p (pairs_between before) after)))
      → pairs_at name (p ∷ before) ≡ pairs_at name (q ∷ after)
  by_order p q before after Less is less equal greater h =
      let more = packages_between before (q ∷ after) in
      drops p (pairs_at name before) more h ∙ less (All-tail (Other name) (pair_package p) more h)
  by_order p q before after Equal is less equal greater h =
      ap (λ (x : Pair). at x (pairs_at name before)) (pair_cmp-IsAntisymmetric p q is)
      ∙ ap (at q) (equal h)
  by_order p q before after Greater is less equal greater h =
      let more = packages_between (p ∷ before) after in
      greater (All-tail (Other name) (pair_package q) more h) ∙ sym (drops q (pairs_at name after) more h)

  past : (p : Pair) (before : List Pair) → ((after : List Pair) → SamePairs before after) → (after : List Pair)
      → SamePairs (p ∷ before) after
  past p before more [] h =
      drops p (pairs_at name before) (packages_between before []) h
      ∙ more [] (All-tail (Other name) (pair_package p) (packages_between before []) h)
  past p before more (q ∷ after) h =
      by_order p q before after (pair_cmp p q) refl (more (q ∷ after)) (more after) (past p before more after) h

  pub same_pairs : (before after : List Pair) → SamePairs before after
  same_pairs [] after others = sym (of_others after others)
  same_pairs (p ∷ before) after others = past p before (same_pairs before) after others
