-- What a pass over entries in order tells of held ones and of those of a content.
use Rattle.std.proofs.Common.{◌≡◌, ℕ, ◌==◌, Bool, true, false, cond, not, ◌&&◌, ◌||◌, List, [], ◌∷◌, length, map}
use Rattle.std.proofs.Common.{get_or, suc, Option, Some, None, is_none, option_map, refl, sym, ap, ◌∙◌, arith}
use Rattle.std.specs.List.{All, filter, list_all, list_any}
use Rattle.std.specs.Option.{unwrap_or}
use Rattle.std.proofs.lemmas.Bool.{false≢true}
use Rattle.std.proofs.lemmas.Bool.Decides.{nat_tests}
use Rattle.std.proofs.lemmas.List.Folds.{list_all-map}
use Rattle.std.proofs.lemmas.List.Elements.{All-nil, All-cons, All-head, All-tail}
use Rattle.vet_base.specs.Defined.{defined}
use Rattle.vet_base.specs.Definitions.{criteria_eq}
use Rattle.vet_entries.specs.declared.entry.Entry.{Entry}
use Rattle.vet_entries.specs.declared.entry.Source.{Source}
use Rattle.vet_entries.specs.declared.entry.Source.TheVariants.{Own, Peer}
use Rattle.vet_entries.specs.declared.facts.HeldEntry.{HeldEntry}
use Rattle.vet_entries.specs.Entry.{entry_eq, of_source, own}
use Rattle.vet_entries.specs.EntryLaws.{entry_eq-Decides}
use Rattle.vet_entries.specs.HeldPeer.{as_peers}
use Rattle.vet_entries.specs.Holding.{HoldingValue}
use Rattle.vet_entries.specs.Import.{ComparisonValue, compared, compared_own, same_content}
use Rattle.vet_entries.specs.PeerContent.{PeerContentValue, is_own, is_peer_entry, is_peer_kind}
use Rattle.vet_entries.specs.Replaced.{as_of, comes_again, is_dated, is_held, is_new, new_of, remains, same_entries}
use Rattle.vet_entries.proofs.ImportMarks.{marks_count}

-- two tests that pass alike are the same
same_tests : (a b : Bool) → (a ≡ true → b ≡ true) → (b ≡ true → a ≡ true) → a ≡ b
same_tests true b f g = sym (f refl)
same_tests false true f g = g refl
same_tests false false f g = refl

-- lists of alike values
pub map_alike : {X Y : Type 0} (f g : X → Y) (xs : List X) → All (λ x. f x ≡ g x) xs → map f xs ≡ map g xs
map_alike f g [] h = refl
map_alike f g (x ∷ xs) h = λ i. All-head (λ y. f y ≡ g y) x xs h i ∷ map_alike f g xs (All-tail (λ y. f y ≡ g y) x xs h)
    i

pub any_alike : {X : Type 0} (p q : X → Bool) (xs : List X) → All (λ x. p x ≡ q x) xs → list_any p xs ≡ list_any q xs
any_alike p q [] h = refl
any_alike p q (x ∷ xs) h =
    λ i. (All-head (λ y. p y ≡ q y) x xs h i || any_alike p q xs (All-tail (λ y. p y ≡ q y) x xs h) i)

pub any_map : {X Y : Type 0} (p : Y → Bool) (f : X → Y) (xs : List X)
    → list_any p (map f xs) ≡ list_any (λ x. p (f x)) xs
any_map p f [] = refl
any_map p f (x ∷ xs) = ap (λ b. p (f x) || b) (any_map p f xs)

or_true : (b : Bool) → (b || true) ≡ true
or_true true = refl
or_true false = refl

-- each item of a list is like one of it
pub any_self : {X : Type 0} (R : X → X → Bool) → ((x : X) → R x x ≡ true) → (xs : List X)
    → All (λ x. list_any (λ y. R y x) xs ≡ true) xs
any_self R r [] = All-nil _
any_self R r (x ∷ xs) = All-cons (λ z. list_any (λ y. R y z) (x ∷ xs) ≡ true) x xs
    (ap (λ b. b || list_any (λ y. R y x) xs) (r x)) (λ k d l. ap (λ b. R x (get_or xs k d) || b) (any_self R r xs k d l)
    ∙ or_true (R x (get_or xs k d)))

-- ---- an entry of a peer, and the same as the peer's own

pub restored : (x : Entry) (s : Source) → x.source ≡ s → of_source s x ≡ x
restored x s e = λ i. record {
  source = sym e i;
  «package» = x.«package»;
  kind = x.kind;
  criteria = x.criteria;
  notes =
      x.notes;
}

-- an entry of a source says the same as another just where the two are the same as of that source
pub same_as_own : (source : Source) (x e : Entry) → x.source ≡ source
    → entry_eq (own x) (own e) ≡ entry_eq x (of_source source e)
same_as_own source x e its =
    same_tests (entry_eq (own x) (own e)) (entry_eq x (of_source source e))
    (λ h. (entry_eq-Decides x (of_source source e)).1
    (sym (restored x source its) ∙ ap (of_source source) ((entry_eq-Decides (own x) (own e)).0 h)))
    (λ h. (entry_eq-Decides (own x) (own e)).1 (ap own ((entry_eq-Decides x (of_source source e)).0 h)))

-- an entry that a peer's file gives is written as one's own
pub is_own_entry : (e : Entry) → is_peer_entry e ≡ true → is_own e.source ≡ true
is_own_entry e h = by (is_own e.source) (is_peer_kind e.kind) h
  where
    by : (a b : Bool) → (a && b) ≡ true → a ≡ true
    by true b t = refl
    by false b t = absurd (false≢true t)

pub own_source : (s : Source) → is_own s ≡ true → s ≡ Own
own_source Own h = refl
own_source (Peer n) h = absurd (false≢true h)

pub own_of : (e : Entry) → is_peer_entry e ≡ true → e.source ≡ Own
own_of e h = own_source e.source (is_own_entry e h)

symmetric : (a b : Entry) → entry_eq a b ≡ entry_eq b a
symmetric a b = same_tests (entry_eq a b) (entry_eq b a)
    (λ h. (entry_eq-Decides b a).1 (sym ((entry_eq-Decides a b).0 h)))
    (λ h. (entry_eq-Decides a b).1 (sym ((entry_eq-Decides b a).0 h)))

-- ---- what a look-up among held entries finds

found_again : (held seen : Bool) → held ≡ true
    → unwrap_or (option_map (λ before. before || seen) (cond held (Some false) None)) false ≡ seen
found_again true seen h = refl
found_again false seen h = cc h

found_not : (held : Bool) → is_none (cond held (Some false) None) ≡ not held
found_not true = refl
found_not false = refl

module _ (source : Source) (held : List HeldEntry) (entries : List Entry)
    (theirs : All (λ h. h.entry.source ≡ source) held) where
  -- those that are kept in any case remain, and so do those that were seen
  again_is : (stays : HeldEntry → Bool) (seen : Entry → Option Bool)
      → ((q : Entry) → seen q ≡ option_map (λ before. before || list_any (λ e. entry_eq (own e) q) entries)
      (cond (list_any (λ h. entry_eq (own h.entry) q) held) (Some false) None))
      → map (λ h. stays h || unwrap_or (seen (own h.entry)) false) held
      ≡ map (remains stays (as_of source entries)) held
  again_is stays seen is = map_alike (λ (h : HeldEntry). stays h || unwrap_or (seen (own h.entry)) false)
      (remains stays (as_of source entries)) held (λ k d l.
      ap (λ b. stays (get_or held k d) || b)
      (one (get_or held k d) (theirs k d l)
      (any_self (λ (g h : HeldEntry). entry_eq (own g.entry) (own h.entry))
      (λ h. (entry_eq-Decides (own h.entry) (own h.entry)).1 refl) held k d l)))
    where
      one : (h : HeldEntry) → h.entry.source ≡ source → list_any (λ g. entry_eq (own g.entry) (own h.entry)) held ≡ true
          → unwrap_or (seen (own h.entry)) false ≡ comes_again (as_of source entries) h
      one h its here =
          ap (λ o. unwrap_or o false) (is (own h.entry))
          ∙ found_again _ (list_any (λ e. entry_eq (own e) (own h.entry)) entries) here
          ∙ any_alike (λ e. entry_eq (own e) (own h.entry)) (λ e. entry_eq h.entry (of_source source e)) entries
          (λ k d l. symmetric (own (get_or entries k d)) (own h.entry) ∙ same_as_own source h.entry (get_or entries k d)
          its)
          ∙ sym (any_map (entry_eq h.entry) (of_source source) entries)

  -- those that were not found are new
  fresh_is : (seen : Entry → Option Bool)
      → ((q : Entry) → seen q ≡ cond (list_any (λ h. entry_eq (own h.entry) q) held) (Some false) None)
      → map (λ e. is_none (seen (own e))) entries ≡ map (is_new held) (as_of source entries)
  fresh_is seen is = map_alike (λ e. is_none (seen (own e))) (λ e. is_new held (of_source source e)) entries
      (λ k d l. one (get_or entries k d)) ∙ sym (twice entries)
    where
      one : (e : Entry) → is_none (seen (own e)) ≡ is_new held (of_source source e)
      one e = ap is_none (is (own e)) ∙ found_not _
          ∙ ap not (any_alike (λ h. entry_eq (own h.entry) (own e)) (λ h. entry_eq h.entry (of_source source e)) held
          (λ k d l. same_as_own source (get_or held k d).entry e (theirs k d l)))

      twice : (es : List Entry) → map (is_new held) (as_of source es) ≡ map (λ e. is_new held (of_source source e)) es
      twice [] = refl
      twice (e ∷ es) = ap (λ (bs : List Bool). is_new held (of_source source e) ∷ bs) (twice es)

  -- where a pass looks for the entries given among those held
  pub pass_again : (stays : HeldEntry → Bool) (hs hs' : List HeldEntry) (es : List Entry)
      (before after : Entry → Option Bool)
      → hs ≡ held → hs' ≡ held → es ≡ entries
      → ((q : Entry) → before q ≡ cond (list_any (λ h. entry_eq (own h.entry) q) hs) (Some false) None)
      → ((q : Entry) → after q ≡ option_map (λ b. b || list_any (λ e. entry_eq (own e) q) es) (before q))
      → map (λ h. stays h || unwrap_or (after (own h.entry)) false) hs'
      ≡ map (remains stays (as_of source entries)) held
  pass_again stays hs hs' es before after eh eh' ee b a =
      ap (map (λ h. stays h || unwrap_or (after (own h.entry)) false)) eh'
      ∙ again_is stays after (λ q. a q
      ∙ ap (λ l. option_map (λ x. x || list_any (λ e. entry_eq (own e) q) l) (before q)) ee
      ∙ ap (option_map (λ x. x || list_any (λ e. entry_eq (own e) q) entries))
      (b q ∙ ap (λ l. cond (list_any (λ h. entry_eq (own h.entry) q) l) (Some false) None) eh))

  pub pass_fresh : (hs : List HeldEntry) (es : List Entry) (before : Entry → Option Bool)
      → hs ≡ held → es ≡ entries
      → ((q : Entry) → before q ≡ cond (list_any (λ h. entry_eq (own h.entry) q) hs) (Some false) None)
      → map (λ e. is_none (before (own e))) es ≡ map (is_new held) (as_of source entries)
  pass_fresh hs es before eh ee b =
      ap (map (λ e. is_none (before (own e)))) ee
      ∙ fresh_is before (λ q. b q ∙ ap (λ l. cond (list_any (λ h. entry_eq (own h.entry) q) l) (Some false) None) eh)

not_zero : (n : ℕ) → (suc n == 0) ≡ false
not_zero n = grind (arith, nat_tests)

-- nothing is new just where all is held
pub none_new : (held : List HeldEntry) (entries : List Entry) → (length (filter (is_new held) entries) == 0)
    ≡ list_all (is_held held) entries
none_new held [] = refl
none_new held (e ∷ es) = by (is_held held e) (none_new held es)
  where
    by : (b : Bool) → (length (filter (is_new held) es) == 0) ≡ list_all (is_held held) es
        → (length (cond (not b) (e ∷ filter (is_new held) es) (filter (is_new held) es)) == 0)
        ≡ (b && list_all (is_held held) es)
    by true h = h
    by false h = not_zero (length (filter (is_new held) es))

-- ---- all that is compared

abbrev pub all_of : List Bool → Bool
all_of = list_all (λ b. b)

-- as many are marked as are new
new_counted : (source : Source) (held : List HeldEntry) (entries : List Entry) (fresh : List Bool) (count : ℕ)
    → fresh ≡ map (is_new held) (as_of source entries)
    → count ≡ length (filter (λ b. b) fresh) → count ≡ length (new_of source held entries)
new_counted source held entries fresh count f n = n ∙ ap (λ marks. length (filter (λ b. b) marks)) f
    ∙ marks_count (is_new held) (as_of source entries)

-- where the marks are those of a pass, they are the comparison with what is held of a peer
pub marks_compared : (name : List ℕ) (held : HoldingValue) (content : PeerContentValue) (again fresh : List Bool)
    (count : ℕ) (same : Bool)
    → again ≡ map (comes_again (as_peers name content.entries)) held.entries
    → fresh ≡ map (is_new held.entries) (as_peers name content.entries)
    → count ≡ length (filter (λ b. b) fresh)
    → same ≡ (all_of again && ((count == 0) && criteria_eq (defined content.criteria) held.table))
    → ◌≡◌ {A = ComparisonValue} (record { again = again; fresh = fresh; new_count = count; is_same = same })
    (compared name held content)
marks_compared name held content again fresh count same a f n s =
    λ i. record { again = a i; fresh = f i; new_count = counted i; is_same = is_same i }
  where
    counted : count ≡ length (new_of (Peer name) held.entries content.entries)
    counted = new_counted (Peer name) held.entries content.entries fresh count f n

    is_same : same ≡ same_content name held content
    is_same =
        s ∙ ap (λ marks. all_of marks && ((count == 0) && criteria_eq (defined content.criteria) held.table)) a
        ∙ ap (λ b. b && ((count == 0) && criteria_eq (defined content.criteria) held.table))
        (list_all-map (λ b. b) (comes_again (as_peers name content.entries)) held.entries)
        ∙ ap (λ k. list_all (comes_again (as_peers name content.entries)) held.entries &&
        ((k == 0) && criteria_eq (defined content.criteria) held.table)) counted
        ∙ ap (λ b. list_all (comes_again (as_peers name content.entries)) held.entries &&
        (b && criteria_eq (defined content.criteria) held.table))
        (none_new held.entries (as_peers name content.entries))

-- and so with one's own entries
pub marks_compared_own : (held : List HeldEntry) (entries : List Entry) (again fresh : List Bool) (count : ℕ)
    (same : Bool)
    → again ≡ map (remains is_dated (as_of Own entries)) held
    → fresh ≡ map (is_new held) (as_of Own entries)
    → count ≡ length (filter (λ b. b) fresh)
    → same ≡ (all_of again && (count == 0))
    → ◌≡◌ {A = ComparisonValue} (record { again = again; fresh = fresh; new_count = count; is_same = same })
    (compared_own held entries)
marks_compared_own held entries again fresh count same a f n s =
    λ i. record { again = a i; fresh = f i; new_count = counted i; is_same = is_same i }
  where
    counted : count ≡ length (new_of Own held entries)
    counted = new_counted Own held entries fresh count f n

    is_same : same ≡ same_entries is_dated Own held entries
    is_same =
        s ∙ ap (λ marks. all_of marks && (count == 0)) a
        ∙ ap (λ b. b && (count == 0)) (list_all-map (λ b. b) (remains is_dated (as_of Own entries)) held)
        ∙ ap (λ k. list_all (remains is_dated (as_of Own entries)) held && (k == 0)) counted
        ∙ ap (λ b. list_all (remains is_dated (as_of Own entries)) held && b) (none_new held (as_of Own entries))
