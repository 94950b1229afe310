-- Names of packages among some, and what is of none of them.
use Rattle.std.proofs.Common.{◌≡◌, ◌||◌, ◌++◌, ◌+◌, ℕ, Bool, true, false, cond, if◌then◌else◌, List, [], ◌∷◌, filter}
use Rattle.std.proofs.Common.{flat_map, map, take}
use Rattle.std.proofs.Common.{refl, sym, ap, ◌∙◌, None, Some, Option, is_some}
use Rattle.std.specs.BTreeMap.{is_at}
use Rattle.std.specs.Cmp.{tied_itself}
use Rattle.std.specs.Cmp.Lexicographic.{nat_list_cmp_total, slice_cmp}
use Rattle.std.specs.FinSet as set
use Rattle.std.specs.Map.{keys_of, lookup}
use Rattle.std.specs.Ordering.{eq_by_cmp, is_eq, nat_cmp}
use Rattle.std.specs.Str.{bytes_eq}
use Rattle.std.proofs.lemmas.Bool.{false≢true}
use Rattle.std.proofs.lemmas.Grind.{flat_map-append}
use Rattle.std.proofs.lemmas.List.{append_assoc}
use Rattle.std.proofs.lemmas.List.Folds.{list_any-append}
use Rattle.std.proofs.lemmas.Slice.Eq.{bytes_eq-Decides}
use Rattle.vet_base.specs.Names.{NameSet}
use Rattle.vet_base.specs.Words.{Name}
use Rattle.vet_entries.specs.declared.facts.HeldEntry.{HeldEntry}
use Rattle.vet_entries.specs.declared.held_peer.HeldPeer.{HeldPeer}
use Rattle.vet_entries.specs.Step.{sourced, taken_from}
use Rattle.vet_masks.specs.declared.kept.KeptPackage.{KeptPackage}
use Rattle.vet_masks.specs.Packages.{in_slot, is_among}
use Rattle.vet_masks.proofs.Keeping.{tied-name}

pub none-in : (name : Name) (xs ys : List Name) → is_among name (xs ++ ys) ≡ false
    → (is_among name xs ≡ false) × (is_among name ys ≡ false)
none-in name xs ys e = by (is_among name xs) (is_among name ys)
    (sym (list_any-append (eq_by_cmp (slice_cmp nat_cmp) name) xs ys) ∙ e)
  where
    by : (a b : Bool) → (a || b) ≡ false → (a ≡ false) × (b ≡ false)
    by true b f = absurd (false≢true (sym f))
    by false b f = (refl, f)

-- a name behind others is among them
pub behind-among : (name : Name) (xs : List Name) → is_among name (xs ++ name ∷ []) ≡ true
behind-among name xs = list_any-append (eq_by_cmp (slice_cmp nat_cmp) name) xs (name ∷ [])
    ∙ by (is_among name xs) (eq_by_cmp (slice_cmp nat_cmp) name name) (ap is_eq (tied_itself nat_list_cmp_total name))
  where
    by : (a b : Bool) → b ≡ true → (a || (b || false)) ≡ true
    by true b e = refl
    by false b e = ap (λ (x : Bool). x || false) e

-- a name is not among one more than those it isn't among, if it is no name of a list in which that one is
pub none-more : (name one : Name) (names all : List Name) → is_among name names ≡ false → is_among name all ≡ false
    → (name ≡ one → is_among one all ≡ true) → is_among name (names ++ one ∷ []) ≡ false
none-more name one names all none other there =
    list_any-append (eq_by_cmp (slice_cmp nat_cmp) name) names (one ∷ [])
    ∙ by (is_among name names) none (eq_by_cmp (slice_cmp nat_cmp) name one) refl
  where
    by : (a : Bool) → a ≡ false → (b : Bool) → eq_by_cmp (slice_cmp nat_cmp) name one ≡ b → (a || (b || false)) ≡ false
    by true e b is = absurd (false≢true (sym e))
    by false e false is = refl
    by false e true is = (let same = tied-name name one is in
        absurd (false≢true (sym other ∙ ap (λ n. is_among n all) same ∙ there same)))

-- what comes behind more than one list comes behind the first
pub further : (first more rest all new : List Name) → all ≡ first ++ more → new ≡ all ++ rest
    → new ≡ first ++ (more ++ rest)
further first more rest all new e f = f ∙ ap (λ l. l ++ rest) e ∙ append_assoc first more rest

-- a name that isn't in a set is among none of its names
pub not-in : (s : NameSet) (names : List Name) (name : Name) → s ≡ set.from_list names → set.contains s name ≡ false
    → is_among name names ≡ false
not-in s names name is none = sym (ap (λ (t : NameSet). set.contains t name) is
    ∙ set.contains-from_list nat_list_cmp_total names name) ∙ none

-- a name that isn't in the set of lists put together is in none of the first two, nor of the first three
pub in-none : (s : NameSet) (slots kept pairs more n1 n2 n3 n4 : List Name) (name : Name) → s ≡ set.from_list n4
    → n1 ≡ slots → n2 ≡ n1 ++ kept → n3 ≡ n2 ++ pairs → n4 ≡ n3 ++ more → set.contains s name ≡ false
    → (is_among name slots ≡ false) × ((is_among name kept ≡ false) × (is_among name n3 ≡ false))
in-none s slots kept pairs more n1 n2 n3 n4 name is e1 e2 e3 e4 none =
    let in_all = not-in s n4 name is none in
    let in_three = (none-in name n3 more (ap (is_among name) (sym e4) ∙ in_all)).0 in
    let in_two = (none-in name n2 pairs (ap (is_among name) (sym e3) ∙ in_three)).0 in
    let one = none-in name n1 kept (ap (is_among name) (sym e2) ∙ in_two) in
    (ap (is_among name) (sym e1) ∙ one.0, (one.1, in_three))

pub kept-named : (entries : List (Name × Option KeptPackage)) (name : Name)
    → is_some (lookup (is_at (slice_cmp nat_cmp name)) entries) ≡ is_among name (keys_of entries)
kept-named [] name = refl
kept-named (e ∷ rest) name = by (is_at (slice_cmp nat_cmp name) e.0) (kept-named rest name)
  where
    by : (b : Bool) → is_some (lookup (is_at (slice_cmp nat_cmp name)) rest) ≡ is_among name (keys_of rest)
        → is_some (cond b (Some e.1) (lookup (is_at (slice_cmp nat_cmp name)) rest))
        ≡ (b || is_among name (keys_of rest))
    by true h = refl
    by false h = h

-- what has no slot isn't kept
pub none-kept : (o : Option (Option KeptPackage)) → is_some o ≡ false → in_slot o ≡ None
none-kept None e = refl
none-kept (Some x) e = absurd (false≢true (sym e))

-- what no item of some is of, none of them is of
pub none-named : {X : Type 0} (f : X → Name) (name : Name) (xs : List X) → is_among name (map f xs) ≡ false
    → filter (λ x. bytes_eq (f x) name) xs ≡ []
none-named f name [] e = refl
none-named {X} f name (x ∷ rest) e = by (bytes_eq (f x) name) refl (eq_by_cmp (slice_cmp nat_cmp) name (f x)) refl e
    (none-named f name rest)
  where
    second : (a : Bool) → (a || is_among name (map f rest)) ≡ false → is_among name (map f rest) ≡ false
    second true e = absurd (false≢true (sym e))
    second false e = e

    first : (a : Bool) → (a || is_among name (map f rest)) ≡ false → a ≡ false
    first true e = absurd (false≢true (sym e))
    first false e = refl

    by : (b : Bool) → bytes_eq (f x) name ≡ b → (a : Bool) → eq_by_cmp (slice_cmp nat_cmp) name (f x) ≡ a
        → (a || is_among name (map f rest)) ≡ false
        → (is_among name (map f rest) ≡ false → filter (λ (y : X). bytes_eq (f y) name) rest ≡ [])
        → cond b (x ∷ filter (λ (y : X). bytes_eq (f y) name) rest) (filter (λ (y : X). bytes_eq (f y) name) rest) ≡ []
    by false is a at e later = later (second a e)
    by true is a at e later = absurd (false≢true (sym (first a e) ∙ sym at
        ∙ ap (eq_by_cmp (slice_cmp nat_cmp) name) ((bytes_eq-Decides (f x) name).0 is)
        ∙ ap is_eq (tied_itself nat_list_cmp_total name)))

-- what isn't among the names of a set isn't in it
pub not-among : (s : NameSet) (names : List Name) (name : Name) → s ≡ set.from_list names → is_among name names ≡ false
    → set.contains s name ≡ false
not-among s names name is none = ap (λ (t : NameSet). set.contains t name) is
    ∙ set.contains-from_list nat_list_cmp_total names name ∙ none

-- ---- the entries of all sources

pub own-none : (name : Name) (entries : List HeldEntry)
    → is_among name (map (λ (h : HeldEntry). h.entry.«package») entries) ≡ false → sourced None name entries ≡ []
own-none name entries e = ap (map (λ (h : HeldEntry). record { peer = None; held = h }))
    (none-named (λ (h : HeldEntry). h.entry.«package») name entries e)

pub taken-none : (name : Name) (peer : HeldPeer)
    → is_among name (map (λ (h : HeldEntry). h.entry.«package») peer.content.entries) ≡ false
    → taken_from name peer ≡ []
taken-none name peer e = by (set.contains peer.settings.exclude name)
    (ap (map (λ (h : HeldEntry). record { peer = Some peer; held = h }))
    (none-named (λ (h : HeldEntry). h.entry.«package») name peer.content.entries e))
  where
    by : (b : Bool) → sourced (Some peer) name peer.content.entries ≡ []
        → (if b then [] else sourced (Some peer) name peer.content.entries) ≡ []
    by true h = refl
    by false h = h

-- one peer more gives none
pub taken-more : (name : Name) (peers : List HeldPeer) (i : ℕ) (peer : HeldPeer)
    → take (i + 1) peers ≡ take i peers ++ peer ∷ [] → flat_map (taken_from name) (take i peers) ≡ []
    → taken_from name peer ≡ [] → flat_map (taken_from name) (take (i + 1) peers) ≡ []
taken-more name peers i peer more so_far own = ap (flat_map (taken_from name)) more
    ∙ flat_map-append (taken_from name) (take i peers) (peer ∷ [])
    ∙ (λ j. so_far j ++ (own j ++ []))
