-- Passes over held entries and over those of a content.
use Rattle.std.proofs.Common.{◌≡◌, ℕ, ◌+◌, ◌<◌, Bool, true, false, cond, not, ◌||◌, List, [], ◌∷◌, ◌++◌, length, map}
use Rattle.std.proofs.Common.{take, drop, get_or, zero, suc, ◌≤◌, Option, Some, None, is_none, is_some, option_map}
use Rattle.std.proofs.Common.{refl, sym, ap, ◌∙◌, arith}
use Rattle.std.specs.List.{filter, list_any}
use Rattle.std.proofs.lemmas.List.{map-append, length-append, take_more, take-append-drop}
use Rattle.std.proofs.lemmas.List.Elements.{filter-append}
use Rattle.std.proofs.lemmas.List.Folds.{list_any-append}

module _ {X : Type 0} where
  -- one more item of a list
  pub one_more : (xs : List X) (i : ℕ) (x : X) → i < length xs → x ≡ get_or xs i x
      → take (i + 1) xs ≡ take i xs ++ x ∷ []
  one_more xs i x l e = take_more xs i x l ∙ ap (λ y. take i xs ++ y ∷ []) (sym e)

  pub any_more : (p : X → Bool) (xs : List X) (i : ℕ) (x : X) → i < length xs → x ≡ get_or xs i x
      → list_any p (take (i + 1) xs) ≡ (list_any p (take i xs) || (p x || false))
  any_more p xs i x l e = ap (list_any p) (one_more xs i x l e) ∙ list_any-append p (take i xs) (x ∷ [])

  pub map_more : {Y : Type 0} (f : X → Y) (xs : List X) (i : ℕ) (x : X) → i < length xs → x ≡ get_or xs i x
      → map f (take (i + 1) xs) ≡ map f (take i xs) ++ f x ∷ []
  map_more f xs i x l e = ap (map f) (one_more xs i x l e) ∙ map-append f (take i xs) (x ∷ [])

  -- one more item that is marked or not
  pub filter_one : (p : X → Bool) (xs : List X) (x : X) (b : Bool) → p x ≡ b
      → filter p (xs ++ x ∷ []) ≡ filter p xs ++ cond b (x ∷ []) []
  filter_one p xs x b e = filter-append p xs (x ∷ []) ∙ ap (λ c. filter p xs ++ cond c (x ∷ []) []) e

  -- the mark at a place is that of the item there
  pub mark_at : (p : X → Bool) (xs : List X) (i : ℕ) (x : X) (b : Bool) → i < length xs → x ≡ get_or xs i x
      → get_or (map p xs) i false ≡ b → p x ≡ b
  mark_at p [] i x b l e m = absurd (omega (arith, l))
  mark_at p (y ∷ ys) zero x b l e m = ap p e ∙ m
  mark_at p (y ∷ ys) (suc i) x b l e m = mark_at p ys i x b (omega (arith, l)) e m

  pub mark_of : {Y : Type 0} (p : Y → Bool) (f : X → Y) (xs : List X) (i : ℕ) (x : X) (b : Bool) → i < length xs
      → x ≡ get_or xs i x → get_or (map p (map f xs)) i false ≡ b → p (f x) ≡ b
  mark_of p f [] i x b l e m = absurd (omega (arith, l))
  mark_of p f (y ∷ ys) zero x b l e m = ap (λ z. p (f z)) e ∙ m
  mark_of p f (y ∷ ys) (suc i) x b l e m = mark_of p f ys i x b (omega (arith, l)) e m

  -- there is an item at a place
  pub item_at : (xs : List X) (i : ℕ) → i < length xs → (x : X) × (x ≡ get_or xs i x)
  item_at [] i l = absurd (omega (arith, l))
  item_at (y ∷ ys) zero l = (y, refl)
  item_at (y ∷ ys) (suc i) l = item_at ys i (omega (arith, l))

  -- as many items pass as are marked
  pub marks_count : (p : X → Bool) (xs : List X) → length (filter (λ b. b) (map p xs)) ≡ length (filter p xs)
  marks_count p [] = refl
  marks_count p (x ∷ xs) = by (p x) (marks_count p xs)
    where
      by : (b : Bool) → length (filter (λ c. c) (map p xs)) ≡ length (filter p xs)
          → length (cond b (b ∷ filter (λ c. c) (map p xs)) (filter (λ c. c) (map p xs)))
          ≡ length (cond b (x ∷ filter p xs) (filter p xs))
      by true h = omega (arith, h)
      by false h = h

-- how many are marked of those before a place, and of all
abbrev pub count : List Bool → ℕ
count marks = length (filter (λ b. b) marks)

pub count_more : (marks : List Bool) (i : ℕ) (b : Bool) → i < length marks → get_or marks i false ≡ b
    → count (take (i + 1) marks) ≡ count (take i marks) + cond b 1 0
count_more marks i b l e =
    ap count (take_more marks i false l ∙ ap (λ c. take i marks ++ c ∷ []) e)
    ∙ ap length (filter-append (λ c. c) (take i marks) (b ∷ []))
    ∙ length-append (filter (λ c. c) (take i marks)) (filter (λ c. c) (b ∷ []))
    ∙ ap (λ n. count (take i marks) + n) (one b)
  where
    one : (c : Bool) → length (filter (λ d. d) (c ∷ [])) ≡ cond c 1 0
    one true = refl
    one false = refl

pub count_within : (marks : List Bool) (i : ℕ) → count (take i marks) ≤ count marks
count_within marks i =
    let parts : count marks ≡ count (take i marks) + count (drop i marks) = ap count (sym (take-append-drop i marks))
    ∙ ap length (filter-append (λ c. c) (take i marks) (drop i marks))
    ∙ length-append (filter (λ c. c) (take i marks)) (filter (λ c. c) (drop i marks)) in
    omega (arith, parts)

-- what is put in a map under one more key
pub put_more : {X : Type 0} (same before : Bool) (x : X) → cond same (Some x) (cond before (Some x) None)
    ≡ cond (before || (same || false)) (Some x) None
put_more true true x = refl
put_more true false x = refl
put_more false true x = refl
put_more false false x = refl

-- what was found is not missing
pub not_found : {X : Type 0} (o : Option X) → not (is_some o) ≡ is_none o
not_found None = refl
not_found (Some x) = refl

pub found_alike : {X Y : Type 0} (f : X → Y) (o : Option X) → is_some (option_map f o) ≡ is_some o
found_alike f None = refl
found_alike f (Some x) = refl

-- a mark that is set by one more entry
pub mark_more : (some same : Bool) (o : Option Bool)
    → option_map (λ before. before || same) (option_map (λ before. before || some) o)
    ≡ option_map (λ before. before || (some || (same || false))) o
mark_more some same None = refl
mark_more some same (Some true) = refl
mark_more true same (Some false) = refl
mark_more false true (Some false) = refl
mark_more false false (Some false) = refl

-- a mark that is put where the entry is there, or stays
pub mark_put : (same : Bool) (o : Option Bool) → (same ≡ true → is_some o ≡ true)
    → cond same (Some true) o ≡ option_map (λ before. before || same) o
mark_put true (Some true) h = refl
mark_put true (Some false) h = refl
mark_put true None h = cc (h refl)
mark_put false (Some true) h = refl
mark_put false (Some false) h = refl
mark_put false None h = refl

-- no mark is put where the entry is missing
pub mark_none : (same : Bool) (o : Option Bool) → (same ≡ true → o ≡ None) → o ≡ option_map (λ before. before || same) o
mark_none same None h = refl
mark_none true (Some b) h = cc (h refl)
mark_none false (Some true) h = refl
mark_none false (Some false) h = refl
