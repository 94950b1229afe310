-- The order of packages after the last entry was taken out.
use Rattle.std.proofs.Common.{◌≡◌, ℕ, suc, ◌+◌, ◌-◌, ◌<◌, ◌≤◌, Bool, true, false, not, cond, List, [], ◌∷◌, ◌++◌, map}
use Rattle.std.proofs.Common.{length, get_or, take, drop, refl, sym, ap, subst, ◌∙◌, arith, eq-eqb}
use Rattle.std.specs.List.{All, between, filter, remove, range_with_len}
use Rattle.std.specs.Ordering.{is_eq}
use Rattle.std.proofs.lemmas.Cmp.{nat_list_cmp_total, tied_itself}
use Rattle.std.proofs.lemmas.List.{append_assoc, length-append, length-take-le}
use Rattle.std.proofs.lemmas.List.Edits.{split_between, length-between}
use Rattle.std.proofs.lemmas.List.Elements.{All-filter, All-head, All-tail, filter-append}
use Rattle.std.proofs.lemmas.List.Filters.{length-filter_both}
use Rattle.vet_entries.specs.declared.facts.HeldEntry.{HeldEntry}
use Rattle.vet_entries.specs.ByPackage.{IsByPackage, IsRange, is_at, down}
use Rattle.vet_entries.proofs.ByPackage.{range_is_places}
use Rattle.vet_entries.proofs.Places.{down_below, range_around}
use Rattle.vet_entries.proofs.Removed.{one_less, removed, stays}
use Rattle.vet_entries.proofs.Standing.{stand_at}

-- no place moves that is in front of the entry taken out
down_all_below : (at : ℕ) (places : List ℕ) → All (λ place. place ≤ at) places → map (down at) places ≡ places
down_all_below at [] h = refl
down_all_below at (place ∷ places) h =
    let first = down_below at place (All-head (λ p. p ≤ at) place places h) in
    let rest = down_all_below at places (All-tail (λ p. p ≤ at) place places h) in
    λ i. first i ∷ rest i

kept_few : (p : ℕ → Bool) (xs : List ℕ) → length (filter p xs) ≤ length xs
kept_few p xs = omega (arith, length-filter_both p (λ x. not (p x)) (λ _. refl) xs)

-- a filter that leaves as many leaves all
kept_all : (p : ℕ → Bool) (xs : List ℕ) → length xs ≤ length (filter p xs) → filter p xs ≡ xs
kept_all p [] h = refl
kept_all p (x ∷ xs) h = either (p x) (kept_all p xs) h
  where
    either : (b : Bool) → (length xs ≤ length (filter p xs) → filter p xs ≡ xs)
        → suc (length xs) ≤ length (cond b (x ∷ filter p xs) (filter p xs))
        → cond b (x ∷ filter p xs) (filter p xs) ≡ x ∷ xs
    either true rest m = ap (λ zs. x ∷ zs) (rest (omega (arith, m)))
    either false rest m = absurd (omega (arith, m, kept_few p xs))

without_middle : (xs : List ℕ) (at : ℕ) (ys : List ℕ) → remove (xs ++ at ∷ ys) (length xs) ≡ xs ++ ys
without_middle [] at ys = refl
without_middle (x ∷ xs) at ys = ap (λ zs. x ∷ zs) (without_middle xs at ys)

-- the others stay where one place goes
others_stay : (at : ℕ) (xs ys : List ℕ)
    → length (filter (stays at) (xs ++ at ∷ ys)) + 1 ≡ length (xs ++ at ∷ ys)
    → filter (stays at) (xs ++ at ∷ ys) ≡ xs ++ ys
others_stay at xs ys less =
    let kept : filter (stays at) (xs ++ at ∷ ys) ≡ filter (stays at) xs ++ filter (stays at) ys =
    filter-append (stays at) xs (at ∷ ys)
    ∙ ap (λ b. filter (stays at) xs ++ cond b (at ∷ filter (stays at) ys) (filter (stays at) ys))
    (ap not (eq-eqb at at refl)) in
    let long = length-append (filter (stays at) xs) (filter (stays at) ys) in
    let whole : length (xs ++ at ∷ ys) ≡ length xs + suc (length ys) = length-append xs (at ∷ ys) in
    let first = kept_few (stays at) xs in
    let second = kept_few (stays at) ys in
    let n = ap length kept in
    let front = kept_all (stays at) xs (omega (arith, less, n, long, whole, first, second)) in
    let back = kept_all (stays at) ys (omega (arith, less, n, long, whole, first, second)) in
    kept ∙ (λ i. front i ++ back i)

-- the last place stands behind the others of its package
range_of_last : (entries : List HeldEntry) (name order : List ℕ) (last low high : ℕ) → last + 1 ≡ length entries
    → is_at entries name last ≡ true → IsByPackage entries order → IsRange entries name order low high
    → between low high order ≡ filter (is_at entries name) (range_with_len 0 last) ++ last ∷ []
range_of_last entries name order last low high is own b r =
    let p = is_at entries name in
    range_is_places entries name order low high b r
    ∙ ap (filter p) (range_around last 0 (length entries) (omega (arith, is)))
    ∙ filter-append p (range_with_len 0 last) (last ∷ [])
    ∙ ap (λ b. filter p (range_with_len 0 last) ++ cond b (last ∷ []) []) own

-- what stands in front of the last place
abbrev front_of_last : (entries : List HeldEntry) (name order : List ℕ) (last low : ℕ) → List ℕ
front_of_last entries name order last low = take low order ++ filter (is_at entries name) (range_with_len 0 last)

around_last : (entries : List HeldEntry) (name order : List ℕ) (last low high : ℕ) → last + 1 ≡ length entries
    → is_at entries name last ≡ true → IsByPackage entries order → IsRange entries name order low high
    → (length (front_of_last entries name order last low) + 1 ≡ high)
    × (order ≡ front_of_last entries name order last low ++ last ∷ drop high order)
around_last entries name order last low high is own b r =
    let ps = filter (is_at entries name) (range_with_len 0 last) in
    let here = range_of_last entries name order last low high is own b r in
    let long : length (between low high order) ≡ length ps + 1 = ap length here ∙ length-append ps (last ∷ []) in (
      omega (
        arith,
        long,
        length-between order low high r.inside,
        length-append (take low order) ps,
        length-take-le low order (omega (arith, r.ordered, r.inside)),
      ),
      split_between order low high r.ordered
          ∙ ap (λ zs. take low order ++ (zs ++ drop high order)) here
          ∙ ap (λ zs. take low order ++ zs) (append_assoc ps (last ∷ []) (drop high order))
          ∙ sym (append_assoc (take low order) ps (last ∷ drop high order)),
    )

-- the order after the last entry was taken out
pub removed_last : (entries : List HeldEntry) (held : HeldEntry) (order : List ℕ) (last low high : ℕ)
    → last + 1 ≡ length entries → held ≡ get_or entries last held → IsByPackage entries order
    → IsRange entries held.entry.«package» order low high
    → (1 ≤ high) × IsByPackage (remove entries last) (remove order (high - 1))
removed_last entries held order last low high is at b r =
    let name = held.entry.«package» in
    let own : is_at entries name last ≡ true = ap is_eq
    (sym (stand_at entries name last held (omega (arith, is)) at) ∙ tied_itself nat_list_cmp_total name) in
    let front = front_of_last entries name order last low in
    let back = drop high order in
    let around = around_last entries name order last low high is own b r in
    let within : last < length entries = omega (arith, is) in
    let less = subst (λ zs. length (filter (stays last) zs) + 1 ≡ length zs) around.1
    (one_less entries order last within b) in
    let left : filter (stays last) order ≡ front ++ back =
    ap (filter (stays last)) around.1 ∙ others_stay last front back less in
    let below = All-filter (stays last) (λ place. place ≤ last) order
    (λ k d l. (let m = b.within k d l in omega (arith, m, is))) in
    let gone : remove order (high - 1) ≡ front ++ back =
    ap (λ zs. remove zs (high - 1)) around.1
    ∙ ap (remove (front ++ last ∷ back)) (let e : high - 1 ≡ length front = omega (arith, around.0) in e)
    ∙ without_middle front last back in (
      omega (arith, around.0),
      subst (IsByPackage (remove entries last))
          (down_all_below last (filter (stays last) order) below ∙ left ∙ sym gone)
          (removed entries order last within b),
    )
