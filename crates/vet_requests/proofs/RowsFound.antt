-- What `matchit` finds of a path by some rows: one of them, whose pattern the path matches.
use Rattle.std.proofs.Common.{◌≡◌, ◌∙◌, ◌-◌, ◌<◌, ◌==◌, ◌&&◌, ◌++◌, ◌⊎◌, inl, inr, [], ◌∷◌, List, ℕ, zero, suc, length}
use Rattle.std.proofs.Common.{Bool, true, false, cond, ap, arith, refl, sym, subst, Option, Some, None, take, drop}
use Rattle.std.proofs.Common.{ltb, nat_eq}
use Rattle.std.proofs.Common.{take-append-drop, take_all}
use Rattle.std.proofs.lemmas.Bool.Decides.{nat_tests}
use Rattle.std.specs.List.{ends_with}
use Rattle.matchit.specs.Rows.{RowsOf, catch_all_token, param_token}
use Rattle.matchit.specs.Seek.{better, cuts, has_slash, longest_from, longest_suffix, or_else, own, param_step}
use Rattle.matchit.specs.Seek.{same_text}
use Rattle.matchit.specs.Seek.{seek, segment, slash, step, with_suffix}

-- the path begins with a parameter, and this is said of what stands behind it
pub record ByParameter (path : List ℕ) (More : List ℕ → Type 0) : Type 0 where
  pub first : ℕ
  pub others : List ℕ
  pub rest : List ℕ
  pub whole : path ≡ first ∷ (others ++ rest)
  pub plain : has_slash (first ∷ others) ≡ false
  pub more : More rest

-- it begins with a byte
pub record ByByte (b : ℕ) (path : List ℕ) (More : List ℕ → Type 0) : Type 0 where
  pub rest : List ℕ
  pub whole : path ≡ b ∷ rest
  pub more : More rest

-- a path matches a pattern
abbrev pub Matches : List ℕ → List ℕ → Type 0
Matches [] path = path ≡ []
Matches (x ∷ pattern) path =
    ByByte x path (Matches pattern)
    ⊎ (((x ≡ param_token) × ByParameter path (Matches pattern)) ⊎ (x ≡ catch_all_token))

-- no slash stands in front of a segment's end
segment_plain : (path : List ℕ) (n : ℕ) → n < length (segment path) → has_slash (take n path) ≡ false
segment_plain [] n h = absurd (omega (arith, h))
segment_plain (b ∷ path) zero h = refl
segment_plain (b ∷ path) (suc n) h =
    elim (b == slash)
    as (λ v. suc n < length (cond v (b ∷ []) (b ∷ segment path)) → cond v true (has_slash (take n path)) ≡ false) [
      | true ↦ λ low. absurd (omega (arith, low))
      | false ↦ λ low. segment_plain path n (omega (arith, low))
    ]
    h

and_left : (a b : Bool) → (a && b) ≡ true → a ≡ true
and_left true b h = refl
and_left false b h = h

below : (a b : ℕ) → ltb a b ≡ true → a < b
below a b h = grind (arith, nat_tests, h)

-- the longest suffix is none, or one with bytes in front of it
abbrev Cuts : List ℕ → List ℕ → Type 0
Cuts seg s = (s ≡ []) ⊎ (cuts seg s ≡ true)

better_cuts : (seg best s : List ℕ) → Cuts seg best → Cuts seg (better seg best s)
better_cuts seg best s h =
    elim (ltb (length best) (length s))
    as (λ v. Cuts seg (cond (v && cuts seg s) s best)) [
      | true ↦ elim (cuts seg s) as (λ w. cuts seg s ≡ w → Cuts seg (cond w s best))
          [ true ↦ λ it. inr it | false ↦ λ _. h ] refl
      | false ↦ h
    ]

abbrev no_bytes : List ℕ
no_bytes = []

drop_none : (n : ℕ) → drop n no_bytes ≡ no_bytes
drop_none zero = refl
drop_none (suc n) = refl

module _ {K : Type 0} where
  -- a row stands among rows
  abbrev pub IsRow : List ℕ → K → RowsOf K → Type 0
  IsRow t k [] = ⊥
  IsRow t k (row ∷ rest) = ((row.0 ≡ t) × (row.1 ≡ k)) ⊎ IsRow t k rest

  -- it was found of a path
  pub record IsFound (rs : RowsOf K) (path : List ℕ) (k : K) : Type 0 where
    pub pattern : List ℕ
    pub row : IsRow pattern k rs
    pub matched : Matches pattern path

  or_some : (o p : Option K) (k : K) → or_else o p ≡ Some k → (o ≡ Some k) ⊎ (p ≡ Some k)
  or_some None p k h = inr h
  or_some (Some key) p k h = inl h

  own_row : (rs : RowsOf K) (k : K) → own rs ≡ Some k → IsRow [] k rs
  own_row [] k h = absurd cc
  own_row (([], key) ∷ rest) k h = inl (refl, cc)
  own_row ((x ∷ t, key) ∷ rest) k h = inr (own_row rest k h)

  step_row : (b : ℕ) (rs : RowsOf K) (t : List ℕ) (k : K) → IsRow t k (step b rs) → IsRow (b ∷ t) k rs
  step_row b [] t k h = h
  step_row b (([], key) ∷ rest) t k h = inr (step_row b rest t k h)
  step_row b ((x ∷ u, key) ∷ rest) t k h =
      elim (x == b)
      as (λ v. (x == b) ≡ v → IsRow t k (cond v ((u, key) ∷ step b rest) (step b rest))
      → IsRow (b ∷ t) k ((x ∷ u, key) ∷ rest)) [
        | true ↦ λ same h. (elim h [
          | inl here ↦ inl (
            (let is : x ≡ b = grind (arith, nat_tests, same) in
                ap (λ y. y ∷ u) is ∙ ap (λ s. b ∷ s) here.0),
            here.1,
          )
          | inr more ↦ inr (step_row b rest t k more)
        ])
        | false ↦ λ other h. inr (step_row b rest t k h)
      ]
      refl h

  suffix_row : (s : List ℕ) (rs : RowsOf K) (t : List ℕ) (k : K) → IsRow t k (with_suffix s rs) → IsRow t k rs
  suffix_row s [] t k h = h
  suffix_row s ((u, key) ∷ rest) t k h =
      elim (same_text (segment u) s)
      as (λ v. IsRow t k (cond v ((u, key) ∷ with_suffix s rest) (with_suffix s rest)) → IsRow t k ((u, key) ∷ rest)) [
        | true ↦ λ h. (elim h [ inl here ↦ inl here | inr more ↦ inr (suffix_row s rest t k more) ])
        | false ↦ λ h. inr (suffix_row s rest t k h)
      ]
      h

  longest_cuts : (seg best : List ℕ) (rs : RowsOf K) → Cuts seg best → Cuts seg (longest_from seg best rs)
  longest_cuts seg best [] h = h
  longest_cuts seg best ((t, key) ∷ rest) h =
      longest_cuts seg (better seg best (segment t)) rest (better_cuts seg best (segment t) h)

  -- where a parameter goes on: it took bytes without a slash, and the rows are among those before
  pub record GoesOn (rs : RowsOf K) (b : ℕ) (path : List ℕ) (n : ℕ) (t : List ℕ) (k : K) : Type 0 where
    pub row : IsRow t k rs
    pub plain : has_slash (b ∷ take (n - 1) path) ≡ false

  suffix_taken : (rs : RowsOf K) (b : ℕ) (path : List ℕ) (s : List ℕ) (t : List ℕ) (k : K)
      → 0 < length s → Cuts (segment (b ∷ path)) s → IsRow t k (with_suffix s rs)
      → GoesOn rs b path (length (segment (b ∷ path)) - length s) t k
  suffix_taken rs b path s t k some h row =
      let seg = segment (b ∷ path) in
      let n = length seg - length s in
      record {
        row = suffix_row s rs t k row;
        plain = (elim h [
          | inl none ↦ absurd (omega (arith, subst (λ (u : List ℕ). 0 < length u) none some))
          | inr is ↦
              (let low : length s < length seg = below (length s) (length seg)
              (and_left (ltb (length s) (length seg)) (ends_with nat_eq seg s) is) in
              segment_plain (b ∷ path) (suc (n - 1)) (omega (arith, low, some)))
        ]);
      }

  all_taken : (rs : RowsOf K) (b : ℕ) (path : List ℕ) (t : List ℕ) (k : K)
      → IsRow t k (cond {A = ℕ × RowsOf K} (has_slash (b ∷ path)) (0, []) (length (b ∷ path), rs)).1
      → GoesOn rs b path (cond {A = ℕ × RowsOf K} (has_slash (b ∷ path)) (0, []) (length (b ∷ path), rs)).0 t k
  all_taken rs b path t k =
      elim (has_slash (b ∷ path))
      as (λ v. has_slash (b ∷ path) ≡ v
      → IsRow t k (cond {A = ℕ × RowsOf K} v (0, []) (length (b ∷ path), rs)).1
      → GoesOn rs b path (cond {A = ℕ × RowsOf K} v (0, []) (length (b ∷ path), rs)).0 t k) [
        | true ↦ λ _ none. absurd none
        | false ↦ λ plain row. record {
          row = row;
          plain = (let n : length (b ∷ path) - 1 ≡ length path = omega arith in
              ap (λ (i : ℕ). has_slash (b ∷ take i path)) n
              ∙ ap (λ (w : List ℕ). has_slash (b ∷ w)) (take_all (length path) path (omega arith)) ∙ plain);
        }
      ]
      refl

  param_goes_on : (rs : RowsOf K) (b : ℕ) (path : List ℕ) (t : List ℕ) (k : K)
      → IsRow t k (param_step rs (b ∷ path)).1 → GoesOn rs b path (param_step rs (b ∷ path)).0 t k
  unfolding param_step
  param_goes_on rs b path t k =
      let seg = segment (b ∷ path) in
      let s = longest_suffix seg rs in
      let other = cond {A = ℕ × RowsOf K} (has_slash (b ∷ path)) (0, []) (length (b ∷ path), rs) in
      elim (ltb 0 (length s))
      as (λ v. ltb 0 (length s) ≡ v
      → IsRow t k (cond {A = ℕ × RowsOf K} v (length seg - length s, with_suffix s rs) other).1
      → GoesOn rs b path (cond {A = ℕ × RowsOf K} v (length seg - length s, with_suffix s rs) other).0 t k) [
        | true ↦ λ some row. suffix_taken rs b path s t k (below 0 (length s) some)
            (longest_cuts seg [] rs (inl refl)) row
        | false ↦ λ _ row. all_taken rs b path t k row
      ]
      refl

  by_byte : (rs : RowsOf K) (b : ℕ) (path : List ℕ) (k : K) → IsFound (step b rs) path k → IsFound rs (b ∷ path) k
  by_byte rs b path k found = record {
    pattern = b ∷ found.pattern;
    row = step_row b rs found.pattern k found.row;
    matched = inl (record { rest = path; whole = refl; more = found.matched });
  }

  by_parameter : (rs : RowsOf K) (b : ℕ) (path : List ℕ) (k : K)
      → IsFound (param_step (step param_token rs) (b ∷ path)).1
      (drop ((param_step (step param_token rs) (b ∷ path)).0 - 1) path) k
      → IsFound rs (b ∷ path) k
  by_parameter rs b path k found =
      let under = step param_token rs in
      let n = (param_step under (b ∷ path)).0 in
      let on = param_goes_on under b path found.pattern k found.row in
      record {
        pattern = param_token ∷ found.pattern;
        row = step_row param_token rs found.pattern k on.row;
        matched = inr (inl (
          refl,
          record {
            first = b;
            others = take (n - 1) path;
            rest = drop (n - 1) path;
            whole = ap (λ w. b ∷ w) (sym (take-append-drop (n - 1) path));
            plain = on.plain;
            more = found.matched;
          },
        ));
      }

  by_rest : (rs : RowsOf K) (b : ℕ) (path : List ℕ) (k : K) → own (step catch_all_token rs) ≡ Some k
      → IsFound rs (b ∷ path) k
  by_rest rs b path k h = record {
    pattern = catch_all_token ∷ [];
    row = step_row catch_all_token rs [] k (own_row (step catch_all_token rs) k h);
    matched = inr (inr refl);
  }

  pub seek_found : (path : List ℕ) (skip : ℕ) (rs : RowsOf K) (k : K) → seek skip rs path ≡ Some k
      → IsFound rs (drop skip path) k
  unfolding seek
  seek_found [] skip rs k h = record { pattern = []; row = own_row rs k h; matched = drop_none skip }
  seek_found (b ∷ path) (suc skip) rs k h = seek_found path skip rs k h
  seek_found (b ∷ path) zero rs k h =
      let under = step param_token rs in
      let n = (param_step under (b ∷ path)).0 - 1 in
      let later = or_else (seek n (param_step under (b ∷ path)).1 path) (own (step catch_all_token rs)) in
      (elim (or_some (seek 0 (step b rs) path) later k h) [
        | inl here ↦ by_byte rs b path k (seek_found path 0 (step b rs) k here)
        | inr there ↦ (elim (or_some (seek n (param_step under (b ∷ path)).1 path) (own (step catch_all_token rs)) k
            there) [
              | inl here ↦ by_parameter rs b path k (seek_found path n (param_step under (b ∷ path)).1 k here)
              | inr here ↦ by_rest rs b path k here
            ])
      ])
