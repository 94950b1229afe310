-- Walks over the table of routes.
use Rattle.std.proofs.Common.{◌≡◌, ◌∙◌, ◌-◌, ◌<◌, ◌==◌, ◌&&◌, ◌++◌, [], ◌∷◌, List, ℕ, zero, suc, length}
use Rattle.std.proofs.Common.{Bool, true, false, cond, ap, arith, refl, Option, Some, None, drop, ltb, nat_eq}
use Rattle.std.proofs.Math.Seq.{drop-append_seam}
use Rattle.std.proofs.lemmas.Bool.Decides.{nat_tests}
use Rattle.std.proofs.lemmas.List.{length-append}
use Rattle.std.specs.Cmp.Lexicographic.{pointwise}
use Rattle.std.specs.List.{ends_with}
use Rattle.matchit.specs.Rows.{RowsOf, catch_all_token, param_token}
use Rattle.matchit.specs.Seek.{cuts, has_slash, longest_suffix, or_else, own, param_step, seek, segment, step}
use Rattle.matchit.specs.Seek.{with_suffix}

abbrev nil : {K : Type 0} → RowsOf K
nil {K} = []

and_left : (a b : Bool) → (a && b) ≡ true → a ≡ true
and_left true b h = refl
and_left false b h = h

and_right : (a b : Bool) → (a && b) ≡ true → b ≡ true
and_right true b h = h
and_right false b h = cc

module _ {K : Type 0} where
  abbrev is_none : RowsOf K → Bool
  is_none [] = true
  is_none (r ∷ rs) = false

  is_none_is : (rs : RowsOf K) → is_none rs ≡ true → rs ≡ []
  is_none_is [] h = refl
  is_none_is (r ∷ rs) h = cc

  -- no row goes on with a parameter on the way
  abbrev tame : List ℕ → RowsOf K → Bool
  tame [] rs = true
  tame (b ∷ w) rs = is_none (step param_token rs) && (is_none (step catch_all_token rs) && tame w (step b rs))

  -- the rows that go on behind these bytes
  abbrev steps : List ℕ → RowsOf K → RowsOf K
  steps [] rs = rs
  steps (b ∷ w) rs = steps w (step b rs)

  or_none : (o : Option K) → or_else o None ≡ o
  or_none None = refl
  or_none (Some k) = refl

  no_rows : (path : List ℕ) → (param_step (nil {K = K}) path).1 ≡ []
  unfolding param_step
  no_rows path =
      elim (has_slash path)
      as (λ v. (cond {A = ℕ × RowsOf K} v (0, nil {K = K}) (length path, nil {K = K})).1 ≡ [])
      [ true ↦ refl | false ↦ refl ]

  seek_none : (path : List ℕ) (skip : ℕ) → seek skip (nil {K = K}) path ≡ None
  unfolding seek
  seek_none [] skip = refl
  seek_none (b ∷ path) (suc skip) = seek_none path skip
  seek_none (b ∷ path) zero =
      let n = (param_step (nil {K = K}) (b ∷ path)).0 - 1 in
      ap (λ (o : Option K). or_else o (or_else (seek n (param_step (nil {K = K}) (b ∷ path)).1 path) None))
      (seek_none path 0)
      ∙ ap (λ (rs : RowsOf K). or_else (seek n rs path) None) (no_rows (b ∷ path))
      ∙ or_none (seek n [] path) ∙ seek_none path n

  seek_byte : (rs : RowsOf K) (b : ℕ) (path : List ℕ) → step param_token rs ≡ [] → step catch_all_token rs ≡ []
      → seek 0 rs (b ∷ path) ≡ seek 0 (step b rs) path
  unfolding seek
  seek_byte rs b path p q =
      let n = (param_step (step param_token rs) (b ∷ path)).0 - 1 in
      let gone : (param_step (step param_token rs) (b ∷ path)).1 ≡ [] =
      ap (λ (r : RowsOf K). (param_step r (b ∷ path)).1) p ∙ no_rows (b ∷ path) in
      ap (λ (r : RowsOf K). or_else (seek 0 (step b rs) path)
      (or_else (seek n r path) (own (step catch_all_token rs)))) gone
      ∙ ap (λ (o : Option K). or_else (seek 0 (step b rs) path) (or_else o (own (step catch_all_token rs))))
      (seek_none path n)
      ∙ ap (λ (r : RowsOf K). or_else (seek 0 (step b rs) path) (own r)) q
      ∙ or_none (seek 0 (step b rs) path)

  -- a walk over bytes on which no parameter stands
  pub seek_word : (w : List ℕ) (rs : RowsOf K) (path : List ℕ) → tame w rs ≡ true
      → seek 0 rs (w ++ path) ≡ seek 0 (steps w rs) path
  seek_word [] rs path h = refl
  seek_word (b ∷ w) rs path h =
      let a = is_none (step param_token rs) in
      let c = is_none (step catch_all_token rs) in
      let t = tame w (step b rs) in
      let later = and_right a (c && t) h in
      seek_byte rs b (w ++ path) (is_none_is (step param_token rs) (and_left a (c && t) h))
      (is_none_is (step catch_all_token rs) (and_left c t later))
      ∙ seek_word w (step b rs) path (and_right c t later)

  own_rest : (path : List ℕ) (k : K) → seek (length path) (([], k) ∷ []) path ≡ Some k
  unfolding seek
  own_rest [] k = refl
  own_rest (b ∷ path) k = own_rest path k

  -- a parameter that ends a path
  pub seek_param : (k : K) (b : ℕ) (rest : List ℕ) → b < 256 → has_slash (b ∷ rest) ≡ false
      → seek 0 ((param_token ∷ [], k) ∷ []) (b ∷ rest) ≡ Some k
  unfolding seek param_step
  seek_param k b rest small plain =
      let other : (param_token == b) ≡ false = grind (arith, nat_tests) in
      let one : suc (length rest) - 1 ≡ length rest = omega arith in
      ap (λ (v : Bool). or_else (seek 0 (cond (param_token == b) (([], k) ∷ []) []) rest)
      (or_else (seek ((cond {A = ℕ × RowsOf K} v (0, nil {K = K}) (suc (length rest), ([], k) ∷ [])).0 - 1)
      (cond {A = ℕ × RowsOf K} v (0, nil {K = K}) (suc (length rest), ([], k) ∷ [])).1 rest) None)) plain
      ∙ ap (λ (v : Bool). or_else (seek 0 (cond v (([], k) ∷ []) (nil {K = K})) rest)
      (or_else (seek (suc (length rest) - 1) (([], k) ∷ []) rest) None)) other
      ∙ ap (λ (o : Option K). or_else o (or_else (seek (suc (length rest) - 1) (([], k) ∷ []) rest) None))
      (seek_none rest 0)
      ∙ or_none (seek (suc (length rest) - 1) (([], k) ∷ []) rest)
      ∙ ap (λ (n : ℕ). seek n (([], k) ∷ []) rest) one
      ∙ own_rest rest k

  -- a walk over bytes that are skipped
  seek_skip : (w path : List ℕ) (rs : RowsOf K) → seek (length w) rs (w ++ path) ≡ seek 0 rs path
  unfolding seek
  seek_skip [] path rs = refl
  seek_skip (b ∷ w) path rs = seek_skip w path rs

segment_of : (w more : List ℕ) → has_slash w ≡ false → segment (w ++ 47 ∷ more) ≡ w ++ (47 ∷ [])
segment_of [] more h = refl
segment_of (b ∷ w) more h =
    elim (b == 47)
    as (λ v. cond v true (has_slash w) ≡ false
    → cond v (b ∷ []) (b ∷ segment (w ++ 47 ∷ more)) ≡ b ∷ (w ++ (47 ∷ [])))
    [ true ↦ λ wrong. cc wrong | false ↦ λ rest. ap (λ s. b ∷ s) (segment_of w more rest) ] h

behind : (w : List ℕ) → drop (length (w ++ 47 ∷ []) - 1) (w ++ 47 ∷ []) ≡ 47 ∷ []
behind w =
    let n : length (w ++ 47 ∷ []) - 1 ≡ length w = rw (length-append w (47 ∷ [])) omega arith in
    ap (λ i. drop i (w ++ 47 ∷ [])) n ∙ drop-append_seam w (47 ∷ [])

cut : (b : ℕ) (w : List ℕ) → cuts ((b ∷ w) ++ 47 ∷ []) (47 ∷ []) ≡ true
cut b w =
    let long : ltb 1 (length ((b ∷ w) ++ 47 ∷ [])) ≡ true = rw (length-append w (47 ∷ [])) grind (arith, nat_tests) in
    ap (λ v. v && ends_with nat_eq ((b ∷ w) ++ 47 ∷ []) (47 ∷ [])) long
    ∙ ap (λ s. pointwise nat_eq (47 ∷ []) s) (behind (b ∷ w))

module _ {K : Type 0} where
  suffix_of : (t : List ℕ) (k : K) (b : ℕ) (w : List ℕ)
      → longest_suffix ((b ∷ w) ++ 47 ∷ []) ((47 ∷ t, k) ∷ []) ≡ 47 ∷ []
  suffix_of t k b w = ap (λ v. cond v (47 ∷ []) []) (cut b w)

  -- how far a parameter goes that a slash ends
  param_ends : (t : List ℕ) (k : K) (b : ℕ) (w more : List ℕ) → has_slash (b ∷ w) ≡ false
      → param_step ((47 ∷ t, k) ∷ []) ((b ∷ w) ++ 47 ∷ more) ≡ (suc (length w), (47 ∷ t, k) ∷ [])
  unfolding param_step
  param_ends t k b w more plain =
      let rs : RowsOf K = (47 ∷ t, k) ∷ [] in
      let path = (b ∷ w) ++ 47 ∷ more in
      let seg = (b ∷ w) ++ 47 ∷ [] in
      let other = cond {A = ℕ × RowsOf K} (has_slash path) (0, []) (length path, rs) in
      let n : length seg - 1 ≡ suc (length w) = rw (length-append w (47 ∷ [])) omega arith in
      ap (λ (s : List ℕ). cond {A = ℕ × RowsOf K} (ltb 0 (length (longest_suffix s rs)))
      (length s - length (longest_suffix s rs), with_suffix (longest_suffix s rs) rs) other)
      (segment_of (b ∷ w) more plain)
      ∙ ap (λ (s : List ℕ). cond {A = ℕ × RowsOf K} (ltb 0 (length s)) (length seg - length s, with_suffix s rs) other)
      (suffix_of t k b w)
      ∙ ap (λ (i : ℕ). (i, rs)) n

  -- a parameter that a slash ends
  pub seek_to_slash : (t : List ℕ) (k : K) (b : ℕ) (w more : List ℕ) → b < 256 → has_slash (b ∷ w) ≡ false
      → seek 0 ((param_token ∷ 47 ∷ t, k) ∷ []) ((b ∷ w) ++ 47 ∷ more) ≡ seek 0 ((t, k) ∷ []) more
  unfolding seek
  seek_to_slash t k b w more small plain =
      let rs : RowsOf K = (47 ∷ t, k) ∷ [] in
      let path = w ++ 47 ∷ more in
      let other : (param_token == b) ≡ false = grind (arith, nat_tests) in
      let one : suc (length w) - 1 ≡ length w = omega arith in
      ap (λ (v : Bool). or_else (seek 0 (cond v rs []) path)
      (or_else (seek ((param_step rs (b ∷ path)).0 - 1) (param_step rs (b ∷ path)).1 path) None)) other
      ∙ ap (λ (o : Option K). or_else o
      (or_else (seek ((param_step rs (b ∷ path)).0 - 1) (param_step rs (b ∷ path)).1 path) None)) (seek_none path 0)
      ∙ or_none (seek ((param_step rs (b ∷ path)).0 - 1) (param_step rs (b ∷ path)).1 path)
      ∙ ap (λ (p : ℕ × RowsOf K). seek (p.0 - 1) p.1 path) (param_ends t k b w more plain)
      ∙ ap (λ (n : ℕ). seek n rs path) one
      ∙ seek_skip w (47 ∷ more) rs
      ∙ seek_byte rs 47 more refl refl
