-- How the text of a delta is taken apart.
use Rattle.std.proofs.Common.{◌≡◌, ◌≢◌, ℕ, suc, ◌<◌, ◌+◌, ◌-◌, ◌==◌, false, List, [], ◌∷◌, ◌++◌, length, get_or, take}
use Rattle.std.proofs.Common.{drop, Option, Some, None, Result, Ok, Err, IfOk, ◌⊎◌, option_map, refl, sym, ap, ◌∙◌}
use Rattle.std.proofs.Common.{arith, inl, inr, eqb-true, eq-eqb, ne_eqb}
use Rattle.std.specs.Char.{encode_utf8}
use Rattle.std.specs.List.{prefix_len, suffix_len, position_or_len, before_first, after_first}
use Rattle.std.specs.Str.Pattern.{FindsCharPrefix, FindsCharSuffix, CutsPrefixes, CutsSuffixes, IsFullyTrimmed}
use Rattle.std.specs.Str.Pattern.{IsTrimStartMatches, IsTrimEndMatches}
use Rattle.std.proofs.lemmas.Bool.{cases_Bool, false≢true, cond-true, cond-false}
use Rattle.std.proofs.lemmas.List.{reverse-append, take-append-drop, take-append-le, take_more, take_all, length-append}
use Rattle.std.proofs.Math.Seq.{get_or-append_seam, take-append_seam, drop-length}
use Rattle.std.proofs.lemmas.List.Sums.{suffix_len_is, position_or_len_is, fails_before_first}
use Rattle.std.proofs.lemmas.Str.Pattern.{drop_at_char, strip_prefix_char, strip_suffix_char}
use Rattle.vet_base.specs.declared.delta.Delta.{Delta}
use Rattle.vet_base.specs.Version.{VersionValue}
use Rattle.vet_base.specs.Delta.{is_space, is_head, delta_between, without_leading, without_ending, without_spaces}
use Rattle.vet_base.specs.Delta.{before_dash, ends_of}

-- ---- spaces that lead a text

pub one_more_leads : (r : List ℕ) → without_leading (32 ∷ r) ≡ without_leading r
one_more_leads r = ap (λ n. drop n (32 ∷ r)) more
  where
    more : 1 + prefix_len is_space r ≡ suc (prefix_len is_space r)
    more = omega arith

prefixes_cut : (s : List ℕ) (ns : List ℕ) (r : List ℕ) → CutsPrefixes (FindsCharPrefix 32) s ns r → without_leading s
    ≡ without_leading r
prefixes_cut s [] r h = ap without_leading (sym h)
prefixes_cut s (n ∷ ns) r (m, cut, found, is) =
    prefixes_cut s ns m cut
    ∙ ap without_leading (drop_at_char 32 m 0 n found (omega arith) ∙ ap (λ t. 32 ∷ t) (sym is)) ∙ one_more_leads r

none_leads : (r : List ℕ) → ((rest : List ℕ) → r ≢ encode_utf8 32 ++ rest) → without_leading r ≡ r
none_leads [] h = refl
none_leads (b ∷ r) h = elim (cases_Bool (is_space b)) [
  | inl there ↦ absurd (strip_prefix_char 32 (b ∷ r) None h (omega arith) r (ap (λ x. x ∷ r) (eqb-true b 32 there)))
  | inr other ↦ ap (λ n. drop n (b ∷ r)) (cond-false (is_space b) (1 + prefix_len is_space r) 0 other)
]

trimmed_start : (r : List ℕ) → IsFullyTrimmed (FindsCharPrefix 32) r → without_leading r ≡ r
trimmed_start r (None, h, u) = none_leads r h
trimmed_start r (Some n, h, zero_is) = absurd (omega (arith, h.ends, zero_is))

pub leading_trimmed : (s r : List ℕ) → IsTrimStartMatches (FindsCharPrefix 32) s r → r ≡ without_leading s
leading_trimmed s r h = sym (prefixes_cut s h.0.0 r h.0.1 ∙ trimmed_start r h.1)

-- ---- spaces that end a text

ends_in : (m : List ℕ) (n : ℕ) → FindsCharSuffix 32 m (Some n) → m ≡ take (length m - n) m ++ (32 ∷ [])
ends_in m n (size, at, bound) =
    sym (take-append-drop (length m - n) m)
    ∙ ap (λ t. take (length m - n) m ++ t)
    (drop_at_char 32 m (length m - n) (length m) at (omega arith) ∙ ap (λ t. 32 ∷ t) (drop-length m))

pub one_more_ends : (r : List ℕ) → without_ending (r ++ (32 ∷ [])) ≡ without_ending r
one_more_ends r =
    let tail : suffix_len is_space (r ++ (32 ∷ [])) ≡ 1 + suffix_len is_space r =
    ap (prefix_len is_space) (reverse-append r (32 ∷ [])) in
    let size : length (r ++ (32 ∷ [])) ≡ length r + 1 = length-append r (32 ∷ []) in
    let kept : length (r ++ (32 ∷ [])) - suffix_len is_space (r ++ (32 ∷ [])) ≡ length r - suffix_len is_space r =
    omega (arith, tail, size) in
    ap (λ n. take n (r ++ (32 ∷ []))) kept ∙ take-append-le (length r - suffix_len is_space r) r (32 ∷ []) (omega arith)

suffixes_cut : (s : List ℕ) (ns : List ℕ) (r : List ℕ) → CutsSuffixes (FindsCharSuffix 32) s ns r → without_ending s
    ≡ without_ending r
suffixes_cut s [] r h = ap without_ending (sym h)
suffixes_cut s (n ∷ ns) r (m, cut, found, is) =
    suffixes_cut s ns m cut ∙ ap without_ending (ends_in m n found ∙ ap (λ t. t ++ (32 ∷ [])) (sym is))
    ∙ one_more_ends r

last_of : (r : List ℕ) → 0 < length r → r ≡ take (length r - 1) r ++ (get_or r (length r - 1) 0 ∷ [])
last_of r some =
    let n = length r - 1 in
    let whole : n + 1 ≡ length r = omega (arith, some) in
    sym (take_all (n + 1) r (omega (arith, whole))) ∙ take_more r n 0 (omega (arith, some))

pub none_ends : (r : List ℕ) → ((front : List ℕ) → r ≢ front ++ encode_utf8 32) → without_ending r ≡ r
none_ends r h =
    let none : suffix_len is_space r ≡ length r - length r =
    suffix_len_is is_space r (length r) 0 (omega arith) (λ k low high. absurd (omega (arith, low, high))) last in
    take_all (length r - suffix_len is_space r) r (omega (arith, none))
  where
    last : 0 < length r → is_space (get_or r (length r - 1) 0) ≡ false
    last some = elim (cases_Bool (is_space (get_or r (length r - 1) 0))) [
      | inl there ↦ absurd
          (strip_suffix_char 32 r None h (omega arith) (take (length r - 1) r)
          (last_of r some ∙ ap (λ b. take (length r - 1) r ++ (b ∷ [])) (eqb-true _ 32 there)))
      | inr other ↦ other
    ]

trimmed_end : (r : List ℕ) → IsFullyTrimmed (FindsCharSuffix 32) r → without_ending r ≡ r
trimmed_end r (None, h, u) = none_ends r h
trimmed_end r (Some n, h, zero_is) = absurd (omega (arith, h.0, zero_is))

pub ending_trimmed : (s r : List ℕ) → IsTrimEndMatches (FindsCharSuffix 32) s r → r ≡ without_ending s
ending_trimmed s r h = sym (suffixes_cut s h.0.0 r h.0.1 ∙ trimmed_end r h.1)

-- ---- the `-` before `>`

pub dash_found : (text front : List ℕ) → text ≡ front ++ (45 ∷ []) → before_dash text ≡ Some front
dash_found text front is =
    let size : length text ≡ length front + 1 = ap length is ∙ length-append front (45 ∷ []) in
    let at : length text - 1 ≡ length front = omega (arith, size) in
    let last : get_or text (length text - 1) 0 ≡ 45 =
    ap (λ n. get_or text n 0) at ∙ ap (λ t. get_or t (length front) 0) is ∙ get_or-append_seam front 45 [] 0 in
    let kept : take (length text - 1) text ≡ front =
    ap (λ n. take n text) at ∙ ap (take (length front)) is ∙ take-append_seam front (45 ∷ []) in
    cond-true (get_or text (length text - 1) 0 == 45) (Some (take (length text - 1) text)) None (eq-eqb _ 45 last)
    ∙ ap Some kept

pub dash_lacks : (text : List ℕ) → ((front : List ℕ) → text ≢ front ++ (45 ∷ [])) → before_dash text ≡ None
dash_lacks text h = elim (cases_Bool (get_or text (length text - 1) 0 == 45)) [
  | inr other ↦ cond-false (get_or text (length text - 1) 0 == 45) (Some (take (length text - 1) text)) None other
  | inl there ↦ (let last : get_or text (length text - 1) 0 ≡ 45 = eqb-true _ 45 there in
      absurd (h (take (length text - 1) text)
      (last_of text (some text last) ∙ ap (λ b. take (length text - 1) text ++ (b ∷ [])) last)))
]
  where
    some : (t : List ℕ) → get_or t (length t - 1) 0 ≡ 45 → 0 < length t
    some [] e = absurd (omega (arith, e))
    some (b ∷ t) e = omega arith

-- ---- the only `>`

-- what is cut at the only `>`
abbrev pub cut : List ℕ → Option (List ℕ × List ℕ)
cut text = option_map (λ before. (without_spaces before, without_spaces (after_first is_head text)))
    (before_dash (before_first is_head text))

pub second_head : (text : List ℕ) (k : ℕ) → k < length (after_first is_head text)
    → get_or (after_first is_head text) k 0 ≡ 62 → ends_of text ≡ None
second_head text k l at = elim (cases_Bool (position_or_len is_head text == length text)) [
  | inl lacks ↦ cond-true (position_or_len is_head text == length text) None _ lacks
  | inr has ↦ cond-false (position_or_len is_head text == length text) None _ has
      ∙ cond-false (position_or_len is_head after == length after) _ None (ne_eqb _ _ more)
]
  where
    after : List ℕ
    after = after_first is_head text

    more : position_or_len is_head after ≡ length after → ⊥
    more e = false≢true (sym (fails_before_first is_head after k 0 (omega (arith, l, e))) ∙ eq-eqb _ 62 at)

pub only_head : (text : List ℕ) → position_or_len is_head text < length text
    → ((k : ℕ) → k < length (after_first is_head text) → get_or (after_first is_head text) k 0 ≢ 62) → ends_of text
    ≡ cut text
only_head text has none =
    let after = after_first is_head text in
    let lacks : position_or_len is_head after ≡ length after =
    position_or_len_is is_head after (length after) 0 (omega arith) (λ k l. ne_eqb _ 62 (none k l))
    (λ l. absurd (omega (arith, l))) in
    cond-false (position_or_len is_head text == length text) None _ (ne_eqb _ _ (λ e. omega (arith, has, e)))
    ∙ cond-true (position_or_len is_head after == length after) (cut text) None (eq-eqb _ _ lacks)

module _ (text before after : List ℕ) (has : position_or_len is_head text < length text)
    (first : before ≡ before_first is_head text) (rest : after ≡ after_first is_head text) where
  pub two_heads : (k : ℕ) → k < length after → get_or after k 0 ≡ 62 → None ≡ ends_of text
  two_heads k l at = sym (second_head text k (rw (← rest) l) (ap (λ t. get_or t k 0) (sym rest) ∙ at))

  module _ (none : (k : ℕ) → k < length after → get_or after k 0 ≢ 62) where
    only : ends_of text ≡ cut text
    only = only_head text has (λ k l e. none k (rw rest l) (ap (λ t. get_or t k 0) rest ∙ e))

    pub no_dash : ((front : List ℕ) → before ≢ front ++ (45 ∷ [])) → None ≡ ends_of text
    no_dash h = sym (only
        ∙ ap (option_map (λ t. (without_spaces t, without_spaces (after_first is_head text))))
        (ap before_dash (sym first) ∙ dash_lacks before h))

    pub both_ends : (front : List ℕ) → before ≡ front ++ (45 ∷ []) → Some (without_spaces front, without_spaces after)
        ≡ ends_of text
    both_ends front is =
        ap (λ t. Some (without_spaces front, without_spaces t)) rest
        ∙ sym (only ∙ ap (option_map (λ t. (without_spaces t, without_spaces (after_first is_head text))))
        (ap before_dash (sym first) ∙ dash_found before front is))

-- ---- the two versions

second_none : (a b : Option VersionValue) → b ≡ None → delta_between a b ≡ None
second_none a b h = ap (delta_between a) h ∙ none a
  where
    none : (x : Option VersionValue) → delta_between x None ≡ None
    none (Some v) = refl
    none None = refl

-- a delta lacks one of its versions
pub lacks_one : (a b : Option VersionValue) → delta_between a b ≡ None → (a ≡ None) ⊎ (b ≡ None)
lacks_one (Some a) (Some b) h = cc h
lacks_one (Some a) None h = inr refl
lacks_one None b h = inl refl

pub none_told : {E : Type 0} (r : Result (Option Delta) E) (a b : Option VersionValue)
    → IfOk r (λ d. (d ≡ None) × (b ≡ None)) → IfOk r (λ d. d ≡ delta_between a b)
none_told (Ok d) a b h = h.0 ∙ sym (second_none a b h.1)
none_told (Err e) a b h = tt
