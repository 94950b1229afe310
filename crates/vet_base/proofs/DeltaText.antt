-- A delta's text is read as that delta.
use Rattle.std.proofs.Common.{◌≡◌, ℕ, suc, ◌+◌, ◌<◌, ◌&&◌, not, Bool, true, false, List, [], ◌∷◌, ◌++◌, length, drop}
use Rattle.std.proofs.Common.{get_or, Some, refl, sym, ap, ◌∙◌, arith, inl, inr, eq-eqb}
use Rattle.std.proofs.lemmas.Bool.{cases_Bool, and_parts, cond-false, false≢true}
use Rattle.std.proofs.lemmas.Bool.Decides.{nat_tests}
use Rattle.std.proofs.lemmas.Grind.{common_steps}
use Rattle.std.proofs.lemmas.List.{append_assoc, length-append}
use Rattle.std.proofs.Math.Numerals.{one-add}
use Rattle.std.proofs.Math.Seq.{take-append_seam}
use Rattle.std.proofs.Math.Utf8.{encode}
use Rattle.std.proofs.lemmas.List.Folds.{list_all-append, prefix_len-append}
use Rattle.std.proofs.lemmas.List.Sums.{fails_before_first}
use Rattle.std.specs.List.{list_all, prefix_len, position_or_len, before_first, after_first}
use Rattle.vet_base.specs.declared.delta.Delta.{Delta}
use Rattle.vet_base.specs.Version.{VersionValue, read_version, version_text}
use Rattle.vet_base.specs.Delta.{is_space, is_head, without_leading, without_ending, without_spaces, ends_of}
use Rattle.vet_base.specs.Delta.{read_delta, delta_text}
use Rattle.vet_base.proofs.VersionLemmas.{drop_front}
use Rattle.vet_base.proofs.DeltaLemmas.{one_more_leads, one_more_ends, none_ends, both_ends}
use Rattle.vet_base.proofs.ListLemmas.{all_weaker}
use Rattle.vet_base.proofs.VersionBytes.{is_version_byte, version_bytes}

-- ---- a version's text has no space and no `>`

-- a byte is no space and no `>`
abbrev pub is_solid : ℕ → Bool
is_solid b = not (is_space b) && not (is_head b)

solid_byte : (b : ℕ) → is_version_byte b ≡ true → is_solid b ≡ true
solid_byte b h = grind (arith, nat_tests)

-- what is read as a version prints no space and no `>`
solid_version : (text : List ℕ) (v : VersionValue) → read_version text ≡ Some v → list_all is_solid (version_text v)
    ≡ true
solid_version text v e = all_weaker is_version_byte is_solid solid_byte (version_text v) (version_bytes text v e)

-- ---- the spaces around two such texts

not_space : (b : ℕ) → is_solid b ≡ true → is_space b ≡ false
not_space b h = grind (arith, nat_tests)

lacks_head : (b : ℕ) → is_solid b ≡ true → not (is_head b) ≡ true
lacks_head b h = (and_parts (not (is_space b)) (not (is_head b)) h).1

solid_leads : (b : ℕ) (r : List ℕ) → is_space b ≡ false → without_leading (b ∷ r) ≡ b ∷ r
solid_leads b r other = ap (λ n. drop n (b ∷ r)) (cond-false (is_space b) (1 + prefix_len is_space r) 0 other)

solid_ends : (r : List ℕ) → list_all is_solid r ≡ true → without_ending r ≡ r
unfolding encode
solid_ends r h = none_ends r (λ front e. false≢true (last front e))
  where
    last : (front : List ℕ) → r ≡ front ++ (32 ∷ []) → false ≡ true
    last front e =
        let whole : (list_all is_solid front && list_all is_solid (32 ∷ [])) ≡ true =
        sym (list_all-append is_solid front (32 ∷ [])) ∙ ap (list_all is_solid) (sym e) ∙ h in
        (and_parts (list_all is_solid front) (list_all is_solid (32 ∷ [])) whole).1

first_text : (a : List ℕ) → list_all is_solid a ≡ true → without_spaces (a ++ (32 ∷ [])) ≡ a
first_text [] h = refl
first_text (b ∷ r) h =
    let (here, more) = and_parts (is_solid b) (list_all is_solid r) h in
    ap without_ending (solid_leads b (r ++ (32 ∷ [])) (not_space b here)) ∙ one_more_ends (b ∷ r) ∙ solid_ends (b ∷ r) h

second_text : (a : List ℕ) → list_all is_solid a ≡ true → without_spaces (32 ∷ a) ≡ a
second_text [] h = refl
second_text (b ∷ r) h =
    let (here, more) = and_parts (is_solid b) (list_all is_solid r) h in
    ap without_ending (one_more_leads (b ∷ r) ∙ solid_leads b r (not_space b here)) ∙ solid_ends (b ∷ r) h

-- ---- the arrow between them

abbrev headless : List ℕ → Bool
headless text = list_all (λ b. not (is_head b)) text

no_head : (text : List ℕ) → headless text ≡ true → position_or_len is_head text ≡ length text
no_head [] h = refl
no_head (b ∷ rest) h = elim (cases_Bool (is_head b)) [
  | inl here ↦ cc (rw here at h)
  | inr other ↦ simp (other, one-add) (ap suc (no_head rest (rw other at h)))
]

head_place : (front rest : List ℕ) → headless front ≡ true → position_or_len is_head (front ++ 62 ∷ rest) ≡ length front
head_place front rest none = rw (prefix_len-append, no_head front none) (grind (arith, nat_tests, common_steps))

-- a text cut at its only arrow
arrow_cut : (before after : List ℕ) → headless (before ++ (45 ∷ [])) ≡ true → headless after ≡ true
    → ends_of ((before ++ (45 ∷ [])) ++ 62 ∷ after) ≡ Some (without_spaces before, without_spaces after)
arrow_cut before after h k =
    let front : List ℕ = before ++ (45 ∷ []) in
    let text : List ℕ = front ++ 62 ∷ after in
    let place : position_or_len is_head text ≡ length front = head_place front after h in
    let has : position_or_len is_head text < length text = omega (arith, place, length-append front (62 ∷ after)) in
    let first : front ≡ before_first is_head text = sym (rw place (take-append_seam front (62 ∷ after))) in
    let rest : after ≡ after_first is_head text = sym (rw place (drop_front front after 62)) in
    let none = λ (i : ℕ) (l : i < length after) (e : get_or after i 0 ≡ 62).
    false≢true (sym (fails_before_first is_head after i 0 (rw (no_head after k) l)) ∙ eq-eqb _ 62 e) in
    sym (both_ends text front after has first rest none before refl)

ends_text : (a b : List ℕ) → list_all is_solid a ≡ true → list_all is_solid b ≡ true
    → ends_of (a ++ (32 ∷ 45 ∷ 62 ∷ 32 ∷ b)) ≡ Some (a, b)
ends_text a b h k =
    let before : headless a ≡ true = all_weaker is_solid (λ x. not (is_head x)) lacks_head a h in
    let after : headless b ≡ true = all_weaker is_solid (λ x. not (is_head x)) lacks_head b k in
    let one = append_assoc a (32 ∷ []) (45 ∷ []) in
    let front : headless ((a ++ (32 ∷ [])) ++ (45 ∷ [])) ≡ true = rw (one, list_all-append, before) refl in
    let whole : ((a ++ (32 ∷ [])) ++ (45 ∷ [])) ++ (62 ∷ 32 ∷ b) ≡ a ++ (32 ∷ 45 ∷ 62 ∷ 32 ∷ b) =
    ap (λ t. t ++ (62 ∷ 32 ∷ b)) one ∙ append_assoc a (32 ∷ 45 ∷ []) (62 ∷ 32 ∷ b) in
    ap ends_of (sym whole) ∙ arrow_cut (a ++ (32 ∷ [])) (32 ∷ b) front after ∙ rw (first_text a h, second_text b k) refl

-- a delta's text is read as that delta
pub read_delta-text : (d : Delta) → read_version (version_text d.from) ≡ Some d.from → read_version (version_text d.to)
    ≡ Some d.to
    → read_delta (delta_text d) ≡ Some d
read_delta-text d from to =
    let ends = ends_text (version_text d.from) (version_text d.to) (solid_version (version_text d.from) d.from from)
    (solid_version (version_text d.to) d.to to) in
    rw (ends, from, to) refl
