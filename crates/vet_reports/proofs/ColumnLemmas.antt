-- What a format writes of a text or a number by a width: what stands left or right in it.
use Rattle.std.proofs.Common.{◌≡◌, ◌<◌, ◌≤◌, ◌^◌, ◌-◌, ℕ, zero, suc, Bool, true, false, [], ◌∷◌, ◌++◌}
use Rattle.std.proofs.Common.{length, refl, ap, sym, arith, append-nil}
use Rattle.std.specs.Prelude.{replicate, cond, ◌==◌, ◌&&◌}
use Rattle.std.specs.Char.{encode_utf8}
use Rattle.std.specs.List.{repeat}
use Rattle.std.specs.Fmt.{char_count, decimal, format_spec, is_char_start, padded, padded_integral}
use Rattle.std.specs.Fmt.{styled_decimal, styled_text, take_chars}
use Rattle.std.proofs.lemmas.Bool.Decides.{nat_tests}
use Rattle.std.proofs.lemmas.Fmt.{IsAscii-decimal_wide}
use Rattle.std.specs.Str.{IsAscii}
use Rattle.vet_base.specs.Words.{Text}
use Rattle.vet_reports.specs.Columns.{left_in, right_in}

-- ---- how it fills, and what it shows

spaces : (n : ℕ) → repeat n (encode_utf8 32) ≡ replicate n 32
unfolding encode_utf8
spaces zero = refl
spaces (suc n) = ap (λ l. 32 ∷ l) (spaces n)

not_zero : (n : ℕ) → 0 < n → (n == 0) ≡ false
not_zero n h = grind (arith, nat_tests)

cond_both : {A : Type 0} (t : Bool) (x y z : A) → x ≡ z → y ≡ z → cond t x y ≡ z
cond_both true x y z p q = p
cond_both false x y z p q = q

-- no text has more characters than bytes
whole : (n : ℕ) (text : Text) → length text ≤ n → take_chars n text ≡ text
unfolding take_chars
whole n [] short = refl
whole n (b ∷ text) short =
    cond_both (is_char_start b) _ _ _
    (rw (not_zero n (omega arith)) (ap (λ l. b ∷ l) (whole (n - 1) text (omega arith))))
    (ap (λ l. b ∷ l) (whole n text (omega arith)))

-- ---- a width

padded_left : (n : ℕ) (text : Text) → length text < 2 ^ 64
    → padded (format_spec 32 1 0 n 18446744073709551615) text ≡ left_in n text
unfolding padded left_in
padded_left n text short =
    let none : n - char_count text - 0 ≡ n - char_count text = omega arith in
    rw (whole 18446744073709551615 text (omega arith), none, spaces (n - char_count text)) refl

padded_right : (n : ℕ) (text : Text) → length text < 2 ^ 64
    → padded (format_spec 32 3 0 n 18446744073709551615) text ≡ right_in n text
unfolding padded right_in
padded_right n text short =
    let none : n - char_count text - (n - char_count text) ≡ 0 = omega arith in
    rw (whole 18446744073709551615 text (omega arith), none, spaces (n - char_count text))
    (ap (λ l. replicate (n - char_count text) 32 ++ l) (append-nil text))

-- ---- no width

left_none : (n : ℕ) (text : Text) → n ≡ 0 → text ≡ left_in n text
unfolding left_in
left_none n text e =
    let none : n - char_count text ≡ 0 = omega arith in
    rw none (sym (append-nil text))

right_none : (n : ℕ) (text : Text) → n ≡ 0 → text ≡ right_in n text
unfolding right_in
right_none n text e =
    let none : n - char_count text ≡ 0 = omega arith in
    rw none refl

no_width : (n : ℕ) → (n == 0) && true ≡ true → n ≡ 0
no_width n h = grind (arith, nat_tests)

bare : (n : ℕ) → (n == 0) && true && true ≡ true → n ≡ 0
bare n h = grind (arith, nat_tests)

choice : {A : Type 0} (t : Bool) (x y z : A) → (t ≡ true → x ≡ z) → y ≡ z → cond t x y ≡ z
choice true x y z p q = p refl
choice false x y z p q = q

-- ---- what is laid out

pub laid_left : (n : ℕ) (text : Text) → length text < 2 ^ 64
    → styled_text (format_spec 32 1 0 n 18446744073709551615) text ≡ left_in n text
laid_left n text short =
    choice ((n == 0) && true) _ _ _ (λ e. left_none n text (no_width n e)) (padded_left n text short)

pub laid_right : (n : ℕ) (text : Text) → length text < 2 ^ 64
    → styled_text (format_spec 32 3 0 n 18446744073709551615) text ≡ right_in n text
laid_right n text short =
    choice ((n == 0) && true) _ _ _ (λ e. right_none n text (no_width n e)) (padded_right n text short)

-- each byte of an ASCII text is a character
is_start : (b : ℕ) → b < 128 → is_char_start b ≡ true
is_start b h = grind (arith, nat_tests)

ascii_count : (text : Text) → IsAscii text → char_count text ≡ length text
unfolding char_count
ascii_count [] h = refl
ascii_count (b ∷ text) h =
    let more = ascii_count text (λ i. h (suc i)) in
    rw (is_start b (h 0)) (omega (arith, more))

integral_right : (n : ℕ) (text : Text) → char_count text ≡ length text
    → padded_integral (format_spec 32 3 0 n 18446744073709551615) false [] text ≡ right_in n text
unfolding padded_integral char_count right_in
integral_right n text e =
    let before : n - length text - 0 - 0 ≡ n - char_count text = omega arith in
    let after : n - char_count text - (n - char_count text) ≡ 0 = omega arith in
    rw (before, after, spaces (n - char_count text)) (simp append-nil)

pub laid_number : (n k : ℕ) → k < 10 ^ 64
    → styled_decimal (format_spec 32 3 0 n 18446744073709551615) k ≡ right_in n (decimal k)
laid_number n k small =
    choice ((n == 0) && true && true) _ _ _ (λ e. right_none n (decimal k) (bare n e))
    (integral_right n (decimal k) (ascii_count (decimal k) (IsAscii-decimal_wide k small)))
