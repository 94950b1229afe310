-- Lengths in packed lists, and the item that stands in front.
use Rattle.std.proofs.Common.{◌≡◌, ℕ, zero, suc, ◌<◌, ◌≤◌, ◌^◌, ◌+◌, ◌*◌, ◌-◌, ◌++◌, ◌∷◌, ◌∙◌, List, true, false}
use Rattle.std.proofs.Common.{length, take, drop, get_or, codes, refl, sym, ap, subst, arith, add-one}
use Rattle.std.specs.Char.{digit_value, is_ascii_digit}
use Rattle.std.specs.Fmt.{decimal}
use Rattle.std.specs.Prelude.{◌&&◌, ◌||◌, nat_eq, nat_le, nat_lt, not}
use Rattle.std.specs.Str.Parse.{AllDigits, digits_value}
use Rattle.std.proofs.Math.ListN.{get_or-append}
use Rattle.std.proofs.Math.Nat.{pow-le-pow_right, pow-suc}
use Rattle.std.proofs.Math.Seq.{drop-append_seam, get_or-append_seam, take-append_seam, take-length}
use Rattle.std.proofs.lemmas.Bool.Decides.{nat_tests}
use Rattle.std.proofs.lemmas.Fmt.{decimal-digits_value, decimal_digit, decimal_nonempty, digits_decimal}
use Rattle.std.proofs.lemmas.Fmt.{digits_value-decimal, first_decimal, length-decimal-le}
use Rattle.std.proofs.lemmas.Int.Digits.{digits_more, digits_value-lt, digits_value_more}
use Rattle.std.proofs.lemmas.List.{append_assoc, get_or-take, length-append, length-drop, length-take-le}
use Rattle.std.proofs.lemmas.Str.Parse.{IsNumeralModel, digit_at, numerals_by_value, tells_digits}
use Rattle.vet_base.specs.Words.{Bytes}
use Rattle.vet_item_rows.specs.Packed.{is_length, packed_item}

numerals : IsNumeralModel (AllDigits 10) (digits_value 10)
numerals = numerals_by_value (AllDigits 10) tells_digits

-- ---- digits

small_digit : (b : ℕ) → is_ascii_digit b ≡ true → digit_value b < 10
small_digit b h = grind (arith, nat_tests)

pub digit_more : (bs : List ℕ) (i : ℕ) → i < length bs → AllDigits 10 (take i bs)
    → is_ascii_digit (get_or bs i 0) ≡ true → AllDigits 10 (take (i + 1) bs)
digit_more bs i within all is = digits_more 10 bs i within all (small_digit (get_or bs i 0) is)

pub digit_from : (ds : List ℕ) (place : ℕ) → AllDigits 10 ds → place < length ds → 48 ≤ get_or ds place 0
digit_from ds place all within = (digit_at ds place all within).0

pub digit_to : (ds : List ℕ) (place : ℕ) → AllDigits 10 ds → place < length ds → get_or ds place 0 ≤ 57
digit_to ds place all within = (digit_at ds place all within).1

digit_worth : (b : ℕ) → 48 ≤ b → b ≤ 57 → digit_value b ≡ b - 48
digit_worth b from to = grind (arith, nat_tests)

is_digit : (b : ℕ) → 48 ≤ b → b ≤ 57 → is_ascii_digit b ≡ true
is_digit b from to = grind (arith, nat_tests)

-- one digit more
pub value_step : (ds : List ℕ) (place value more : ℕ) → AllDigits 10 ds → place < length ds
    → (value ≡ digits_value 10 (take place ds)) × (value < 10 ^ place) → more ≡ get_or ds place 0 - 48
    → (value * 10 + more ≡ digits_value 10 (take (place + 1) ds)) × (value * 10 + more < 10 ^ (place + 1))
value_step ds place value more all within was e =
    let range = digit_at ds place all within in
    let worth = digit_worth (get_or ds place 0) range.0 range.1 in
    let sum : digits_value 10 (take (place + 1) ds) ≡ digits_value 10 (take place ds) * 10 + digit_value
    (get_or ds place 0) = digits_value_more 10 ds place within in
    let pow : 10 ^ (suc place) ≡ 10 ^ place * 10 = pow-suc 10 place in
    (cc (sum, e, worth, was.0), rw (add-one) (omega (arith, pow, range, was, e)))

pub value_fits : (place value : ℕ) → place < 19 → value < 10 ^ place → value * 10 + 9 < 2 ^ 64
value_fits place value few h =
    let ten : zero < 10 = omega arith in
    let few : place ≤ 18 = omega (arith, few) in
    let most : 10 ^ place ≤ 10 ^ 18 = pow-le-pow_right ten few in
    omega (arith, most, h)

-- the digits of a number
pub numeral : (n : ℕ) → n < 2 ^ 64 → AllDigits 10 (decimal n)
numeral n fits = digits_decimal numerals n fits

-- ---- lengths

some_digits : (n first : ℕ) → (nat_eq n 1 || (nat_lt 1 n && nat_le n 19 && not (nat_eq first 48))) ≡ true → 0 < n
some_digits n first h = grind (arith, nat_tests)

few_digits : (n first : ℕ) → (nat_eq n 1 || (nat_lt 1 n && nat_le n 19 && not (nat_eq first 48))) ≡ true → n ≤ 19
few_digits n first h = grind (arith, nat_tests)

no_zero : (n first : ℕ) → (nat_eq n 1 || (nat_lt 1 n && nat_le n 19 && not (nat_eq first 48))) ≡ true → first ≡ 48
    → n ≡ 1
no_zero n first h e = grind (arith, nat_tests)

as_length : (n first : ℕ) → 0 < n → n ≤ 19 → 48 < first
    → (nat_eq n 1 || (nat_lt 1 n && nat_le n 19 && not (nat_eq first 48))) ≡ true
as_length n first some few h = grind (arith, nat_tests)

pub length_is_short : (ds : List ℕ) → is_length ds ≡ true → length ds ≤ 19
length_is_short ds h = few_digits (length ds) (get_or ds 0 0) h

-- what is read of a length is written so
pub written_again : (ds : List ℕ) → AllDigits 10 ds → is_length ds ≡ true → decimal (digits_value 10 ds) ≡ ds
written_again ds all h =
    let few = length_is_short ds h in
    let below : digits_value 10 ds < 10 ^ (length ds) = digits_value-lt 10 ds all in
    let ten : zero < 10 = omega arith in
    let most : 10 ^ (length ds) ≤ 10 ^ 19 = pow-le-pow_right ten few in
    decimal-digits_value numerals ds all (some_digits (length ds) (get_or ds 0 0) h)
    (no_zero (length ds) (get_or ds 0 0) h) (omega (arith, below, most))

-- and each length that is written is one
pub written_is_length : (n : ℕ) → n < 2 ^ 63 → is_length (decimal n) ≡ true
written_is_length zero small = rw (decimal_digit 0 (omega arith)) refl
written_is_length (suc m) small =
    let fits : suc m < 2 ^ 64 = omega arith in
    as_length (length (decimal (suc m))) (get_or (decimal (suc m)) 0 0) (decimal_nonempty (suc m) fits)
    (length-decimal-le 19 (suc m) (omega arith) (omega arith) fits) (first_decimal (suc m) (omega arith) fits)

-- two numbers are written alike only if they are the same
pub written_once : (n m : ℕ) → n < 2 ^ 64 → m < 2 ^ 64 → decimal n ≡ decimal m → n ≡ m
written_once n m small few e =
    sym (digits_value-decimal numerals n small) ∙ ap (digits_value 10) e ∙ digits_value-decimal numerals m few

-- ---- the item in front

by_order : (n m : ℕ) → (n < m → ⊥) → (m < n → ⊥) → n ≡ m
by_order n m less more = elim (nat_le n m) as (λ t. nat_le n m ≡ t → n ≡ m) [
  | true ↦ λ e. elim (nat_le m n) as (λ t. nat_le m n ≡ t → n ≡ m) [
    | true ↦ λ f. grind (arith, nat_tests, e, f)
    | false ↦ λ f. absurd (less (grind (arith, nat_tests, e, f)))
  ] refl
  | false ↦ λ e. absurd (more (grind (arith, nat_tests, e)))
] refl

-- behind the digits that stand in front of an item are its colon and what is packed behind it
pub in_front : (bytes item rest : Bytes) → bytes ≡ packed_item item ++ rest
    → bytes ≡ decimal (length item) ++ (codes ":" ++ (item ++ rest))
in_front bytes item rest is = is ∙ append_assoc (decimal (length item)) (codes ":" ++ item) rest

-- an item is shorter than what it stands in
pub item_is_short : (bytes item rest : Bytes) → bytes ≡ packed_item item ++ rest → length item ≤ length bytes
item_is_short bytes item rest is =
    let whole = ap length (in_front bytes item rest is) in
    let first = length-append (decimal (length item)) (codes ":" ++ (item ++ rest)) in
    let behind = length-append item rest in
    omega (arith, whole, first, behind)

-- the digits in front of an item are those of its length, and no more
module _ (bytes ds tail : Bytes) (end : ℕ) (is : bytes ≡ ds ++ (58 ∷ tail)) (all : AllDigits 10 ds)
    (within : end ≤ length bytes) (digits : AllDigits 10 (take end bytes))
    (stops : end < length bytes → is_ascii_digit (get_or bytes end 0) ≡ false) where
  whole : length bytes ≡ length ds + suc (length tail)
  whole = ap length is ∙ length-append ds (58 ∷ tail)

  none_less : end < length ds → ⊥
  none_less less =
      let at : get_or bytes end 0 ≡ get_or ds end 0 =
      ap (λ (bs : Bytes). get_or bs end 0) is ∙ get_or-append ds (58 ∷ tail) 0 end less in
      let range = digit_at ds end all less in
      let digit = subst (λ b. is_ascii_digit b ≡ true) (sym at) (is_digit (get_or ds end 0) range.0 range.1) in
      cc (digit, stops (omega (arith, whole, less)))

  none_more : length ds < end → ⊥
  none_more more =
      let at : get_or bytes (length ds) 0 ≡ 58 =
      ap (λ (bs : Bytes). get_or bs (length ds) 0) is ∙ get_or-append_seam ds 58 tail 0 in
      let taken = get_or-take end bytes (length ds) 0 more in
      let count : length (take end bytes) ≡ end = length-take-le end bytes within in
      let range = digit_at (take end bytes) (length ds) digits (omega (arith, count, more)) in
      omega (arith, at, taken, range)

  pub end_is : end ≡ length ds
  end_is = by_order end (length ds) none_less none_more

  pub taken_is : take end bytes ≡ ds
  taken_is = ap (λ n. take n bytes) end_is ∙ ap (take (length ds)) is ∙ take-append_seam ds (58 ∷ tail)

  pub left_is : take (length bytes - end) (drop end bytes) ≡ 58 ∷ tail
  left_is =
      ap (λ n. take n (drop end bytes)) (sym (length-drop end bytes)) ∙ take-length (drop end bytes)
      ∙ ap (λ n. drop n bytes) end_is ∙ ap (drop (length ds)) is ∙ drop-append_seam ds (58 ∷ tail)
