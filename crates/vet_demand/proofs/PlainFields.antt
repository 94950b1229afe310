-- Texts that a record has as they are: numbers, names, versions and words need no quotes.
use Rattle.std.proofs.Common.{◌≡◌, ◌<◌, ◌^◌, ◌%◌, ◌+◌, ℕ, zero, suc, Bool, true, false, List, [], ◌∷◌, ◌++◌, length}
use Rattle.std.proofs.Common.{Some, refl, ap, arith}
use Rattle.std.specs.Prelude.{◌==◌, ◌&&◌, not, nat_le, nat_lt}
use Rattle.std.specs.Char.{digit_value, is_ascii_digit}
use Rattle.std.specs.Fmt.{decimal}
use Rattle.std.specs.List.{list_all, list_any}
use Rattle.std.specs.Str.{IsAscii, is_utf8}
use Rattle.std.specs.Str.Parse.{digits_value}
use Rattle.std.proofs.lemmas.Bool.{and_parts}
use Rattle.std.proofs.lemmas.Bool.Decides.{nat_tests}
use Rattle.std.proofs.lemmas.Fmt.{decimal_by_steps, decimal_nonempty, length-decimal-le}
use Rattle.std.proofs.lemmas.Int.Digits.{digits_value_push}
use Rattle.std.proofs.lemmas.List.Folds.{list_all-append}
use Rattle.std.proofs.lemmas.Str.{IsUtf8-from_ascii, is_utf8-from_IsUtf8}
use Rattle.csv.specs.Writing.{default_writer, needs_byte}
use Rattle.vet_base.specs.Name.{is_package_byte, is_package_name}
use Rattle.vet_base.specs.Version.{VersionValue, read_version, version_text}
use Rattle.vet_base.proofs.ListLemmas.{all_weaker}
use Rattle.vet_base.proofs.VersionBytes.{is_version_byte, version_bytes}
use Rattle.vet_demand.specs.DependencyRecord.{is_number, read_number}

-- ---- bytes

-- ASCII, and no control character, quote or comma
abbrev pub is_plain : ℕ → Bool
is_plain b = nat_lt 34 b && nat_lt b 128 && not (b == 44)

needs_none : (b : ℕ) → is_plain b ≡ true → needs_byte default_writer b ≡ false
needs_none b h = grind (arith, nat_tests)

plain_small : (b : ℕ) → is_plain b ≡ true → b < 128
plain_small b h = grind (arith, nat_tests)

-- a plain text needs no quotes
pub needs_no_quotes : (text : List ℕ) → list_all is_plain text ≡ true
    → list_any (needs_byte default_writer) text ≡ false
needs_no_quotes [] h = refl
needs_no_quotes (b ∷ text) h =
    let (here, more) = and_parts (is_plain b) (list_all is_plain text) h in
    rw (needs_none b here) (needs_no_quotes text more)

plain_ascii : (text : List ℕ) → list_all is_plain text ≡ true → IsAscii text
plain_ascii [] h i = omega arith
plain_ascii (b ∷ text) h zero = plain_small b (and_parts (is_plain b) (list_all is_plain text) h).0
plain_ascii (b ∷ text) h (suc i) = plain_ascii text (and_parts (is_plain b) (list_all is_plain text) h).1 i

-- it is text
pub plain_utf8 : (text : List ℕ) → list_all is_plain text ≡ true → is_utf8 text ≡ true
plain_utf8 text h = is_utf8-from_IsUtf8 text (IsUtf8-from_ascii text (plain_ascii text h))

pub plain_append : (xs ys : List ℕ) → list_all is_plain xs ≡ true → list_all is_plain ys ≡ true
    → list_all is_plain (xs ++ ys) ≡ true
plain_append xs ys a b = rw (list_all-append, a) b

-- ---- numbers

plain_digit : (d : ℕ) → d < 10 → list_all is_plain ((48 + d) ∷ []) ≡ true
plain_digit d h = grind (arith, nat_tests)

pub plain_decimal : (n : ℕ) → n < 2 ^ 64 → list_all is_plain (decimal n) ≡ true
plain_decimal n small =
    decimal_by_steps (λ _ ds. list_all is_plain ds ≡ true) plain_digit
    (λ k ds big h. plain_append ds ((48 + k % 10) ∷ []) h (plain_digit (k % 10) (omega arith)))
    n small

one_digit : (d : ℕ) → d < 10 → list_all is_ascii_digit ((48 + d) ∷ []) ≡ true
one_digit d h = grind (arith, nat_tests)

all_digits : (n : ℕ) → n < 2 ^ 64 → list_all is_ascii_digit (decimal n) ≡ true
all_digits n small =
    decimal_by_steps (λ _ ds. list_all is_ascii_digit ds ≡ true) one_digit
    (λ k ds big h. rw (list_all-append, h) (one_digit (k % 10) (omega arith)))
    n small

digit_valued : (d : ℕ) → d < 10 → digit_value (48 + d) ≡ d
digit_valued d h = grind (arith, nat_tests)

one_value : (d : ℕ) → d < 10 → digits_value 10 ((48 + d) ∷ []) ≡ d
one_value d h = (let value = digit_valued d h in let sum = digits_value_push 10 [] (48 + d) in
    omega (arith, value, sum))

all_value : (n : ℕ) → n < 2 ^ 64 → digits_value 10 (decimal n) ≡ n
all_value n small =
    decimal_by_steps (λ k ds. digits_value 10 ds ≡ k) one_value
    (λ k ds big h. (let value = digit_valued (k % 10) (omega arith) in let sum =
    digits_value_push 10 ds (48 + k % 10) in omega (arith, value, sum, h)))
    n small

-- a number of at most nine digits is read again
pub number_read : (n : ℕ) → n < 10 ^ 9 → read_number (decimal n) ≡ Some n
number_read n small =
    let fits : n < 2 ^ 64 = omega arith in
    let some : nat_le 1 (length (decimal n)) ≡ true =
    (let long = decimal_nonempty n fits in grind (arith, nat_tests, long)) in
    let few : nat_le (length (decimal n)) 9 ≡ true = (let short = length-decimal-le 9 n (omega arith) small fits in
    grind (arith, nat_tests, short)) in
    let number : is_number (decimal n) ≡ true = rw (some, few) (all_digits n fits) in
    rw number (ap (λ (k : ℕ). Some k) (all_value n fits))

-- ---- names

package_plain : (b : ℕ) → is_package_byte b ≡ true → is_plain b ≡ true
package_plain b h = grind (arith, nat_tests)

pub plain_name : (name : List ℕ) → is_package_name name ≡ true → list_all is_plain name ≡ true
plain_name name h =
    all_weaker is_package_byte is_plain package_plain name
    (and_parts (nat_le 1 (length name) && nat_le (length name) 64) (list_all is_package_byte name) h).1

-- ---- versions

version_plain : (b : ℕ) → is_version_byte b ≡ true → is_plain b ≡ true
version_plain b h = grind (arith, nat_tests)

-- what is read as a version prints plainly
pub plain_version : (text : List ℕ) (v : VersionValue) → read_version text ≡ Some v
    → list_all is_plain (version_text v) ≡ true
plain_version text v e =
    all_weaker is_version_byte is_plain version_plain (version_text v) (version_bytes text v e)
