-- What the fields of a record are read as.
use Rattle.std.proofs.Common.{◌≡◌, ◌<◌, ◌≤◌, ◌^◌, ◌+◌, ◌*◌, ◌-◌, ℕ, zero, suc, Bool, true, false, cond, List, [], ◌∷◌}
use Rattle.std.proofs.Common.{length, take, get_or, Some, None, refl, arith, add-one}
use Rattle.std.specs.Prelude.{◌&&◌, nat_le}
use Rattle.std.specs.Char.{digit_value, is_ascii_digit}
use Rattle.std.specs.List.{AllPass}
use Rattle.std.specs.Str.{IsAscii, IsUtf8, is_utf8}
use Rattle.std.specs.Str.Parse.{AllDigits, digits_value}
use Rattle.std.proofs.Math.Nat.{pow-suc}
use Rattle.std.proofs.lemmas.Bool.Decides.{nat_tests}
use Rattle.std.proofs.lemmas.Int.Digits.{digits_value_more}
use Rattle.std.proofs.lemmas.List.Sums.{AllPass-from_list_all}
use Rattle.std.proofs.lemmas.Str.{IsUtf8-from_ascii, IsUtf8-from_is_utf8, is_utf8-from_IsUtf8}
use Rattle.vet_base.specs.Name.{is_package_byte, is_package_name, read_package_name}
use Rattle.vet_base.specs.declared.limits.TheConstants.{MOST_NAME_BYTES}
use Rattle.vet_base.specs.Version.{read_version}
use Rattle.vet_demand.specs.DependencyRecord.{is_number, read_version_field}

last_true : (a b c : Bool) → (a && b && c) ≡ true → c ≡ true
last_true true true c e = e
last_true true false c e = cc e
last_true false b c e = cc e

-- ---- names and versions

byte_small : (b : ℕ) → is_package_byte b ≡ true → b < 128
byte_small b h = grind (arith, nat_tests)

all_small : (bs : List ℕ) → AllPass is_package_byte bs → IsAscii bs
all_small [] h i = omega arith
all_small (b ∷ bs) h zero = byte_small b (h 0 0 (omega arith))
all_small (b ∷ bs) h (suc i) = all_small bs (λ k d l. h (suc k) d (omega arith)) i

-- what isn't text is no name
pub no_name : (bs : List ℕ) → (IsUtf8 bs → ⊥) → read_package_name bs ≡ None
no_name bs h =
    elim (is_package_name bs) as (λ t. is_package_name bs ≡ t → cond t (Some bs) None ≡ None) [
      | true ↦ λ e. absurd (h (IsUtf8-from_ascii bs
          (all_small bs (AllPass-from_list_all is_package_byte bs
          (last_true (nat_le 1 (length bs)) (nat_le (length bs) MOST_NAME_BYTES) _ e)))))
      | false ↦ λ e. refl
    ] refl

-- what isn't text is no version
pub no_version : (bs : List ℕ) → (IsUtf8 bs → ⊥) → read_version_field bs ≡ None
no_version bs h =
    elim (is_utf8 bs) as (λ t. is_utf8 bs ≡ t → cond t (read_version bs) None ≡ None) [
      | true ↦ λ e. absurd (h (IsUtf8-from_is_utf8 bs e))
      | false ↦ λ e. refl
    ] refl

-- what is text is the version that it is read as
pub text_version : (bs : List ℕ) → IsUtf8 bs → read_version_field bs ≡ read_version bs
text_version bs u = rw (is_utf8-from_IsUtf8 bs u) refl

-- ---- numbers

digit : (b : ℕ) → is_ascii_digit b ≡ true → (digit_value b < 10) × (digit_value b ≡ b - 48) × (48 ≤ b)
digit b h = (grind (arith, nat_tests), grind (arith, nat_tests), grind (arith, nat_tests))

-- the bytes of a number are digits, at most nine
pub digits_few : (text : List ℕ) → is_number text ≡ true → AllPass is_ascii_digit text × (length text ≤ 9)
digits_few text h = (
  AllPass-from_list_all is_ascii_digit text
      (last_true (nat_le 1 (length text)) (nat_le (length text) 9) _ h),
  grind (arith, nat_tests),
)

all_digits : (text : List ℕ) → AllPass is_ascii_digit text → AllDigits 10 text
all_digits [] h = tt
all_digits (b ∷ bs) h = ((digit b (h 0 0 (omega arith))).0, all_digits bs (λ k d l. h (suc k) d (omega arith)))

-- one digit more
pub number_step : (text : List ℕ) (place value more : ℕ) → is_number text ≡ true → place < length text
    → (value ≡ digits_value 10 (take place text)) × (value < 10 ^ place) → more ≡ get_or text place 0 - 48
    → (value * 10 + more ≡ digits_value 10 (take (place + 1) text)) × (value * 10 + more < 10 ^ (place + 1))
number_step text place value more h within was e =
    let this = digit (get_or text place 0) ((digits_few text h).0 place 0 within) in
    let sum : digits_value 10 (take (place + 1) text) ≡ digits_value 10 (take place text) * 10 + digit_value
    (get_or text place 0) = digits_value_more 10 text place within in
    let pow : 10 ^ (suc place) ≡ 10 ^ place * 10 = pow-suc 10 place in
    (cc (sum, e, this.1, was.0), rw (add-one) (omega (arith, pow, this, was, e)))
