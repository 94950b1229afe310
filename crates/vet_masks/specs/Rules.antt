-- Which exempt steps each of the searches takes (ours).
use Rattle.std.specs.Prelude.{◌≡◌, ◌≢◌, ◌==◌, ◌<◌, ◌/◌, ◌%◌, ℕ, zero, suc, Bool, true, false, not, Option, Some, None}
use Rattle.std.specs.Int.{bit_at}
use Rattle.vet_masks.specs.declared.rule.Digit.{Digit}
use Rattle.vet_masks.specs.declared.rule.Rule.{Rule}
use Rattle.vet_masks.specs.declared.rule.Rule.TheVariants.{Reviewed, With}

-- whether a number has a binary digit
abbrev pub has_digit : Digit → ℕ → Bool
has_digit d n = bit_at n d.place == d.value

-- the rule of each search: no exempt step first, and then, for each digit, its two values
abbrev pub rule_of : ℕ → Rule
rule_of zero = Reviewed
rule_of (suc i) = With (record { place = i / 2; value = i % 2 })

-- whether a search skips the exempt steps to a version, by its number among those that have such steps
abbrev pub skips : Rule → Option ℕ → Bool
skips Reviewed number = true
skips (With d) None = true
skips (With d) (Some n) = not (has_digit d n)

-- so many searches are enough for the numbers below a count: some search takes the exempt steps to each, and for two of
-- them, some search takes those to the one and skips those to the other
pub record AreEnough (count searches : ℕ) : Type 0 where
  pub some : 0 < searches
  pub each : (n : ℕ) → n < count → (i : ℕ) × (i < searches) × (skips (rule_of i) (Some n) ≡ false)
  pub apart : (m n : ℕ) → m < count → n < count → m ≢ n
      → (i : ℕ) × (i < searches) × (skips (rule_of i) (Some m) ≡ true) × (skips (rule_of i) (Some n) ≡ false)
