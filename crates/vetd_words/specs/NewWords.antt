-- The words of a new command (ours): a path, and how many moves the register may record.
use Rattle.std.specs.Prelude.{◌≡◌, ◌≤◌, ℕ, Bool, [], ◌∷◌, Some, codes, true, false}
use Rattle.std.specs.Str.Parse.{IsNumeral, digits_value, without_leading_plus}
use Rattle.clap.specs.Walk.{Rule, Text}
use Rattle.clap.specs.Simple as simple
use Rattle.clap.specs.Simple.{App, new_rule, with_rule}
use Rattle.clap.specs.declared.builder.value_parser.ValueParser.TheVariants.{Unsigned}
use Rattle.vet_base.specs.declared.limits.TheConstants.{MOST_MOVES}

-- an option `--NAME` with a value
abbrev pub option_rule : Bool → Text → Rule
option_rule required name = record (new_rule name) { long = Some name; value_names = 1; required = required }

-- `--moves-limit N`, which is 1,000,000 if it isn't given
abbrev pub limit_rule : Rule
limit_rule = record (option_rule false (codes "moves-limit")) {
  parser = Some (Unsigned 1 1000000);
  defaults = codes "1000000" ∷ [];
}

-- `new --db PATH [--moves-limit N]`
abbrev pub new_app : App
new_app = with_rule (with_rule (simple.new_app (codes "new")) (option_rule true (codes "db"))) limit_rule

-- a text is a limit of moves: digits, which a plus may precede, of a number from 1 to the most
pub record IsLimit (text : Text) (limit : ℕ) : Type 0 where
  pub numeral : IsNumeral 10 (without_leading_plus text)
  pub value : limit ≡ digits_value 10 (without_leading_plus text)
  pub least : 1 ≤ limit
  pub most : limit ≤ MOST_MOVES
