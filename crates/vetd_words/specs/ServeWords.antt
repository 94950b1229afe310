-- The words of a serve command (ours): a port, how many connections are waited for, a path and a day.
use Rattle.std.specs.Prelude.{◌≡◌, ◌≤◌, ℕ, Some, codes, true, false}
use Rattle.std.specs.Str.Parse.{IsNumeral, digits_value, without_leading_plus}
use Rattle.clap.specs.Walk.{Rule, Text}
use Rattle.clap.specs.Simple as simple
use Rattle.clap.specs.Simple.{App, with_rule}
use Rattle.clap.specs.declared.builder.value_parser.ValueParser.TheVariants.{Unsigned}
use Rattle.vetd_words.specs.NewWords.{option_rule}

-- `--NAME N`, a number from 1, which must be given
abbrev pub number_rule : ℕ → Text → Rule
number_rule most name = record (option_rule true name) { parser = Some (Unsigned 1 most) }

-- `serve --port N --connections K [--db PATH] [--day D]`
abbrev pub serve_app : App
serve_app = with_rule (with_rule (with_rule (with_rule (simple.new_app (codes "serve"))
    (number_rule 65535 (codes "port"))) (number_rule 1000000 (codes "connections")))
    (option_rule false (codes "db"))) (option_rule false (codes "day"))

-- a text is a number from 1 to the most: digits, which a plus may precede
pub record IsNumberUpTo (most : ℕ) (text : Text) (number : ℕ) : Type 0 where
  pub numeral : IsNumeral 10 (without_leading_plus text)
  pub value : number ≡ digits_value 10 (without_leading_plus text)
  pub least : 1 ≤ number
  pub greatest : number ≤ most
