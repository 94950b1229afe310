-- The words of an apply command (ours): a path, a day, and the member who gives the command, if one is given.
use Rattle.std.specs.Prelude.{List, Option, codes, option_and_then, option_map, false, true}
use Rattle.clap.specs.Walk.{Row, Text, first_of}
use Rattle.clap.specs.Simple as simple
use Rattle.clap.specs.Simple.{App, with_rule}
use Rattle.vetd_words.specs.NewWords.{option_rule}
use Rattle.vetd_words.specs.declared.apply_words.ApplyWords.{ApplyWords}

-- `apply --db PATH --day D [--member M]`
abbrev pub apply_app : App
apply_app = with_rule (with_rule (with_rule (simple.new_app (codes "apply")) (option_rule true (codes "db")))
    (option_rule true (codes "day"))) (option_rule false (codes "member"))

-- a path, the text of a day, and the member who gives the command, if one is given
pub record ApplyAsked : Type 0 where
  pub path : Text
  pub day : Text
  pub member : Option Text

-- these, as the code holds them
abbrev pub apply_asked : ApplyWords → ApplyAsked
apply_asked words = record {
  path = words.path.now;
  day = words.day.now;
  member = option_map (λ member. member.now) words.member;
}

-- the values of the options, if the required ones are given
abbrev pub apply_from : List Row → Option ApplyAsked
apply_from rows = option_and_then (λ path.
    option_map (λ day. record { path = path; day = day; member = first_of (codes "member") rows })
    (first_of (codes "day") rows)) (first_of (codes "db") rows)
