-- The values of a new command (ours).
use Rattle.std.specs.Prelude.{◌≡◌, ℕ, List, Some, codes}
use Rattle.clap.specs.Walk.{Row, Text, first_of}
use Rattle.vetd_words.specs.NewWords.{IsLimit}
use Rattle.vetd_words.specs.Words.{rows_given}
use Rattle.vetd_words.specs.declared.new_words.NewWords.{NewWords}

-- a path, and how many moves the register may record
pub record NewAsked : Type 0 where
  pub path : Text
  pub moves_limit : ℕ

-- these, as the code holds them
abbrev pub new_asked : NewWords → NewAsked
new_asked words = record { path = words.path.now; moves_limit = words.moves_limit }

-- clap's matches of a new command give them
pub record IsAskedBy (rows : List Row) (asked : NewAsked) : Type 0 where
  pub path : first_of (codes "db") rows ≡ Some asked.path
  pub limit : (text : Text) × (first_of (codes "moves-limit") rows ≡ Some text) × IsLimit text asked.moves_limit

-- the words of a new command give them
pub record AsksNew (words : List Text) (asked : NewAsked) : Type 0 where
  pub rows : List Row
  pub given : rows_given (codes "new") words ≡ Some rows
  pub asks : IsAskedBy rows asked
