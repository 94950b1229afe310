-- The values of a serve command (ours).
use Rattle.std.specs.Prelude.{◌≡◌, ℕ, List, Option, Some, codes, option_map}
use Rattle.clap.specs.Walk.{Row, Text, first_of}
use Rattle.vetd_words.specs.ServeWords.{IsNumberUpTo}
use Rattle.vetd_words.specs.Words.{rows_given}
use Rattle.vetd_words.specs.declared.serve_words.ServeWords.{ServeWords}
use Rattle.vetd_words.specs.declared.serve_words.TheConstants.{LAST_PORT, MOST_CONNECTIONS}

-- a port, how many connections are waited for, and the path and the text of a day, if these are given
pub record ServeAsked : Type 0 where
  pub port : ℕ
  pub connections : ℕ
  pub path : Option Text
  pub day : Option Text

-- these, as the code holds them
abbrev pub serve_asked : ServeWords → ServeAsked
serve_asked words = record {
  port = words.port;
  connections = words.connections;
  path = option_map (λ path. path.now) words.path;
  day = option_map (λ day. day.now) words.day;
}

-- clap's matches of a serve command give them
pub record IsServeAskedBy (rows : List Row) (asked : ServeAsked) : Type 0 where
  pub port : (text : Text) × (first_of (codes "port") rows ≡ Some text) × IsNumberUpTo LAST_PORT text asked.port
  pub connections : (text : Text) × (first_of (codes "connections") rows ≡ Some text)
      × IsNumberUpTo MOST_CONNECTIONS text asked.connections
  pub path : first_of (codes "db") rows ≡ asked.path
  pub day : first_of (codes "day") rows ≡ asked.day

-- the words of a serve command give them
pub record AsksServe (words : List Text) (asked : ServeAsked) : Type 0 where
  pub rows : List Row
  pub given : rows_given (codes "serve") words ≡ Some rows
  pub asks : IsServeAskedBy rows asked
