-- Queries in words (ours): the line about a file.
use Rattle.std.specs.Prelude.{List, Option, Some, None, Result, Ok, Err, option_map}
use Rattle.clap.specs.Walk.{Text}
use Rattle.clap.specs.declared.error.Error.{Error}
use Rattle.vetd_words.specs.Answer.{Telling}
use Rattle.vetd_words.specs.ClassLine.{class_line_told}
use Rattle.vetd_words.specs.ReadLine.{read_told}
use Rattle.vetd_words.specs.Words.{asked_of, class_given, read_given}
use Rattle.vetd_words.specs.declared.asked.FileQuery.{FileQuery}
use Rattle.vetd_words.specs.declared.asked.FileQuery.TheVariants.{Class, Read}
use Rattle.vetd_words.specs.declared.asked.CommandKind.{CommandKind}
use Rattle.vetd_words.specs.declared.asked.CommandKind.TheVariants.{Class as AsClass, Read as AsRead}

-- the line about a file, command by command
abbrev pub line_told : FileQuery → Telling
line_told (Class words) = class_line_told (asked_of words)
line_told (Read kind) = read_told kind

-- the query, or nothing if clap returned an error
abbrev pub telling_of : Result FileQuery Error → Option Telling
telling_of (Ok asked) = Some (line_told asked)
telling_of (Err error) = None

-- the query of a class command, if the words are one
abbrev pub class_asked : List Text → Option Telling
class_asked words = option_map class_line_told (class_given words)

-- the query of a read command, if the words are one
abbrev pub read_asked : List Text → Option Telling
read_asked words = option_map read_told (read_given words)

-- the query of words that are to be such a command
abbrev pub asked_by : CommandKind → List Text → Option Telling
asked_by AsClass words = class_asked words
asked_by AsRead words = read_asked words
