-- The command line (ours), as clap reads it.
use Rattle.std.specs.Prelude.{◌≡◌, ◌≢◌, ◌⊎◌, Bool, List, [], ◌∷◌, Option, Some, None, codes, if◌then◌else◌, true, false}
use Rattle.std.specs.Prelude.{option_and_then, option_map}
use Rattle.std.specs.Str.{bytes_eq}
use Rattle.clap.specs.Walk.{Row, Rule, Text, first_of}
use Rattle.clap.specs.Simple as simple
use Rattle.clap.specs.Simple.{App, app_of, new_rule, with_rule, with_subcommand, subcommand_of}
use Rattle.clap.specs.Walk.{rule_of}
use Rattle.clap.specs.Faults.{fault_of}
use Rattle.clap.specs.Kinds.{IsAmong, Kinds}
use Rattle.clap.specs.declared.error.kind.ErrorKind.{ErrorKind}
use Rattle.clap.specs.declared.error.kind.ErrorKind.TheVariants.{DisplayHelp, DisplayVersion, OutOfMemory}
use Rattle.vet_documents.specs.declared.register_file.RegisterFile.{RegisterFile}
use Rattle.vetd_words.specs.ApplyWords.{apply_app}
use Rattle.vetd_words.specs.FileWord.{file_of_word}
use Rattle.vetd_words.specs.NewWords.{new_app, option_rule}
use Rattle.vetd_words.specs.ServeWords.{serve_app}
use Rattle.vetd_words.specs.declared.words.ClassWords.{ClassWords}
use Rattle.clap.specs.declared.builder.arg.Arg.{Arg}
use Rattle.clap.specs.declared.builder.command.Command.{Command}
use Rattle.clap.specs.declared.builder.command.Command.TheViews.{out-Command}

-- a required argument of one word
abbrev pub word_rule : Text → Rule
word_rule id = record (new_rule id) { required = true }

-- the argument has this rule, only for its own command
pub record IsRule (rule : Rule) (arg : Arg) : Type 0 where
  pub is : rule_of arg ≡ rule
  pub own : arg.global ≡ false

-- a parse reads this of the command, which has no global argument
pub record IsApp (app : App) (command : Command) : Type 0 where
  pub is : app_of command ≡ app
  pub own : (out-Command command).has_globals ≡ false

-- `class PACKAGE VERSION CRITERION`
abbrev pub class_app : App
class_app = with_rule (with_rule (with_rule (simple.new_app (codes "class")) (word_rule (codes "PACKAGE")))
    (word_rule (codes "VERSION"))) (word_rule (codes "CRITERION"))

-- `read KIND`
abbrev pub read_app : App
read_app = with_rule (simple.new_app (codes "read")) (word_rule (codes "KIND"))

-- the program, whose words come without its own name, before its subcommands
abbrev pub bare_app : App
bare_app = record (simple.new_app (codes "vetd")) {
  top = record ((simple.new_app (codes "vetd")).top) {
    subcommand_required = true;
    no_binary_name = true;
    has_version = true;
  };
}

-- with its first subcommand
abbrev pub class_alone_app : App
class_alone_app = with_subcommand bare_app class_app.top

-- with its first two
abbrev pub file_app : App
file_app = with_subcommand class_alone_app read_app.top

-- with `--db PATH KIND`
abbrev pub with_kind : App → App
with_kind app = with_rule (with_rule app (option_rule true (codes "db"))) (word_rule (codes "KIND"))

-- `NAME --db PATH KIND`
abbrev pub view_app : Text → App
view_app name = with_kind (simple.new_app name)

-- with the one that makes a register
abbrev pub made_app : App
made_app = with_subcommand file_app new_app.top

-- with the one that changes a register
abbrev pub changed_app : App
changed_app = with_subcommand made_app apply_app.top

-- with the one that reports on a register
abbrev pub reported_app : App
reported_app = with_subcommand changed_app (view_app (codes "report")).top

-- with the one that writes a file of a register
abbrev pub exported_app : App
exported_app = with_subcommand reported_app (view_app (codes "export")).top

-- the program's command line
abbrev pub top_app : App
top_app = with_subcommand exported_app serve_app.top

-- the matches of a subcommand, if it is the one of this name
abbrev pub rows_if_named : Text → Option (Text × List Row) → Option (List Row)
rows_if_named name subcommand = option_and_then (λ s. if bytes_eq s.0 name then Some s.1 else None) subcommand

-- nothing, if there is a fault
abbrev pub unless_fault : Kinds → Option (List Row) → Option (List Row)
unless_fault [] rows = rows
unless_fault (k ∷ ks) rows = None

-- the matches that clap gives the subcommand of a name, if it takes the words
unfoldable pub rows_given : Text → List Text → Option (List Row)
rows_given name words = unless_fault (fault_of top_app words) (rows_if_named name (subcommand_of top_app words))

-- the word for KIND of the subcommand of a name, if it is the one that was given
abbrev pub kind_word : Text → Option (Text × List Row) → Option Text
kind_word name subcommand = option_and_then (first_of (codes "KIND")) (rows_if_named name subcommand)

-- ---- `class`

-- a package, a version and a criterion
pub record AskedWords : Type 0 where
  pub package_name : Text
  pub version : Text
  pub criterion : Text

-- these, as the code holds them
abbrev pub asked_of : ClassWords → AskedWords
asked_of w = record { package_name = w.package_name.now; version = w.version.now; criterion = w.criterion.now }

-- the three words, if each was given
abbrev pub words_from : List Row → Option AskedWords
words_from rows = option_and_then (λ p. option_and_then (λ v.
    option_map (λ c. record { package_name = p; version = v; criterion = c })
    (first_of (codes "CRITERION") rows)) (first_of (codes "VERSION") rows)) (first_of (codes "PACKAGE") rows)

-- the three words of a class command, if the words are one
abbrev pub class_given : List Text → Option AskedWords
class_given words = option_and_then words_from (rows_given (codes "class") words)

-- whether words begin with this one
abbrev pub begins_with : Text → List Text → Bool
begins_with name [] = false
begins_with name (word ∷ rest) = bytes_eq word name

-- ---- `read`

-- the kind that the word names, if it was given and names one
abbrev pub kind_from : List Row → Option RegisterFile
kind_from rows = option_and_then file_of_word (first_of (codes "KIND") rows)

-- the kind of file that the words of a read command name
abbrev pub read_given : List Text → Option RegisterFile
read_given words = option_and_then kind_from (rows_given (codes "read") words)

-- ---- why words are explained

-- the kinds that clap's error for the words may have, if it refuses them
unfoldable pub faults_of : List Text → Kinds
faults_of words = fault_of top_app words

-- an error that shows what was asked for: help, or the version
abbrev pub IsShown : ErrorKind → Type 0
IsShown kind = (kind ≡ DisplayHelp) ⊎ (kind ≡ DisplayVersion)

-- one of clap's errors or, if it has none, one of the program's own, which shows nothing
abbrev pub IsOneOf : ErrorKind → Kinds → Type 0
IsOneOf kind [] = IsShown kind → ⊥
IsOneOf kind (first ∷ rest) = IsAmong kind (first ∷ rest)

-- memory ran out, or words may have this error
abbrev pub IsErrorOf : List Text → ErrorKind → Type 0
IsErrorOf words kind = (kind ≡ OutOfMemory) ⊎ IsOneOf kind (faults_of words)

-- the first thing that clap finds in the words is a request for help or for the version
pub record AskForHelp (words : List Text) : Type 0 where
  pub some : faults_of words ≢ []
  pub shown : (kind : ErrorKind) → IsAmong kind (faults_of words) → IsShown kind

-- it is not such a request
abbrev pub AskForNoHelp : List Text → Type 0
AskForNoHelp words = (kind : ErrorKind) → IsAmong kind (faults_of words) → IsShown kind → ⊥
