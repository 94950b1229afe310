-- The line that is printed for the outcome of a command (ours).
use Rattle.std.specs.Prelude.{ℕ, List, [], ◌∷◌, ◌++◌, Option, Some, None, codes}
use Rattle.std.specs.Fmt.{decimal}
use Rattle.vet_base.specs.Words.{Text}
use Rattle.vet_register.specs.declared.command.Outcome.{Outcome}
use Rattle.vet_register.specs.declared.command.Outcome.TheVariants.{Done, Already}
use Rattle.vet_reports.specs.Columns.{line}

-- the words for a number, if there is one
abbrev pub number_words : Option ℕ → List Text
number_words None = []
number_words (Some number) = codes "number" ∷ decimal number ∷ []

-- the words of an outcome: the step, the number and how many pairs moved; or the number under which an equal entry is
-- already held
abbrev pub outcome_words : Outcome → List Text
outcome_words (Done step number moves) =
    codes "done" ∷ decimal step ∷ (number_words number ++ (codes "moves" ∷ decimal moves ∷ []))
outcome_words (Already None) = codes "already" ∷ []
outcome_words (Already (Some number)) = codes "already" ∷ decimal number ∷ []

-- the line of an outcome
abbrev pub outcome_text : Outcome → Text
outcome_text outcome = line (outcome_words outcome)
