-- The words of commands, and of the kinds of entries (ours).
use Rattle.std.specs.Prelude.{List, [], ◌∷◌, codes, Option, Some, None, if◌then◌else◌}
use Rattle.std.specs.Str.{bytes_eq}
use Rattle.vet_base.specs.Words.{Text}
use Rattle.vet_documents.specs.declared.command_word.CommandWord.{CommandWord}
use Rattle.vet_documents.specs.declared.command_word.CommandWord.TheVariants as command
use Rattle.vet_documents.specs.declared.command_word.KindWord.{KindWord}
use Rattle.vet_documents.specs.declared.command_word.KindWord.TheVariants as kind

-- the value beside a text in a table
abbrev pub beside : {A : Type 0} → Text → List (Text × A) → Option A
beside text [] = None
beside text (row ∷ rest) = if bytes_eq text row.0 then Some row.1 else beside text rest

-- each command to the review desk, with its word
abbrev pub desk_commands : List (Text × CommandWord)
desk_commands =
    (codes "add-member", command.AddMember)
    ∷ (codes "open-review", command.OpenReview)
    ∷ (codes "assign-review", command.AssignReview)
    ∷ (codes "finish-review", command.FinishReview)
    ∷ (codes "withdraw-review", command.WithdrawReview)
    ∷ []

-- each command, with its word
abbrev pub commands : List (Text × CommandWord)
commands =
    (codes "set-criterion", command.SetCriterion)
    ∷ (codes "remove-criterion", command.RemoveCriterion)
    ∷ (codes "add-entry", command.AddEntry)
    ∷ (codes "drop-entry", command.DropEntry)
    ∷ (codes "set-policy", command.SetPolicy)
    ∷ (codes "drop-policy", command.DropPolicy)
    ∷ (codes "set-peer", command.SetPeer)
    ∷ (codes "drop-peer", command.DropPeer)
    ∷ (codes "import-peer", command.ImportPeer)
    ∷ (codes "set-publishers", command.SetPublishers)
    ∷ (codes "load-project", command.LoadProject)
    ∷ (codes "drop-project", command.DropProject)
    ∷ (codes "replace-files", command.ReplaceFiles)
    ∷ (codes "close-period", command.ClosePeriod)
    ∷ (codes "set-day", command.SetDay)
    ∷ desk_commands

-- each kind of an entry, with its word
abbrev pub kinds : List (Text × KindWord)
kinds =
    (codes "full", kind.Full)
    ∷ (codes "delta", kind.Delta)
    ∷ (codes "violation", kind.Violation)
    ∷ (codes "wildcard", kind.Wildcard)
    ∷ (codes "trusted", kind.Trusted)
    ∷ (codes "exemption", kind.Exemption)
    ∷ []
