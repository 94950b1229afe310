-- Command documents: the command that one states, or its first fault (ours).
use Rattle.std.specs.Prelude.{[], Option, Ok}
use Rattle.toml.specs.Data.{Members}
use Rattle.vet_base.specs.Day.{DayValue}
use Rattle.vet_base.specs.Document.{length_told}
use Rattle.vet_base.specs.Gives.{Told, found_or, ◌>>=◌}
use Rattle.vet_base.specs.Words.{Bytes}
use Rattle.vet_documents.specs.CommandWord.{beside, commands}
use Rattle.vet_documents.specs.CriterionDocument.{remove_criterion_told, set_criterion_told}
use Rattle.vet_documents.specs.DeskDocument.{add_member_told, assign_review_told, finish_review_told, open_review_told}
use Rattle.vet_documents.specs.DeskDocument.{withdraw_review_told}
use Rattle.vet_documents.specs.DocumentField.{any_text, only}
use Rattle.vet_documents.specs.DocumentKeys.{COMMAND}
use Rattle.vet_documents.specs.EntryDocument.{add_entry_told, drop_entry_told}
use Rattle.vet_documents.specs.FilesDocument.{replace_files_told}
use Rattle.vet_documents.specs.PeerDocument.{drop_peer_told, import_peer_told, set_peer_told}
use Rattle.vet_documents.specs.PolicyDocument.{drop_policy_told, set_policy_told}
use Rattle.vet_documents.specs.ProjectDocument.{drop_project_told, load_project_told}
use Rattle.vet_documents.specs.PublishersDocument.{set_publishers_told}
use Rattle.vet_documents.specs.declared.command_word.CommandWord.{CommandWord}
use Rattle.vet_documents.specs.declared.command_word.CommandWord.TheVariants as command
use Rattle.vet_files.specs.Audits.{document_told}
use Rattle.vet_files.specs.Field.{fault, required}
use Rattle.vet_register.specs.declared.command.Action.{Action}
use Rattle.vet_register.specs.declared.command.Action.TheVariants.{ClosePeriod, SetDay}
use Rattle.vet_register.specs.declared.command.Command.{Command}

-- the word of the command
abbrev pub word_told : Members → Told CommandWord
word_told ms = required any_text COMMAND COMMAND ms >>= λ word. found_or (fault COMMAND COMMAND) (beside word commands)

abbrev pub close_period_told : Members → Told Action
close_period_told ms = only [] ms >>= λ _. Ok ClosePeriod

-- no key states the day, which is that of the command
abbrev pub set_day_told : Members → Told Action
set_day_told ms = only [] ms >>= λ _. Ok SetDay

-- the action that the command of a word asks for; the giver matters only to the desk
abbrev pub action_told : Option Bytes → Members → CommandWord → Told Action
action_told giver ms command.SetCriterion = set_criterion_told ms
action_told giver ms command.RemoveCriterion = remove_criterion_told ms
action_told giver ms command.AddEntry = add_entry_told ms
action_told giver ms command.DropEntry = drop_entry_told ms
action_told giver ms command.SetPolicy = set_policy_told ms
action_told giver ms command.DropPolicy = drop_policy_told ms
action_told giver ms command.SetPeer = set_peer_told ms
action_told giver ms command.DropPeer = drop_peer_told ms
action_told giver ms command.ImportPeer = import_peer_told ms
action_told giver ms command.SetPublishers = set_publishers_told ms
action_told giver ms command.LoadProject = load_project_told ms
action_told giver ms command.DropProject = drop_project_told ms
action_told giver ms command.ReplaceFiles = replace_files_told ms
action_told giver ms command.ClosePeriod = close_period_told ms
action_told giver ms command.SetDay = set_day_told ms
action_told giver ms command.AddMember = add_member_told ms
action_told giver ms command.OpenReview = open_review_told ms
action_told giver ms command.AssignReview = assign_review_told ms
action_told giver ms command.FinishReview = finish_review_told giver ms
action_told giver ms command.WithdrawReview = withdraw_review_told giver ms

-- the command of a document that is given on a day; its length is checked first, then its form, then its keys
abbrev pub command_told : Bytes → DayValue → Option Bytes → Told Command
command_told bytes day giver =
    length_told bytes >>= λ _.
    document_told bytes >>= λ ms.
    word_told ms >>= action_told giver ms >>= λ action.
    Ok (record { day = day; action = action })
