-- The documents of the commands to the review desk, and the member who gives one (ours).
use Rattle.std.specs.Prelude.{[], ◌∷◌, Option, Some, None, Ok, Err, if◌then◌else◌}
use Rattle.std.specs.Str.{is_utf8}
use Rattle.toml.specs.Data.{Members}
use Rattle.vet_base.specs.Gives.{Told, found_or, ◌>>=◌}
use Rattle.vet_base.specs.Name.{read_name}
use Rattle.vet_base.specs.Words.{Bytes, Name}
use Rattle.vet_base.specs.declared.refusal.Refusal.TheVariants.{BadName}
use Rattle.vet_desk.specs.declared.command.DeskCommand.TheVariants as desk
use Rattle.vet_desk.specs.declared.command.Reviewed.{Reviewed}
use Rattle.vet_desk.specs.declared.command.Reviewed.TheVariants as reviewed
use Rattle.vet_documents.specs.DocumentField.{a_delta, a_name, a_number, a_package, a_version, names, only}
use Rattle.vet_documents.specs.DocumentKeys.{COMMAND, HEAD, MEMBER, PACKAGE, REVIEW, VET_MEMBER}
use Rattle.vet_files.specs.Audits.{absent, has}
use Rattle.vet_files.specs.Field.{fault, required}
use Rattle.vet_files.specs.KeyNames.{CRITERIA, DELTA, VERSION}
use Rattle.vet_register.specs.declared.command.Action.{Action}
use Rattle.vet_register.specs.declared.command.Action.TheVariants.{Desk}

-- the name that some bytes state, which need not be text
abbrev pub name_of_bytes : Bytes → Told Name
name_of_bytes bytes = found_or BadName (if is_utf8 bytes then read_name bytes else None)

-- the member who gives a command, whose name comes beside the document
abbrev pub giver_told : Option Bytes → Told Name
giver_told None = Err (fault HEAD VET_MEMBER)
giver_told (Some bytes) = name_of_bytes bytes

abbrev pub add_member_told : Members → Told Action
add_member_told ms =
    required a_name COMMAND MEMBER ms >>= λ name.
    only (MEMBER ∷ []) ms >>= λ _.
    Ok (Desk (desk.AddMember name))

abbrev pub open_review_told : Members → Told Action
open_review_told ms =
    required a_package COMMAND PACKAGE ms >>= λ name.
    required a_version COMMAND VERSION ms >>= λ version.
    required names COMMAND CRITERIA ms >>= λ criteria.
    only (PACKAGE ∷ VERSION ∷ CRITERIA ∷ []) ms >>= λ _.
    Ok (Desk (desk.OpenReview name version criteria))

abbrev pub assign_review_told : Members → Told Action
assign_review_told ms =
    required a_number COMMAND REVIEW ms >>= λ review.
    required a_name COMMAND MEMBER ms >>= λ name.
    only (REVIEW ∷ MEMBER ∷ []) ms >>= λ _.
    Ok (Desk (desk.AssignReview review name))

-- the version or the delta that finishes a review; with both, the delta is at fault, with neither, the version
abbrev pub version_reviewed_told : Members → Told Reviewed
version_reviewed_told ms =
    required a_version COMMAND VERSION ms >>= λ version.
    absent COMMAND DELTA ms >>= λ _.
    Ok (reviewed.Version version)

abbrev pub delta_reviewed_told : Members → Told Reviewed
delta_reviewed_told ms = required a_delta COMMAND DELTA ms >>= λ delta. Ok (reviewed.Delta delta)

abbrev pub reviewed_told : Members → Told Reviewed
reviewed_told ms =
    if has ms VERSION then version_reviewed_told ms
    else (if has ms DELTA then delta_reviewed_told ms else Err (fault COMMAND VERSION))

-- the member is looked at last
abbrev pub finish_review_told : Option Bytes → Members → Told Action
finish_review_told giver ms =
    required a_number COMMAND REVIEW ms >>= λ review.
    reviewed_told ms >>= λ what.
    only (REVIEW ∷ VERSION ∷ DELTA ∷ []) ms >>= λ _.
    giver_told giver >>= λ name.
    Ok (Desk (desk.FinishReview review name what))

abbrev pub withdraw_review_told : Option Bytes → Members → Told Action
withdraw_review_told giver ms =
    required a_number COMMAND REVIEW ms >>= λ review.
    only (REVIEW ∷ []) ms >>= λ _.
    giver_told giver >>= λ name.
    Ok (Desk (desk.WithdrawReview review name))
