-- The statuses of replies (RFC 9110, status codes; the choice of them, and of those for refusals, is ours).
use Rattle.std.specs.Prelude.{ℕ, codes}
use Rattle.vet_base.specs.Words.{Text}
use Rattle.vet_base.specs.declared.refusal.Refusal.{Refusal}
use Rattle.vet_base.specs.declared.refusal.Refusal.TheVariants.{BadName, BadVersion, BadRequirement, BadDay, BadDelta}
use Rattle.vet_base.specs.declared.refusal.Refusal.TheVariants.{TooLarge, TomlRefused, CsvRefused, FieldRefused}
use Rattle.vet_base.specs.declared.refusal.Refusal.TheVariants.{NoMemory, StoreRefused}
use Rattle.vet_requests.specs.declared.status.Status.{Status}
use Rattle.vet_requests.specs.declared.status.Status.TheVariants as status

-- a row of the table
pub record StatusRow : Type 0 where
  pub number : ℕ
  pub phrase : Text

abbrev pub status_row : Status → StatusRow
status_row status.Ok = record { number = 200; phrase = codes "OK" }
status_row status.BadRequest = record { number = 400; phrase = codes "Bad Request" }
status_row status.NotFound = record { number = 404; phrase = codes "Not Found" }
status_row status.MethodNotAllowed = record { number = 405; phrase = codes "Method Not Allowed" }
status_row status.Conflict = record { number = 409; phrase = codes "Conflict" }
status_row status.ContentTooLarge = record { number = 413; phrase = codes "Content Too Large" }
status_row status.NotImplemented = record { number = 501; phrase = codes "Not Implemented" }
status_row status.ServiceUnavailable = record { number = 503; phrase = codes "Service Unavailable" }

abbrev pub status_number : Status → ℕ
status_number s = (status_row s).number

abbrev pub status_phrase : Status → Text
status_phrase s = (status_row s).phrase

-- the status of a refusal
abbrev pub refusal_status : Refusal → Status
refusal_status BadName = status.BadRequest
refusal_status BadVersion = status.BadRequest
refusal_status BadRequirement = status.BadRequest
refusal_status BadDay = status.BadRequest
refusal_status BadDelta = status.BadRequest
refusal_status TomlRefused = status.BadRequest
refusal_status (CsvRefused _) = status.BadRequest
refusal_status (FieldRefused _ _) = status.BadRequest
refusal_status (TooLarge _) = status.ContentTooLarge
refusal_status NoMemory = status.ServiceUnavailable
refusal_status StoreRefused = status.ServiceUnavailable
refusal_status _ = status.Conflict
