-- Faults of requests that are found before the route is looked at (ours).
use Rattle.std.specs.Prelude.{◌≡◌, Result, Ok, Err, MatchResult}
use Rattle.vet_requests.specs.declared.request_fault.RequestFault.{RequestFault}
use Rattle.vet_requests.specs.declared.request_fault.RequestFault.TheVariants.{BadRequest, TooLarge, NotImplemented}
use Rattle.vet_requests.specs.declared.status.Status.{Status}
use Rattle.vet_requests.specs.declared.status.Status.TheVariants as status

-- the status of its reply, which says nothing more
abbrev pub fault_status : RequestFault → Status
fault_status BadRequest = status.BadRequest
fault_status TooLarge = status.ContentTooLarge
fault_status NotImplemented = status.NotImplemented

-- the value of a part of a request, or its first fault
abbrev pub ToldOf : Type 0 → Type 0
ToldOf A = Result A RequestFault

-- the second result, from the value of the first, or the fault of the first
infixl 10 ◌>>=◌
abbrev pub ◌>>=◌ : {A B : Type 0} → ToldOf A → (A → ToldOf B) → ToldOf B
Ok x >>= f = f x
Err e >>= f = Err e

-- the answer is the defined one, as this view sees it
abbrev pub Tells : {A T : Type 0} → (T → A) → ToldOf A → Result T RequestFault → Type 0
Tells view told answer = MatchResult answer (λ v. told ≡ Ok (view v)) (λ e. told ≡ Err e)
