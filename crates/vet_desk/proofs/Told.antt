-- What the answer of a desk tells, by what was judged.
use Rattle.std.proofs.Common.{◌≡◌, Ok, Err}
use Rattle.vet_base.specs.declared.refusal.Refusal.{Refusal}
use Rattle.vet_base.specs.declared.refusal.Refusal.TheVariants.{NoMemory}
use Rattle.vet_base.specs.Gives.{Answers, Told}
use Rattle.vet_base.proofs.Telling.{refuses_too}
use Rattle.vet_desk.specs.declared.change.DeskStep.{DeskStep}
use Rattle.vet_desk.specs.declared.verdict.DeskAnswer.{DeskAnswer}
use Rattle.vet_desk.specs.declared.verdict.DeskAnswer.TheVariants.{Accepted}
use Rattle.vet_desk.specs.DeskView.{TellsDesk, desk_answer}

-- a refusal is passed on
pub tells_refusal : (t : Told DeskAnswer) (f : Refusal) → Answers t (Err f) → TellsDesk t (Err f)
tells_refusal (Ok x) f h = cc h
tells_refusal (Err e) f h = refuses_too _ _ e f h

-- what was accepted is answered by a change, or memory is wanting
pub tells_change : (t : Told DeskAnswer) (s : DeskStep) → t ≡ Ok Accepted → desk_answer s ≡ Accepted
    → TellsDesk t (Ok s)
tells_change t s told is = rw told is

pub tells_want : (t : Told DeskAnswer) (f : Refusal) → t ≡ Ok Accepted → f ≡ NoMemory → TellsDesk t (Err f)
tells_want t f told is = rw told is
