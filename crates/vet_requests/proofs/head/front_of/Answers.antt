-- The front is all of the bytes, or as many as a head may have.
use Rattle.vet_requests.proofs.FrontLemmas.{take_front}
use Rattle.vet_requests.proofs.head.front_of.Goals as goal

pub returns-clause-front : goal.returns-clause-front
returns-clause-front c = take_front c.min.result c.args.bytes.now c.min.ensures
