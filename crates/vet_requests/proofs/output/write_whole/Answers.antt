-- What was written before a write failed.
use Rattle.std.proofs.Common.{rules}
use Rattle.std.proofs.lemmas.List.{take_rest}
use Rattle.std.proofs.KnownBytes.{Appends-trans}
use lib.Seq.{take-add}
use Rattle.vet_requests.proofs.output.write_whole.Goals as goal

pub loop-at-preserved : goal.loop-at-preserved
loop-at-preserved g c =
    let bytes = c.args.bytes.now in
    let more = rw take_rest at c.in-Ok.ensures.bytes in
    (search rules, rw (take-add c.loop-at.at c.in-Ok.n bytes) (Appends-trans _ _ _ _ _ c.loop-at.invariant.1 more))
