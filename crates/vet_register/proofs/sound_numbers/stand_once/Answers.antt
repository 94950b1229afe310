use Rattle.std.specs.Cmp.{nat_eq_equiv, unsigned_Decides}
use Rattle.std.specs.HashSet.{IsFromIterResult}
use Rattle.std.proofs.Common.{◌==◌}
use Rattle.std.proofs.lemmas.Iterator.{YieldsList-from_slice}
use Rattle.std.proofs.lemmas.Iterator.Adapters.{fact_from_collect}
use Rattle.std.proofs.lemmas.Iterator.Consumers.{YieldsList-from_copied}
use Rattle.std.proofs.lemmas.Map.Made.{hash_set_len-Decides}
use Rattle.std.proofs.lemmas.Result.{IfOk-at_ok}
use Rattle.vet_register.proofs.sound_numbers.stand_once.Goals as goal

pub returns : goal.returns
returns c =
    let numbers = c.args.numbers.now in
    let different = c.in_ok-different.different in
    let made = fact_from_collect (IsFromIterResult (λ m n. m == n)) c.collect.result c.collect.ensures.ran
    (YieldsList-from_copied (YieldsList-from_slice numbers cc)) in
    let once = hash_set_len-Decides unsigned_Decides nat_eq_equiv numbers different
    (IfOk-at_ok (IsFromIterResult (λ m n. m == n) numbers) c.in_ok-different.was made) in
    rw c.len.ensures.len once
