use Rattle.std.proofs.Common.{◌≡◌, rules}
use Rattle.vet_rows.proofs.read.moves.change.Goals as goal

pub returns-in_err-before : goal.returns-in_err-before
returns-in_err-before c m stands = cc (c.in_err-before.ensures.read m.change.before (search rules))

pub returns-in_err-after : goal.returns-in_err-after
returns-in_err-after c m stands = cc (c.in_err-after.ensures.read m.change.after (search rules))

pub returns : goal.returns
returns c m stands =
    let pair : c.in_ok-pair.field-0 ≡ m.change.pair = search rules in
    let before : c.in_ok-before.before ≡ m.change.before = search rules in
    let after : c.in_ok-after.after ≡ m.change.after = search rules in
    λ i. record { pair = pair i; before = before i; after = after i }
