use Rattle.std.proofs.Common.{◌≡◌, sym, ◌∙◌, Some, None, arith}
use Rattle.std.proofs.lemmas.Bool.{false≢true}
use Rattle.std.proofs.lemmas.Str.Pattern.{contains_char, strip_suffix_char}
use Rattle.vet_base.specs.Delta.{without_spaces, ends_of}
use Rattle.vet_base.proofs.DeltaLemmas.{two_heads, no_dash, both_ends}
use Rattle.vet_base.proofs.delta.ends_of.Goals as goal

pub returns-then-contains : goal.returns-then-contains
returns-then-contains c =
    let split = c.in_ok-before.ensures.byte (omega arith) (λ w o h. h) in
    let found = (contains_char 62 c.in_ok-before.after.now c.contains.result c.contains.ensures.cases (omega arith)).0
    c.if-contains.true in
    two_heads c.args.text.now c.in_ok-before.before.now c.in_ok-before.after.now split.2 split.0 split.1 found.0
    found.1 found.2

pub returns-in_err-before-2 : goal.returns-in_err-before-2
returns-in_err-before-2 c =
    let split = c.in_ok-before.ensures.byte (omega arith) (λ w o h. h) in
    let contains = contains_char 62 c.in_ok-before.after.now c.contains.result c.contains.ensures.cases (omega arith) in
    let lacks = strip_suffix_char 45 c.in_ok-before.before.now None c.in_err-before-2.ensures.cases (omega arith) in
    let none : None ≡ ends_of c.args.text.now =
    no_dash c.args.text.now c.in_ok-before.before.now c.in_ok-before.after.now split.2 split.0 split.1
    (λ k l e. false≢true (sym c.if-contains.false ∙ contains.1 k l e)) lacks in
    rw c.from_residual-in_err-before-2.ensures none

pub returns : goal.returns
returns c =
    let split = c.in_ok-before.ensures.byte (omega arith) (λ w o h. h) in
    let contains = contains_char 62 c.in_ok-before.after.now c.contains.result c.contains.ensures.cases (omega arith) in
    let front = strip_suffix_char 45 c.in_ok-before.before.now (Some c.in_ok-before-2.before)
    c.in_ok-before-2.ensures.cases (omega arith) in
    let both : Some (without_spaces c.in_ok-before-2.before.now, without_spaces c.in_ok-before.after.now)
    ≡ ends_of c.args.text.now =
    both_ends c.args.text.now c.in_ok-before.before.now c.in_ok-before.after.now split.2 split.0 split.1
    (λ k l e. false≢true (sym c.if-contains.false ∙ contains.1 k l e)) c.in_ok-before-2.before.now front in
    rw (c.without_spaces.ensures, c.without_spaces-2.ensures) both
