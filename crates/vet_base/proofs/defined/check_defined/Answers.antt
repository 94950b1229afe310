use Rattle.std.proofs.Common.{List, Err, ℕ, sym, ap, ◌∙◌, arith, inr}
use Rattle.std.specs.Option.{option_copied}
use Rattle.vet_base.specs.declared.refusal.Refusal.TheVariants.{UnknownCriterion}
use Rattle.vet_base.proofs.DefinedLaws.{known_by_set, told_built_in, told_unknown}
use Rattle.vet_base.proofs.defined.check_defined.Goals as goal

pub returns-in-Some : goal.returns-in-Some
returns-in-Some c =
    let found = sym (c.in-Some.ensures ∙ known_by_set c.args.criteria.now _ c.in_ok-known.ensures.names) in
    let h = c.in_ok-clone.ensures.cases in
    let copy = sym h.3 ∙ sym h.4.3 ∙ h.4.4 ∙ h.4.2 ∙ h.2 in
    inr (told_unknown c.args.criteria.now
    (omega (arith, c.if-len-gt-MOST_CRITERIA.false, c.len.ensures, c.in_ok-known.ensures.len)) c.in-Some.name.now found
    ∙ ap (λ (n : List ℕ). Err (UnknownCriterion n)) (sym copy))

pub returns-then-has_built_in : goal.returns-then-has_built_in
returns-then-has_built_in c =
    let none = sym (known_by_set c.args.criteria.now _ c.in_ok-known.ensures.names)
    ∙ sym c.least_undefined.ensures ∙ ap option_copied c.in_default.is in
    inr (told_built_in c.args.criteria.now
    (omega (arith, c.if-len-gt-MOST_CRITERIA.false, c.len.ensures, c.in_ok-known.ensures.len)) none
    (sym c.has_built_in.ensures ∙ c.if-has_built_in.true))
