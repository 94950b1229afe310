use Rattle.std.proofs.Common.{◌≡◌, ◌&&◌, Bool, Option, Some, None, true, false, is_some, not, get_or, refl, sym, ap}
use Rattle.std.proofs.Common.{◌∙◌}
use Rattle.std.proofs.lemmas.Bool.{false≢true}
use Rattle.std.proofs.lemmas.List.{get_or_default}
use Rattle.vet_masks.specs.Exempt.{exempt_versions, is_in}
use Rattle.vet_masks.proofs.ExemptVersions.{numbers-more, numbers-same, place-is_in}
use Rattle.vet_masks.proofs.exempt.ExemptNumbers.add.Goals as goal

and_none : (e i : Bool) → i ≡ true → (e && not i) ≡ false
and_none true true h = refl
and_none false i h = refl
and_none true false h = absurd (false≢true h)

true_from_not : (e : Bool) → not e ≡ false → e ≡ true
true_from_not true h = refl
true_from_not false h = absurd (false≢true (sym h))

none-from : {X : Type 0} (o : Option X) → is_some o ≡ false → o ≡ None
none-from None h = refl
none-from (Some x) h = absurd (false≢true (sym h))

pub returns-then-not-ends-clause-numbers : goal.returns-then-not-ends-clause-numbers
returns-then-not-ends-clause-numbers c front h = numbers-same front c.args.ends.now c.args.self.now
    (λ i. c.if-not-ends.true i && not (is_in c.args.ends.now.target (exempt_versions front))) h

pub returns-then-is_some-clause-numbers : goal.returns-then-is_some-clause-numbers
returns-then-is_some-clause-numbers c front h =
    let e = c.args.ends.now in
    let there : is_in e.target (exempt_versions front) ≡ true = sym (place-is_in e.target (exempt_versions front))
    ∙ ap is_some (sym (h.numbers e.target)
    ∙ get_or_default c.args.self.now.numbers.items e.target None c.index.result.now c.requires.target
    ∙ sym c.index.ensures) ∙ sym c.is_some.ensures ∙ c.if-is_some.true in
    numbers-same front e c.args.self.now (and_none e.exempt _ there) h

pub returns-clause-numbers : goal.returns-clause-numbers
returns-clause-numbers c front h =
    let e = c.args.ends.now in
    let old = c.args.self.now in
    let empty : get_or old.numbers.items e.target None ≡ None =
    get_or_default old.numbers.items e.target None c.index.result.now c.requires.target ∙ sym c.index.ensures
    ∙ none-from c.index.result.now (sym c.is_some.ensures ∙ c.if-is_some.false) in
    numbers-more front e old h c.if-not-ends.false empty c.requires.target _ refl refl
