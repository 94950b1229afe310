use Rattle.std.proofs.Common.{◌++◌, ◌∷◌, ◌<◌, ◌-◌, [], None, Option, ℕ, get_or, length, replicate, take, sym, ap}
use Rattle.std.proofs.Common.{◌∙◌, subst, arith}
use Rattle.std.proofs.lemmas.List.{length-append, length-replicate, length-take-le, take_more}
use Rattle.vet_masks.specs.Exempt.{AreExemptNumbers}
use Rattle.vet_masks.proofs.Copies.{get_or-filled}
use Rattle.vet_masks.proofs.ExemptVersions.{most-behind}
use Rattle.vet_masks.proofs.exempt.ExemptNumbers.extended.Goals as goal

pub steps-init : goal.steps-init
steps-init c =
    let held = c.args.self.now.numbers.items in
    let more = c.len.result - length held in
    let none : Option ℕ = None in
    record {
      versions = omega (
        arith,
        ap length c.in_ok-exempt.ensures.numbers,
        length-append held (replicate more none),
        length-replicate more none,
        c.requires.versions,
        c.len.ensures,
        c.args.index.now.after.ok,
      );
      numbers =
          record {
            count = c.in_ok-exempt.ensures.count ∙ c.requires.numbers.count;
            numbers = λ n. ap (λ ns. get_or ns n None) c.in_ok-exempt.ensures.numbers
                ∙ get_or-filled none held more n ∙ c.requires.numbers.numbers n;
          };
    }

pub add-requires-clause-count : goal.add-requires-clause-count
add-requires-clause-count c =
    let ends = c.args.index.now.ends.items in
    omega (
      arith,
      c.steps.invariant.numbers.count,
      most-behind [] (take c.steps.place ends),
      length-take-le c.steps.place ends
          (omega (arith, c.steps-test.true, c.len-place-end.ensures, c.args.index.now.ends.ok)),
      c.args.index.now.ends.ok,
      c.args.index.now.ends.small,
    )

pub steps-preserved : goal.steps-preserved
steps-preserved c =
    let ends = c.args.index.now.ends.items in
    let low : c.steps.place < length ends =
    omega (arith, c.steps-test.true, c.len-place-end.ensures, c.args.index.now.ends.ok) in
    record {
      versions = c.add.ensures.versions ∙ c.steps.invariant.versions;
      numbers = subst (λ es. AreExemptNumbers es c.add.new.self)
          (sym (take_more ends c.steps.place c.index.result.now low
          ∙ ap (λ e. take c.steps.place ends ++ e ∷ []) (sym c.index.ensures)))
          (c.add.ensures.numbers (take c.steps.place ends) c.steps.invariant.numbers);
    }
