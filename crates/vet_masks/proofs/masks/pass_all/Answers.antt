use Rattle.std.proofs.Common.{◌∙◌, take, refl, arith}
use Rattle.std.proofs.lemmas.List.{take_all}
use Rattle.std.proofs.lemmas.List.Elements.{All-more, All-weaker}
use Rattle.vet_masks.specs.Masks.{LeadsOn, numbered_by, open_by}
use Rattle.vet_masks.proofs.Onward.{onward-twice, onward-none}
use Rattle.vet_masks.proofs.masks.pass_all.Goals as goal

pub places-init : goal.places-init
places-init c = record {
  count = omega arith;
  least = omega arith;
  steps = refl;
  onward = onward-none c.args.masks.now;
  search = c.requires.search;
  leads = λ q h k d l. absurd (omega (arith, l));
}

pub places-preserved : goal.places-preserved
places-preserved c =
    let i = c.places.place-index in
    let steps = numbered_by c.args.index.now c.args.looks.now.steps in
    let open_step = open_by c.args.index.now c.args.terms.now in
    let old = c.places.masks.held.items in
    let new = c.pass_one.new.masks.held.items in
    let inv = c.places.invariant in
    let step = c.in_ok-pass_one.ensures in
    record {
      count = omega (arith, inv.count, step.count);
      least = omega (arith, inv.least, step.count);
      steps = step.steps ∙ inv.steps;
      onward = onward-twice c.args.masks.now c.places.masks c.pass_one.new.masks inv.onward step.onward;
      search = rw inv.steps at step.search;
      leads = λ q h. All-more (LeadsOn steps open_step new q) c.args.at_places.now i 0 c.places-test.true
          (All-weaker (LeadsOn steps open_step old q) (LeadsOn steps open_step new q)
          (λ p w o. step.onward.grows q _ (w o)) (take i c.args.at_places.now) (inv.leads q h))
          ((rw inv.steps at step.leads) q h);
    }

pub returns-clause-leads : goal.returns-clause-leads
returns-clause-leads c q h = rw
    (take_all c.places.place-index c.args.at_places.now c.places-test.false) at (c.places.invariant.leads q h)
