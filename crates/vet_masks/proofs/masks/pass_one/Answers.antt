use Rattle.std.proofs.Common.{◌<◌, List, length, get_or, sym, ap, ◌∙◌, refl, subst}
use Rattle.std.proofs.lemmas.Bool.{and_from}
use Rattle.std.proofs.lemmas.List.{length-map}
use Rattle.std.proofs.lemmas.List.Elements.{Contains-get_or}
use Rattle.vet_base.specs.CriteriaSet.{Places}
use Rattle.vet_masks.specs.Masks.{IsSound, no_step, numbered_by, open_by, origin_at, reached}
use Rattle.vet_masks.proofs.Taken.{added-then, sound-then}
use Rattle.vet_masks.proofs.masks.pass_one.Goals as goal

pub take-requires-clause-held : goal.take-requires-clause-held
take-requires-clause-held c = rw c.requires.search.held c.what_adds-added.ensures.within

pub returns-clause-search : goal.returns-clause-search
returns-clause-search c =
    let steps = numbered_by c.args.index.now c.args.looks.now.steps in
    let held = c.args.masks.now.held.items in
    let added = c.what_adds-added.result in
    let place = c.args.place in
    let at = c.what_adds-added.ensures.adds no_step in
    let low : place < length steps = rw length-map c.requires.place in
    let told = c.in_ok-take.ensures in
    let open_step = open_by c.args.index.now c.args.terms.now in
    let target : added.target < length held = rw c.requires.search.held c.what_adds-added.ensures.within in
    record {
      indexed = c.requires.search.indexed;
      bars = c.requires.search.bars;
      skipped = c.requires.search.skipped;
      held = told.onward.count ∙ c.requires.search.held;
      passed = ap length told.onward.passed ∙ c.requires.search.passed;
      sound = λ q. subst (λ (hs : List Places). IsSound steps (open_step q) (reached hs q)) (sym told.held)
          (sound-then held added.target added.criteria target steps open_step c.args.given.now (origin_at steps place)
          (get_or steps place no_step) (Contains-get_or steps place no_step low) at.target refl at.criteria
          c.requires.stands c.requires.search.sound q);
      within = λ q n h. told.onward.grows q n (c.requires.search.within q n
          (sym (ap (λ ps. reached ps q n) told.onward.passed) ∙ h));
    }

pub returns-clause-leads : goal.returns-clause-leads
returns-clause-leads c q h o =
    let held = c.args.masks.now.held.items in
    let added = c.what_adds-added.result in
    let at = c.what_adds-added.ensures.adds no_step in
    let target : added.target < length held = rw c.requires.search.held c.what_adds-added.ensures.within in
    rw at.target (ap (λ hs. reached hs q added.target) c.in_ok-take.ensures.held
    ∙ added-then held added.target added.criteria target q (at.criteria q ∙ and_from _ _ h o))
