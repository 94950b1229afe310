use Rattle.std.proofs.Common.{◌≡◌, ◌+◌, ◌<◌, ◌∙◌, sym, ap, arith, get_or, length, take}
use Rattle.std.proofs.lemmas.List.{length-map, take_more}
use Rattle.std.specs.BTreeMap.{get}
use Rattle.vet_base.specs.VersionOrder.{version_cmp}
use Rattle.vet_base.specs.declared.limits.TheConstants.{MOST_CRITERIA as most}
use Rattle.vet_masks.specs.Index.{ends_of, no_ends}
use Rattle.vet_masks.specs.Masks.{numbered_by, origin_at, paid, size, spent}
use Rattle.vet_masks.proofs.Indexing.{origin-same}
use Rattle.vet_masks.proofs.Onward.{onward-twice}
use Rattle.vet_masks.proofs.Sizes.{spent-push}
use Rattle.vet_masks.proofs.masks.pass_all_new.Goals as goal

pub steps-preserved : goal.steps-preserved
steps-preserved c =
    let inv = c.steps.invariant in
    let step = c.in_ok-pass_new.ensures in
    let index = c.args.index.now in
    let steps = c.args.looks.now.steps in
    let ends = index.ends.items in
    let passed = c.args.masks.now.passed.items in
    let used = size most index.used in
    let p = c.steps.place in
    let low : p < length steps = omega (arith, c.steps-test.true, c.len-place-end.ensures) in
    let long : p < length ends = omega (
      arith,
      low,
      ap length inv.search.indexed.ends,
      length-map steps (ends_of (get version_cmp index.numbers)),
    ) in
    let grown : spent used passed (take (p + 1) ends)
    ≡ spent used passed (take p ends) + paid used passed (origin_at (numbered_by index steps) p) =
    ap (spent used passed) (take_more ends p no_ends long) ∙
    spent-push used passed (take p ends) (get_or ends p no_ends)
    ∙ ap (λ o. spent used passed (take p ends) + paid used passed o)
    (sym (origin-same steps index inv.search.indexed p low)) in
    record {
      least = omega (arith, inv.least, step.least);
      steps = step.steps ∙ inv.steps;
      onward = onward-twice c.args.masks.now c.steps.masks c.pass_new.new.masks inv.onward step.onward;
      search = rw inv.steps at step.search;
      passing = rw inv.steps at step.passing;
      count = omega (arith, inv.count, grown, rw (inv.steps, inv.onward.passed) at step.count);
      bound = omega (arith, inv.bound, step.one);
    }
