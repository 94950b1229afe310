use Rattle.std.proofs.Common.{◌∙◌, arith, ap, length, [], ◌∷◌}
use Rattle.std.proofs.lemmas.List.{length-append, length-map}
use Rattle.std.specs.BTreeMap.{get}
use Rattle.vet_base.specs.VersionOrder.{version_cmp}
use Rattle.vet_base.specs.declared.limits.TheConstants.{MOST_CRITERIA as most}
use Rattle.vet_masks.specs.Index.{ends_of}
use Rattle.vet_masks.proofs.Indexing.{places-most}
use Rattle.vet_masks.proofs.Popped.{all-passed, popped, still-within}
use Rattle.vet_masks.proofs.Sizes.{filled-le, size-most, spent-le}
use Rattle.vet_masks.proofs.masks.settle.Goals as goal

pub pass_on-requires-clause-count : goal.pass_on-requires-clause-count
pass_on-requires-clause-count c =
    let index = c.args.index.now in
    let inv = c.versions.invariant in
    omega (
      arith,
      inv.count most,
      spent-le most most c.versions.masks.passed.items index.ends.items (omega arith) (λ i. size-most most _),
      ap length (inv.search.indexed.filed c.in-Some.from),
      places-most 0 c.in-Some.from index.ends.items,
      ap length inv.search.indexed.ends,
      length-map c.args.looks.now.steps (ends_of (get version_cmp index.numbers)),
      c.requires.count,
    )

pub versions-smaller : goal.versions-smaller
versions-smaller c =
    omega (
      arith,
      ap length c.in-Some.ensures.items,
      length-append c.pop.new.self.items (c.in-Some.from ∷ []),
      c.in_ok-pass_on.ensures.room,
      filled-le c.versions.masks.held.items,
      filled-le c.pass_on.new.masks.held.items,
      c.versions.invariant.search.held,
      c.in_ok-pass_on.ensures.search.held,
    )

pub versions-preserved : goal.versions-preserved
versions-preserved c =
    let inv = c.versions.invariant in
    let done = c.in_ok-pass_on.ensures in
    record {
      least = omega (arith, inv.least, done.least);
      steps = done.steps ∙ inv.steps;
      search = rw inv.steps at done.search;
      passing = rw inv.steps at done.passing;
      grows = λ q n h. done.grows q n (inv.grows q n h);
      waiting = done.waiting (popped c.in-Some.from c.versions.masks.held.items c.versions.masks.passed.items
          c.versions.masks.waiting.items c.pop.new.self.items c.in-Some.ensures.items inv.waiting);
      within = done.within (length c.args.index.now.after.items) inv.search.held
          (still-within c.in-Some.from (length c.args.index.now.after.items) c.versions.masks.waiting.items
          c.pop.new.self.items c.in-Some.ensures.items inv.within);
      count = λ u. omega (arith, inv.count u, done.count u);
    }

pub returns-clause-all : goal.returns-clause-all
returns-clause-all c =
    all-passed c.versions.masks.held.items c.versions.masks.passed.items c.versions.masks.waiting.items
    (omega (arith, c.versions.masks.waiting.ok, c.in_default.ensures.cases.0)) c.versions.invariant.waiting
