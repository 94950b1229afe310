use Rattle.std.proofs.Common.{◌≡◌, ◌-◌, ◌≤◌, get_or, length, replicate, take, sym, ap, ◌∙◌, subst, arith}
use Rattle.std.proofs.lemmas.List.{length-append, length-map, length-replicate}
use Rattle.std.specs.FinSet as set
use Rattle.vet_base.specs.CriteriaSet.{Places}
use Rattle.vet_base.specs.declared.limits.TheConstants.{MOST_CRITERIA as most}
use Rattle.vet_masks.specs.Index.{ends_of}
use Rattle.vet_masks.specs.Masks.{IsDone, numbered_by, open_by, reached, size, spent}
use Rattle.vet_masks.proofs.Extended.{done-same, filled-same, stands-grows}
use Rattle.vet_masks.proofs.Indexing.{numbers_in}
use Rattle.vet_masks.proofs.Sizes.{size-le, size-most, spent-grows, spent-le}
use Rattle.vet_masks.proofs.Sounds.{sound-same}
use Rattle.vet_masks.proofs.reach.reach.Goals as goal

pub pass_all_new-requires-clause-search : goal.pass_all_new-requires-clause-search
pass_all_new-requires-clause-search c =
    let index = c.args.index.now in
    let steps = numbered_by index c.args.looks.now.steps in
    let open_step = open_by index c.args.terms.now in
    let all = c.in_ok-masks.masks.held.items in
    let sets = c.args.held.now in
    let more = c.len.result - length sets in
    let none : Places = set.empty in
    let passed : c.in_ok-masks.masks.passed.items ≡ all =
    c.in_ok-masks.ensures.passed ∙ sym c.in_ok-masks.ensures.held in
    let long : length all ≡ length index.after.items = omega (
      arith,
      ap length c.in_ok-masks.ensures.held,
      length-append sets (replicate more none),
      length-replicate more none,
      c.requires.held,
      c.len.ensures,
      index.after.ok,
    ) in
    record {
      indexed = c.requires.index;
      bars = c.requires.bars;
      skipped = c.requires.skipped;
      held = long;
      passed = ap length passed ∙ long;
      sound = λ q. sound-same steps (open_step q) (reached sets q) (reached all q) (c.requires.reaches.sound q)
          (λ v. filled-same sets all more c.in_ok-masks.ensures.held q v);
      within = λ q v h. ap (λ ps. reached ps q v) (sym passed) ∙ h;
    }

pub pass_all_new-requires-clause-passing : goal.pass_all_new-requires-clause-passing
pass_all_new-requires-clause-passing c =
    let index = c.args.index.now in
    let steps = numbered_by index c.args.looks.now.steps in
    let open_step = open_by index c.args.terms.now in
    let all = c.in_ok-masks.masks.held.items in
    let sets = c.args.held.now in
    let passed : c.in_ok-masks.masks.passed.items ≡ all =
    c.in_ok-masks.ensures.passed ∙ sym c.in_ok-masks.ensures.held in
    subst (λ ps. IsDone steps open_step all ps c.args.first) (sym passed)
    (done-same steps open_step sets all c.args.first
    (filled-same sets all (c.len.result - length sets) c.in_ok-masks.ensures.held) c.requires.reaches.done)

pub settle-requires-clause-passing : goal.settle-requires-clause-passing
settle-requires-clause-passing c = rw c.in_ok-pass_all_new.ensures.steps c.in_ok-pass_all_new.ensures.passing

pub returns-clause-reaches : goal.returns-clause-reaches
returns-clause-reaches c =
    let same = c.in_ok-pass_all_new.ensures.steps in
    let search = rw same at c.in_ok-settle.ensures.search in
    let passing = rw same at c.in_ok-settle.ensures.passing in
    let held = c.settle.new.masks.held.items in
    record {
      sound = search.sound;
      done = λ q p l st o. passing q p l
          (stands-grows held c.settle.new.masks.passed.items c.in_ok-settle.ensures.all q _ st) o;
    }

pub returns-clause-count : goal.returns-clause-count
returns-clause-count c =
    let index = c.args.index.now in
    let used = size most index.used in
    let ends = index.ends.items in
    let held = c.settle.new.masks.held.items in
    let passed = c.settle.new.masks.passed.items in
    let sets = c.args.held.now in
    let before = c.in_ok-masks.masks.passed.items in
    let search = rw c.in_ok-pass_all_new.ensures.steps at c.in_ok-settle.ensures.search in
    let spends : spent used passed ends ≤ spent used held ends = spent-grows used used passed held ends (omega arith)
    (λ i. size-le most (get_or passed i set.empty) (get_or held i set.empty) (λ q e. search.within q i e)) in
    let all_before : spent used sets (take c.args.first ends) ≤ spent used before (take c.args.first ends) =
    spent-grows used used sets before (take c.args.first ends) (omega arith)
    (λ i. size-le most (get_or sets i set.empty) (get_or before i set.empty)
    (λ q e. filled-same sets before (c.len.result - length sets) c.in_ok-masks.ensures.passed q i ∙ e)) in
    let settled = rw c.in_ok-pass_all_new.ensures.onward.passed at (c.in_ok-settle.ensures.count used) in
    omega (arith, spends, all_before, settled, c.in_ok-pass_all_new.ensures.count)

pub returns-clause-bound : goal.returns-clause-bound
returns-clause-bound c =
    let ends = c.args.index.now.ends.items in
    omega (
      arith,
      c.in_ok-pass_all_new.ensures.bound,
      c.in_ok-settle.ensures.count most,
      spent-le most most c.settle.new.masks.passed.items ends (omega arith) (λ i. size-most most _),
      ap length c.requires.index.ends,
      length-map c.args.looks.now.steps (ends_of (numbers_in c.args.index.now)),
    )
