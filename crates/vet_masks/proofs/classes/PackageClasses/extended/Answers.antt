use Rattle.std.proofs.Common.{◌≡◌, ◌≤◌, ◌<◌, ◌+◌, ◌*◌, get_or, length, take, sym, ap, subst, ◌∙◌, arith}
use Rattle.std.specs.FinSet as set
use Rattle.std.proofs.Math.Nat.{mul-le-mul}
use Rattle.std.proofs.lemmas.List.{length-map, length-take-le}
use Rattle.vet_base.specs.CriteriaSet.{has}
use Rattle.vet_base.specs.declared.limits.TheConstants.{MOST_CRITERIA as most}
use Rattle.vet_entries.specs.Condemned.{condemned_by}
use Rattle.vet_masks.specs.declared.index.Ends.{Ends}
use Rattle.vet_masks.specs.Classes.{held_by_all, held_if_any, spent_by}
use Rattle.vet_masks.specs.Exempt.{AreExemptNumbers}
use Rattle.vet_masks.specs.Index.{IsIndex, ends_of}
use Rattle.vet_masks.specs.Masks.{size}
use Rattle.vet_masks.proofs.Extended.{first-ends}
use Rattle.vet_masks.proofs.Growing.{found-few, looks-found, spent_by-append, spent_by-before}
use Rattle.vet_masks.proofs.Indexing.{ends-at, number-kept, numbers_in, target-below}
use Rattle.vet_masks.proofs.classes.PackageClasses.extended.Goals as goal

pub extended-requires-clause-count : goal.extended-requires-clause-count
extended-requires-clause-count c =
    let steps = c.args.steps.items in
    let p = c.args.self.now in
    let n = length p.looks.steps in
    omega (
      arith,
      found-few (take n steps) c.requires.found.0 p c.requires.found.1,
      length-take-le n steps c.requires.first,
      c.requires.first,
      c.args.steps.ok,
      c.args.steps.small,
      c.over_others-looks.ensures.count,
    )

pub judged-requires-clause-judged : goal.judged-requires-clause-judged
judged-requires-clause-judged c v n q e l =
    let p = c.args.self.now in
    let f = c.requires.found.1 in
    let held = c.as_slice.ensures.value in
    let low : n < length p.index.after.items = omega (arith, l, ap length held, f.judged.count) in
    let known = number-kept (numbers_in p.index) (numbers_in c.in_ok-index.index) (length p.index.after.items)
    (length c.in_ok-index.index.after.items) f.index.numbering c.in_ok-index.ensures.index.numbering
    c.in_ok-index.ensures.keeps v n e low in
    ap (λ s. has q (get_or s n set.empty)) held ∙ f.judged.judged v n q known ∙ c.requires.found.2 v n q known

pub extended-requires-2-clause-targets : goal.extended-requires-2-clause-targets
extended-requires-2-clause-targets c k d l =
    let steps = c.over_others-looks.result.steps in
    let index = c.in_ok-index.index in
    let h = c.in_ok-index.ensures.index in
    let low : k < length steps =
    omega (arith, l, ap length h.ends, length-map steps (ends_of (numbers_in index))) in
    omega (
      arith,
      ap (λ (e : Ends). e.target) (ends-at steps index h k low d),
      target-below steps index h k low,
    )

pub extended-requires-2-clause-numbers : goal.extended-requires-2-clause-numbers
extended-requires-2-clause-numbers c =
    let p = c.args.self.now in
    let index = c.in_ok-index.index in
    rw c.len-first.ensures (subst (λ es. AreExemptNumbers es p.exempt)
    (first-ends c.args.steps.items (length p.looks.steps) p.index index c.requires.found.1.index
    (rw c.over_others-looks.ensures.steps at c.in_ok-index.ensures.index) c.in_ok-index.ensures.keeps)
    c.requires.found.1.exempt)

pub all_clean-requires-clause-count : goal.all_clean-requires-clause-count
all_clean-requires-clause-count c =
    let steps = c.args.steps.items in
    let p = c.args.self.now in
    let n = length p.looks.steps in
    omega (
      arith,
      found-few (take n steps) c.requires.found.0 p c.requires.found.1,
      length-take-le n steps c.requires.first,
      c.requires.first,
      c.args.steps.ok,
      c.args.steps.small,
      c.over_others-looks.ensures.count,
      c.in_ok-index.ensures.count,
      ap length c.over_others-looks.ensures.steps,
    )

pub any_chains-requires-clause-count : goal.any_chains-requires-clause-count
any_chains-requires-clause-count c =
    let steps = c.args.steps.items in
    let p = c.args.self.now in
    let n = length p.looks.steps in
    let same : length c.extended.new.looks.steps ≡ length steps =
    ap length (c.in_ok-index.ensures.steps ∙ c.over_others-looks.ensures.steps) in
    let times : length c.in_ok-clean.clean.items * ((most + 1) * length steps) ≤ 129 * ((most + 1) * length steps) =
    mul-le-mul (omega (arith, c.in_ok-clean.ensures.most)) (omega arith) in
    omega (
      arith,
      times,
      rw same at c.in_ok-clean.ensures.bound,
      found-few (take n steps) c.requires.found.0 p c.requires.found.1,
      length-take-le n steps c.requires.first,
      c.requires.first,
      c.args.steps.ok,
      c.args.steps.small,
      c.over_others-looks.ensures.count,
      c.in_ok-index.ensures.count,
      ap length c.over_others-looks.ensures.steps,
    )

pub returns-clause-classes : goal.returns-clause-classes
returns-clause-classes c =
    let steps = c.args.steps.items in
    let p = c.args.self.now in
    let f = c.requires.found.1 in
    let n = length p.looks.steps in
    let condemned = condemned_by c.args.violations.now in
    let index = c.in_ok-index.index in
    let indexed : IsIndex steps index = rw c.over_others-looks.ensures.steps at c.in_ok-index.ensures.index in
    let same : c.extended.new.looks.steps ≡ steps =
    c.in_ok-index.ensures.steps ∙ c.over_others-looks.ensures.steps in
    let then_same : c.all_clean.new.looks.steps ≡ steps = c.in_ok-clean.ensures.steps ∙ same in
    let clean = rw same at c.in_ok-clean.ensures in
    let any = rw then_same at c.in_ok-any.ensures in
    let front : length (take n steps) ≡ n = length-take-le n steps c.requires.first in
    let u0 = size most p.index.used in
    let u = size most index.used in
    let ends0 = p.index.ends.items in
    let ends = index.ends.items in
    let any_was = held_if_any p.any in
    let clean_was = held_by_all p.clean.items in
    let any_now = held_if_any c.in_ok-any.any in
    let clean_now = held_by_all c.in_ok-clean.clean.items in
    record {
      found =
          record {
            seen = c.in_ok-any.ensures.steps ∙ then_same;
            starts = c.requires.starts;
            index = indexed;
            judged = c.in_ok-condemned.ensures.judged;
            exempt = c.in_ok-exempt.ensures.numbers;
            versions = c.in_ok-exempt.ensures.versions;
            few = c.in_ok-clean.ensures.few;
            below = c.in_ok-clean.ensures.most;
            clean = clean.clean condemned
                (record {
                  first = rw c.len-first.ensures c.requires.first;
                  found = rw c.len-first.ensures c.requires.found;
                  keeps = c.in_ok-index.ensures.keeps;
                  more = c.in_ok-index.ensures.more;
                  index = indexed;
                  judged = rw c.as_slice-2.ensures.value c.in_ok-condemned.ensures.judged;
                  exempt = c.in_ok-exempt.ensures.numbers;
                  versions = c.in_ok-exempt.ensures.versions;
                });
            any = any.any condemned
                (record {
                  first = rw c.len-first.ensures c.requires.first;
                  found = rw c.len-first.ensures c.requires.found;
                  keeps = c.in_ok-index.ensures.keeps;
                  more = c.in_ok-index.ensures.more;
                  index = indexed;
                  judged = rw c.as_slice-2.ensures.value c.in_ok-condemned.ensures.judged;
                  exempt = c.in_ok-exempt.ensures.numbers;
                  versions = c.in_ok-exempt.ensures.versions;
                });
            looks = looks-found p.looks.count c.extended.new.looks.count c.all_clean.new.looks.count
                c.any_chains.new.looks.count n (length steps) (spent_by u0 any_was ends0) (spent_by u0 clean_was ends0)
                (spent_by u any_was (take n ends)) (spent_by u clean_was (take n ends)) (spent_by u any_now ends)
                (spent_by u clean_now ends) _ _ (rw front at f.looks)
                (spent_by-append u0 any_was clean_was ends0)
                (spent_by-before steps n p.index index any_was f.index indexed c.in_ok-index.ensures.keeps)
                (spent_by-before steps n p.index index clean_was f.index indexed c.in_ok-index.ensures.keeps)
                (ap (λ k. c.extended.new.looks.count + k) (sym c.len-first.ensures) ∙ c.in_ok-index.ensures.count
                ∙ (λ i. c.over_others-looks.ensures.count i + length (c.over_others-looks.ensures.steps i)))
                (rw c.len-first.ensures at clean.count) (rw c.len-first.ensures at any.count)
                (spent_by-append u any_now clean_now ends);
          };
      enough = c.in_ok-clean.ensures.enough;
    }
