use Rattle.std.proofs.Common.{◌≡◌, ◌<◌, ◌≤◌, Some, None, is_some, get_or, length, sym, ap, ◌∙◌, arith}
use Rattle.std.specs.BTreeMap.{get}
use Rattle.std.specs.FinSet as set
use Rattle.std.specs.Ordering.{nat_cmp}
use Rattle.std.proofs.lemmas.Bool.{false≢true}
use Rattle.std.proofs.lemmas.List.{get_or_default, get_or_past}
use Rattle.vet_base.specs.CriteriaSet.{has}
use Rattle.vet_base.specs.VersionOrder.{version_cmp}
use Rattle.vet_masks.proofs.Whole.{vouched-named, reached-vouched}
use Rattle.vet_masks.proofs.search.Reached.at.Goals as goal

pub returns-then-number-len : goal.returns-then-number-len
returns-then-number-len c steps bar taken h q =
    let r = c.args.self.now in
    let n = c.in-Some.number in
    let known : get version_cmp r.index.numbers c.args.version.now ≡ Some n =
    sym c.get.ensures.value ∙ sym c.copied.ensures ∙ c.in-Some.is in
    let low : n < length r.held.items = omega (arith, c.if-number-len.true, c.len.ensures, r.held.ok) in
    let is : c.index.result.now ≡ get_or r.held.items n set.empty =
    c.index.ensures ∙ sym (get_or_default r.held.items n set.empty c.index.result.now low) in
    rw is (reached-vouched steps r.index bar taken r.held.items h.index h.reaches c.args.version.now n known q)

pub returns-else-number-len : goal.returns-else-number-len
returns-else-number-len c steps bar taken h q =
    let r = c.args.self.now in
    let n = c.in-Some.number in
    let known : get version_cmp r.index.numbers c.args.version.now ≡ Some n =
    sym c.get.ensures.value ∙ sym c.copied.ensures ∙ c.in-Some.is in
    let high : length r.held.items ≤ n = omega (arith, c.if-number-len.false, c.len.ensures, r.held.ok) in
    let is : c.empty-else-number-len.result ≡ get_or r.held.items n set.empty =
    c.empty-else-number-len.ensures ∙ sym (get_or_past r.held.items n set.empty high) in
    rw is (reached-vouched steps r.index bar taken r.held.items h.index h.reaches c.args.version.now n known q)

pub returns-in_default : goal.returns-in_default
returns-in_default c steps bar taken h q =
    let numbers = get version_cmp c.args.self.now.index.numbers in
    let none : numbers c.args.version.now ≡ None = sym c.get.ensures.value ∙ sym c.copied.ensures ∙ c.in_default.is in (
      λ e. absurd (false≢true (sym (ap (has q) c.empty.ensures ∙ set.contains-empty nat_cmp q) ∙ e)),
      λ v. absurd (false≢true (sym (ap is_some none)
          ∙ vouched-named numbers (length c.args.self.now.index.after.items) h.index.numbering
          steps h.index.named bar taken q c.args.version.now v)),
    )
