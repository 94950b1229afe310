use Rattle.std.proofs.Common.{◌≡◌, ℕ, Some, sym, ap, ◌∙◌, arith, inr}
use Rattle.std.specs.BTreeMap.{get}
use Rattle.std.specs.FinSet as set
use Rattle.std.proofs.lemmas.Bool.{false≢true}
use Rattle.std.proofs.lemmas.List.{get_or_default}
use Rattle.std.proofs.lemmas.List.Elements.{All-head, All-tail}
use Rattle.std.proofs.lemmas.Map.Views.{Contains-from_lookup}
use Rattle.vet_base.specs.CriteriaSet.{has}
use Rattle.vet_base.specs.CriteriaSetLaws.{same_places}
use Rattle.vet_base.specs.Version.{VersionValue}
use Rattle.vet_base.specs.VersionOrder.{version_cmp}
use Rattle.vet_base.specs.VersionOrderLaws.{version_eq-Decides}
use Rattle.vet_entries.specs.Condemned.{condemned_by}
use Rattle.vet_masks.proofs.Indexing.{numbers_in}
use Rattle.vet_masks.proofs.Judging.{judged-kept}
use Rattle.vet_masks.proofs.classes.PackageClasses.are_judged_by.Goals as goal

pub versions-init : goal.versions-init
versions-init c =
    let entries : c.into_iter-version-iterator.result ≡ c.args.self.now.index.numbers.entries =
    c.into_iter-version-iterator.ensures.into_iter_gives ∙ c.iter-version-items.ensures.rest in
    record {
      next = tt;
      finite = tt;
      known = rw entries c.iter-version-items.ensures.found;
      each = λ v n e. inr (rw entries (Contains-from_lookup (λ x y h. (version_eq-Decides x y).0 h) v n
          c.args.self.now.index.numbers.entries e));
    }

pub index-requires : goal.index-requires
index-requires c =
    let IsKnown = λ (e : VersionValue × ℕ). get version_cmp c.args.self.now.index.numbers e.0 ≡ Some e.1 in
    let at : VersionValue × ℕ = (c.in-Some.version.now, c.in-Some.number.now) in
    let known : IsKnown at = All-head IsKnown at c.next.new.self
    (rw c.in-Some.ensures.steps at c.versions.invariant.known) in
    let f = c.requires.2 in
    omega (arith, f.index.numbering.below at.0 at.1 known, f.judged.count, c.args.self.now.condemned.ok)

pub returns-then-not-is_same_set : goal.returns-then-not-is_same_set
returns-then-not-is_same_set c =
    let IsKnown = λ (e : VersionValue × ℕ). get version_cmp c.args.self.now.index.numbers e.0 ≡ Some e.1 in
    let v = c.in-Some.version.now in
    let n = c.in-Some.number.now in
    let sets = c.args.self.now.condemned.items in
    let known : IsKnown (v, n) = All-head IsKnown (v, n) c.next.new.self
    (rw c.in-Some.ensures.steps at c.versions.invariant.known) in
    let f = c.requires.2 in (
      λ e. absurd (false≢true e),
      λ h. sym c.if-not-is_same_set.true ∙ c.is_same_set.ensures.1 (same_places c.condemned_by-condemned.result
          c.index.result.now (λ q. c.condemned_by-condemned.ensures q ∙ sym (h.judged v n q known)
          ∙ ap (has q) (get_or_default sets n set.empty c.index.result.now
          (omega (arith, f.index.numbering.below v n known, f.judged.count)) ∙ sym c.index.ensures))),
    )

pub versions-preserved : goal.versions-preserved
versions-preserved c =
    let IsKnown = λ (e : VersionValue × ℕ). get version_cmp c.args.self.now.index.numbers e.0 ≡ Some e.1 in
    let v = c.in-Some.version.now in
    let n = c.in-Some.number.now in
    let sets = c.args.self.now.condemned.items in
    let all = rw c.in-Some.ensures.steps at c.versions.invariant.known in
    let known : IsKnown (v, n) = All-head IsKnown (v, n) c.next.new.self all in
    let f = c.requires.2 in
    record {
      next = tt;
      finite = tt;
      known = All-tail IsKnown (v, n) c.next.new.self all;
      each = judged-kept (numbers_in c.args.self.now.index) _ f.index.numbering (condemned_by c.args.violations.now)
          sets v n known c.next.new.self (rw c.in-Some.ensures.steps at c.versions.invariant.each)
          (λ q. ap (has q) (get_or_default sets n set.empty c.index.result.now
          (omega (arith, f.index.numbering.below v n known, f.judged.count)) ∙ sym c.index.ensures
          ∙ sym (c.is_same_set.ensures.0 c.if-not-is_same_set.false)) ∙ c.condemned_by-condemned.ensures q);
    }
