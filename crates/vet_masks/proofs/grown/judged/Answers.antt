use Rattle.std.proofs.Common.{◌≡◌, ◌-◌, ℕ, Some, get_or, length, replicate, ap}
use Rattle.std.proofs.Common.{◌∙◌, arith, inr}
use Rattle.std.specs.BTreeMap.{get}
use Rattle.std.specs.FinSet as set
use Rattle.std.proofs.lemmas.List.{get_or_append_left, get_or-set_other, length-append, length-replicate, length-set}
use Rattle.std.proofs.lemmas.List.Elements.{All-head, All-tail}
use Rattle.std.proofs.lemmas.Map.Views.{Contains-from_lookup}
use Rattle.vet_base.specs.CriteriaSet.{has, Places}
use Rattle.vet_base.specs.Version.{VersionValue}
use Rattle.vet_base.specs.VersionOrder.{version_cmp}
use Rattle.vet_base.specs.VersionOrderLaws.{version_eq-Decides}
use Rattle.vet_entries.specs.Condemned.{condemned_by}
use Rattle.vet_masks.proofs.Indexing.{numbers_in}
use Rattle.vet_masks.proofs.Judging.{judged-kept, judged-next}
use Rattle.vet_masks.proofs.grown.judged.Goals as goal

pub versions-init : goal.versions-init
versions-init c =
    let held = c.args.held.now in
    let more = c.len.result - length held in
    let none : Places = set.empty in
    let entries : c.into_iter-version-iterator.result ≡ c.args.index.now.numbers.entries =
    c.into_iter-version-iterator.ensures.into_iter_gives ∙ c.iter-version-items.ensures.rest in
    record {
      next = tt;
      finite = tt;
      long = omega (
        arith,
        ap length c.in_ok-sets.ensures.ok,
        length-append held (replicate more none),
        length-replicate more none,
        c.requires.held,
        c.len.ensures,
        c.args.index.now.after.ok,
      );
      known = rw entries c.iter-version-items.ensures.found;
      held = λ n l. ap (λ s. get_or s n none) c.in_ok-sets.ensures.ok
          ∙ get_or_append_left held (replicate more none) none n l;
      each = λ v n e. inr (rw entries (Contains-from_lookup (λ x y h. (version_eq-Decides x y).0 h) v n
          c.args.index.now.numbers.entries e));
    }

pub index_mut-requires : goal.index_mut-requires
index_mut-requires c =
    let IsKnown = λ (e : VersionValue × ℕ). get version_cmp c.args.index.now.numbers e.0 ≡ Some e.1 in
    let at : VersionValue × ℕ = (c.in-Some.version.now, c.in-Some.number.now) in
    let known : IsKnown at = All-head IsKnown at c.next.new.self
    (rw c.in-Some.ensures.steps at c.versions.invariant.known) in
    omega (
      arith,
      c.requires.numbering.below c.in-Some.version.now c.in-Some.number.now known,
      c.versions.invariant.long,
      c.versions.sets.ok,
    )

pub versions-preserved-then-number-held : goal.versions-preserved-then-number-held
versions-preserved-then-number-held c =
    let IsKnown = λ (e : VersionValue × ℕ). get version_cmp c.args.index.now.numbers e.0 ≡ Some e.1 in
    let n = c.in-Some.number.now in
    let at : VersionValue × ℕ = (c.in-Some.version.now, n) in
    let inv = c.versions.invariant in
    let all = rw c.in-Some.ensures.steps at inv.known in
    let known : IsKnown at = All-head IsKnown at c.next.new.self all in
    let sets = c.versions.sets.items in
    let s = c.condemned_by.result in
    record {
      next = tt;
      finite = tt;
      long = length-set sets n s ∙ inv.long;
      known = All-tail IsKnown at c.next.new.self all;
      held = λ k l. get_or-set_other sets n k s set.empty (λ e. omega (arith, l, e, c.if-number-held.true))
          ∙ inv.held k l;
      each = judged-next (numbers_in c.args.index.now) (length c.args.index.now.after.items) c.requires.numbering
          (condemned_by c.args.violations.now) sets c.in-Some.version.now n known c.next.new.self
          (rw c.in-Some.ensures.steps at inv.each)
          (omega (arith, inv.long, c.requires.numbering.below c.in-Some.version.now n known)) s c.condemned_by.ensures;
    }

pub versions-preserved : goal.versions-preserved
versions-preserved c =
    let IsKnown = λ (e : VersionValue × ℕ). get version_cmp c.args.index.now.numbers e.0 ≡ Some e.1 in
    let v = c.in-Some.version.now in
    let n = c.in-Some.number.now in
    let inv = c.versions.invariant in
    let all = rw c.in-Some.ensures.steps at inv.known in
    let known : IsKnown (v, n) = All-head IsKnown (v, n) c.next.new.self all in
    record {
      next = tt;
      finite = tt;
      long = inv.long;
      known = All-tail IsKnown (v, n) c.next.new.self all;
      held = inv.held;
      each = judged-kept (numbers_in c.args.index.now) (length c.args.index.now.after.items) c.requires.numbering
          (condemned_by c.args.violations.now) c.versions.sets.items v n known c.next.new.self
          (rw c.in-Some.ensures.steps at inv.each)
          (λ q. ap (has q) (inv.held n c.if-number-held.false) ∙ c.requires.judged v n q known c.if-number-held.false);
    }
