use Rattle.std.proofs.Common.{◌≡◌, ℕ, inl, inr, Ordering, Less, Equal, Greater, true, false, get_or, refl, sym, ap, ◌∙◌}
use Rattle.std.proofs.Common.{arith}
use Rattle.std.specs.Ordering.{is_le, is_lt}
use Rattle.std.proofs.lemmas.Bool.{cases_Bool, true≢false}
use Rattle.std.proofs.lemmas.List.{get_or_default}
use Rattle.std.proofs.lemmas.List.Elements.{AllWithin-more}
use Rattle.vet_entries.specs.ByPackage.{stand}
use Rattle.vet_entries.proofs.Standing.{parted_le}
use Rattle.vet_entries.proofs.by_package.upper_from.Goals as goal

below : (r : Ordering) → is_lt r ≡ true → is_le r ≡ true
below Less h = refl
below Equal h = refl
below Greater h = h

pub places-init : goal.places-init
places-init c = (
  c.requires.bound,
  λ k d a b. below (stand c.args.entries.now c.args.name.now (get_or c.args.order.now k d)) (c.requires.low k d a b),
)

pub places-preserved : goal.places-preserved
places-preserved c =
    let order = c.args.order.now in
    let high = c.places.high in
    let at = stand c.args.entries.now c.args.name.now in (
      omega (arith, c.places-test.true),
      AllWithin-more (λ place. is_le (at place) ≡ true) order 0 high c.places.invariant.1 (λ d.
          ap (λ place. is_le (at place)) (get_or_default order high d 0 c.places-test.true)
          ∙ ap is_le (sym c.stand.ensures) ∙ sym c.is_le.ensures ∙ c.if-not-is_le.false),
    )

pub returns-then-not-is_le : goal.returns-then-not-is_le
returns-then-not-is_le c =
    let order = c.args.order.now in
    let high = c.places.high in
    let at = stand c.args.entries.now c.args.name.now in
    let parted = parted_le at order c.requires.rising in
    let after = λ (d : ℕ). ap (λ place. is_le (at place)) (get_or_default order high d 0 c.places-test.true)
    ∙ ap is_le (sym c.stand.ensures) ∙ sym c.is_le.ensures ∙ c.if-not-is_le.true in
    record {
      bound = c.places.invariant.0;
      point = (
        c.places.invariant.1,
        λ k d a b. elim (cases_Bool (is_le (at (get_or order k d)))) [
          | inl before ↦ absurd (true≢false (sym (parted high k d a b before) ∙ after d))
          | inr behind ↦ behind
        ],
      );
    }

pub returns : goal.returns
returns c = record {
  bound = c.places.invariant.0;
  point = (c.places.invariant.1, λ k d a b. absurd (omega (arith, a, b, c.places-test.false)));
}
