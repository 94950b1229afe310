-- What publisher records are after those of a package were set, and windows that end in time.
use Rattle.std.proofs.Common.{◌≡◌, ℕ, false, List, Ok, refl}
use Rattle.std.specs.Prelude.{IfOk, Result, Err}
use Rattle.std.specs.Ordering.{MatchOrdering, int_cmp, is_lt}
use Rattle.std.specs.Cmp.{int_ranks}
use Rattle.std.specs.Int.Signed.{◌<ℤ◌, ◌≤ℤ◌}
use Rattle.std.proofs.Common.{arith}
use Rattle.jiff_core.proofs.SignedLemmas.{signed_arith}
use Rattle.std.specs.Prelude.{ℤ}
use Rattle.std.specs.declared.cmp.Ordering.{Ordering}
use Rattle.std.specs.declared.cmp.Ordering.TheVariants.{Less, Equal, Greater}
use Rattle.std.proofs.lemmas.Bool.{ltb-false}
use Rattle.vet_base.specs.declared.limits.TheConstants.{MOST_PUBLISHERS}
use Rattle.vet_base.specs.declared.refusal.Limit.TheVariants as limit
use Rattle.vet_base.specs.declared.refusal.Refusal.TheVariants.{TooLarge}
use Rattle.vet_entries.specs.declared.publisher.Publisher.{Publisher}
use Rattle.vet_entries.specs.declared.publisher_records.PackagePublishers.{PackagePublishers}
use Rattle.vet_entries.specs.PublisherRecords.{IsByName, records_total, with_records}
use Rattle.vet_entries.specs.Publishers as Publishers
use Rattle.vet_entries.proofs.PublisherLaws.{All-with_records}
use Rattle.vet_register.specs.Sound.{ArePublishers}
use Rattle.vet_register.specs.State.{State}
use Rattle.vet_register.specs.Verdict.{publisher_limit}
use Rattle.vet_base.proofs.Telling.{not_refused}

-- what holds of every result holds of this one
pub whatever : {A E : Type 0} (r : Result A E) (P : Type 0) → P → IfOk r (λ _. P)
whatever (Ok x) P p = p
whatever (Err e) P p = tt

abbrev InOrder : PackagePublishers → Type 0
InOrder held = Publishers.IsInOrder held.publishers

-- publisher records that were set are in order and within the limit
pub are_publishers : (s : State) (name : List ℕ) (records : List Publisher) → ArePublishers s.held.facts.publishers →
    Publishers.IsInOrder records
    → IsByName (with_records name records s.held.facts.publishers) → publisher_limit s name records ≡ Ok tt →
    ArePublishers (with_records name records s.held.facts.publishers)
are_publishers s name records are ordered named limited =
    let packages = s.held.facts.publishers in
    record {
      by_name = named;
      in_order = All-with_records InOrder name records packages are.in_order (λ some. ordered);
      few = ltb-false MOST_PUBLISHERS (records_total (with_records name records packages))
          (not_refused _ (TooLarge limit.Publishers) limited);
    }

not_less : (x y : ℤ) (r : Ordering) → MatchOrdering r (x <ℤ y) (x ≡ y) (y <ℤ x) → (x <ℤ y → ⊥) → is_lt r ≡ false
not_less x y Less h never = absurd (never h)
not_less x y Equal h never = refl
not_less x y Greater h never = refl

-- what lies past a last number comes before no number up to it
pub not_before : (last x y : ℤ) → last <ℤ x → y ≤ℤ last → is_lt (int_cmp x y) ≡ false
not_before last x y past within = not_less x y (int_cmp x y) (int_ranks x y) (λ h. omega (arith, signed_arith))
