-- The function that compares packages with their records decides whether they are the same (ours).
use Rattle.std.specs.Prelude.{◌≡◌}
use Rattle.std.specs.Bool.{Decides}
use Rattle.std.specs.Cmp.Lexicographic.{bytes_decides}
use Rattle.std.proofs.Common.{ap}
use Rattle.std.proofs.lemmas.Bool.Decides.{Decides-and, Decides-like}
use Rattle.vet_entries.specs.declared.publisher_records.PackagePublishers.{PackagePublishers}
use Rattle.vet_entries.specs.PublishersLaws.{publishers_eq-Decides}
use Rattle.vet_entries.specs.PublisherRecords.{package_eq}

same_package : (a b : PackagePublishers) → (a.«package» ≡ b.«package») × (a.publishers ≡ b.publishers) → a ≡ b
same_package a b h = λ i. record { «package» = h.0 i; publishers = h.1 i }

pub package_eq-Decides : (a b : PackagePublishers) → Decides (package_eq a b) (a ≡ b)
package_eq-Decides a b =
    Decides-like _ (same_package a b) (λ e. (ap (λ h. h.«package») e, ap (λ h. h.publishers) e))
    (Decides-and _ _ (bytes_decides a.«package» b.«package») (publishers_eq-Decides a.publishers b.publishers))
