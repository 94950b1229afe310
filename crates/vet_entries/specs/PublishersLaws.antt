-- Two lists of publisher records tie exactly if they are the same (ours).
use Rattle.std.specs.Prelude.{◌≡◌, List}
use Rattle.std.specs.Bool.{Decides}
use Rattle.std.specs.Cmp.{IsEquivalence, eq_by_cmp_equiv}
use Rattle.std.specs.Cmp.Lexicographic.{lists_equiv, pointwise_decides}
use Rattle.vet_entries.specs.declared.publisher.Publisher.{Publisher}
use Rattle.vet_entries.specs.PublisherLaws.{publisher_eq-Decides, publisher_total}
use Rattle.vet_entries.specs.Publishers.{publishers_eq}

pub publishers_eq_equiv : IsEquivalence publishers_eq
publishers_eq_equiv = lists_equiv (eq_by_cmp_equiv publisher_total)

-- two lists tie exactly if they are the same
pub publishers_eq-Decides : (a b : List Publisher) → Decides (publishers_eq a b) (a ≡ b)
publishers_eq-Decides = pointwise_decides publisher_eq-Decides
