-- What is left where a name is set in the list of a set.
use Rattle.std.proofs.Common.{◌≡◌, ℕ, List, subst, sym, ap, ◌∙◌}
use Rattle.std.specs.FinSet as set
use Rattle.std.proofs.lemmas.Cmp.{nat_list_cmp_total}
use Rattle.vet_base.specs.Keyed.{with_item}
use Rattle.vet_base.specs.Names.{IsRising, NameSet}
use Rattle.vet_base.proofs.KeyedLemmas.{IsByKey-with_item}
use Rattle.vet_base.proofs.Rising.{R, only_equal}
use Rattle.vet_base.proofs.SetsByKey.{from_list-with_item, own}

module _ (names grown : List (List ℕ)) (name : List ℕ) (is : grown ≡ with_item R own names name) where
  -- the list is still in order
  pub still_rising : IsRising names → IsRising grown
  still_rising rising =
      subst IsRising (sym is) (IsByKey-with_item R nat_list_cmp_total only_equal own names name rising)

  -- and is that of the set with the name
  pub set_grown : (s : NameSet) → set.from_list names ≡ s → set.from_list grown ≡ set.insert s name
  set_grown s same = ap set.from_list is ∙ from_list-with_item names name ∙ ap (λ t. set.insert t name) same
