-- The place of a node that is an end of an edge.
use Rattle.std.proofs.Common.{◌≡◌, ◌⊎◌, ℕ, ◌+◌, ◌<◌, ◌≤◌, List, Result, Ok, Err, Some, get_or, length, sym, ap, subst}
use Rattle.std.proofs.Common.{◌∙◌, inl, inr}
use Rattle.std.proofs.Common.{Ordering, Less, Equal, Greater, arith}
use Rattle.std.specs.Cmp.{IsTotalOrder, on_total, then_total, tied_itself}
use Rattle.std.specs.Cmp.Lexicographic.{nat_list_cmp_total, slice_cmp}
use Rattle.std.specs.List.Sorted.{IsBinarySearchResult, IsPartitionPoint, IsSearchInRange, IsSortedBy}
use Rattle.std.specs.Ordering.{is_lt, nat_cmp, on, ordering_reverse, then_cmp}
use Rattle.std.specs.Result.{result_ok}
use Rattle.std.proofs.lemmas.Bool.{cases_lt, cases_order}
use Rattle.std.proofs.lemmas.List.Sorted.{searchable_from_sorted}
use Rattle.vet_base.specs.VersionOrder.{version_cmp}
use Rattle.vet_base.specs.VersionOrderLaws.{version_total}
use Rattle.vet_demand.specs.Needs.{no_node, node_at}
use Rattle.vet_demand.specs.Project.{AreInNodeOrder}
use Rattle.vet_demand.specs.declared.project.Node.{Node}
use Rattle.vet_item_rows.specs.ReadProjects.{end_of}
use Rattle.vet_item_rows.specs.declared.read.projects.End.{End}

-- the order of ends is that of nodes
abbrev pub end_cmp : End → End → Ordering
end_cmp = then_cmp (on (λ e. e.«package») (slice_cmp nat_cmp)) (on (λ e. e.version) version_cmp)

end_total : IsTotalOrder end_cmp
end_total = then_total (on_total (λ (e : End). e.«package») nat_list_cmp_total)
    (on_total (λ (e : End). e.version) version_total)

module _ (nodes : List Node) (end : End) (up : AreInNodeOrder nodes) where
  abbrev here : ℕ → Node
  here i = get_or nodes i no_node

  no_lesser : (r : Ordering) → r ≡ Equal → r ≡ Less → ⊥
  no_lesser r tie less = cc (sym tie ∙ less)

  no_greater : (r : Ordering) → r ≡ Equal → r ≡ Greater → ⊥
  no_greater r tie more = cc (sym tie ∙ more)

  module _ (place : ℕ) (within : place < length nodes) (is : end ≡ end_of (node_at nodes place)) where
    tied_there : end_cmp (end_of (here place)) end ≡ Equal
    tied_there = ap (end_cmp (end_of (here place))) is ∙ tied_itself end_total (end_of (here place))

    one_place : (i : ℕ) → i < length nodes → end_cmp (end_of (here i)) end ≡ Equal → i ≡ place
    one_place i inside tie = elim (cases_order i place) [
      | inl same ↦ same
      | inr (inl less) ↦ absurd (no_lesser (end_cmp (end_of (here i)) (end_of (here place))) tied
          (up i place no_node less within))
      | inr (inr more) ↦ absurd (no_lesser (end_cmp (end_of (here place)) (end_of (here i)))
          (end_total.antisymm (end_of (here place)) (end_of (here i)) ∙ ap ordering_reverse tied)
          (up place i no_node more inside))
    ]
      where
        tied : end_cmp (end_of (here i)) (end_of (here place)) ≡ Equal
        tied = subst (λ e. end_cmp (end_of (here i)) e ≡ Equal) is tie

    pub found_place : (r : Result ℕ ℕ) → IsSearchInRange r (length nodes)
        → IsBinarySearchResult (λ n. end_cmp (end_of n) end) nodes r → result_ok r ≡ Some place
    found_place (Ok i) inside at = ap Some (one_place i inside (at no_node))
    found_place (Err i) inside at = absurd (nowhere (cases_lt place i))
      where
        sorted : IsSortedBy (λ a b. is_lt (end_cmp (end_of a) (end_of b))) nodes
        sorted j d _ m = ap is_lt (end_total.antisymm (end_of (get_or nodes (j + 1) d)) (end_of (get_or nodes j d))
            ∙ ap ordering_reverse (up j (j + 1) d (omega arith) m))

        parts : IsPartitionPoint (λ n. end_cmp (end_of n) end ≡ Less) (λ n. end_cmp (end_of n) end ≡ Greater) nodes i
        parts = at (searchable_from_sorted end_total end_of nodes end sorted)

        nowhere : (place < i) ⊎ (i ≤ place) → ⊥
        nowhere (inl less) = no_lesser (end_cmp (end_of (here place)) end) tied_there
            (parts.0 place no_node (omega arith) less)
        nowhere (inr more) = no_greater (end_cmp (end_of (here place)) end) tied_there
            (parts.1 place no_node more within)
