-- What a query over one table answers.
use Rattle.std.proofs.Common.{◌≡◌, ℕ, List, [], ◌∷◌, map, filter, Bool, true, false, cond, refl, sym, ap, subst, ◌∙◌}
use Rattle.std.proofs.lemmas.List.Sorted.{IsPermutation-map}
use Rattle.std.specs.List.{flat_map, list_all}
use Rattle.std.specs.List.Sorted.{IsPermutation, IsSorted}
use Rattle.sqlite_sql.specs.Program.{overlay}
use Rattle.sqlite_sql.specs.Query.{IsSureAnswer, Output, output, output_cmp}
use Rattle.sqlite_sql.specs.Term.{Term, eval_all, holds}
use Rattle.sqlite_trees.proofs.ListLemmas.{filter_as_flat_map, flat_map_same_on, map-flat_map, map-map}
use Rattle.sqlite_trees.specs.Tree.{Trees}
use Rattle.sqlite_value.specs.Order.{Row}
use Rattle.sqlite_value.specs.declared.keys.Key.{Key}
use Rattle.sqlite_value.specs.declared.value.Value.TheVariants.{Null}
use Rattle.vet_tables.proofs.TableMeanings.{over}

abbrev pub passes : List Term → Row → Row → Bool
passes tests params r = list_all (holds (params ∷ r ∷ [])) tests

kept_cells : {X Y : Type 0} (p : X → Bool) (f : X → Y) (xs : List X)
    → flat_map (λ x. cond (p x) (f x ∷ []) []) xs ≡ map f (filter p xs)
kept_cells p f xs = flat_map_same_on _ _ (λ x. go x (p x)) xs ∙ sym (map-flat_map f (λ x. cond (p x) (x ∷ []) []) xs)
    ∙ ap (map f) (sym (filter_as_flat_map p xs))
  where
    go : (x : _) (b : Bool) → cond b (f x ∷ []) [] ≡ map f (cond b (x ∷ []) [])
    go x true = refl
    go x false = refl

module _ (t : ℕ) (tests project : List Term) (order : List (Term × Key)) (db : Trees) (params : Row) where
  abbrev pub found : List Row
  found = filter (passes tests params) (db t)

  pub answered : overlay db [] t ≡ db t → (rows : List Row)
      → IsSureAnswer (over t tests project order) (overlay db []) params rows
      → IsPermutation (map (λ r. eval_all project (params ∷ r ∷ [])) found) rows
  answered stored rows sure =
      let a = sure Null in
      let all = a.grouped ∙ ap (flat_map (λ r. cond (passes tests params r) ((params ∷ r ∷ []) ∷ []) [])) stored
      ∙ kept_cells (passes tests params) (λ r. params ∷ r ∷ []) (db t) in
      let kept = a.distinct ∙ ap (map (output (over t tests project order))) all
      ∙ map-map (output (over t tests project order)) (λ r. params ∷ r ∷ []) found in
      let shows = IsPermutation-map (λ (o : Output). o.1) _ _ (subst (λ k. IsPermutation k a.ordered) kept a.same) in
      rw (
        a.shown,
        ← map-map (λ (o : Output). o.1)
            (λ r. output (over t tests project order) (params ∷ r ∷ [])) found,
      ) shows

  pub sorted : (rows : List Row) → IsSureAnswer (over t tests project order) (overlay db []) params rows
      → (kept : List Output) × (rows ≡ map (λ o. o.1) kept) × IsSorted (output_cmp (over t tests project order)) kept
  sorted rows sure = let a = sure Null in (a.ordered, a.shown, a.sorted)
