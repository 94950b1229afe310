-- Items that stand in the order of their keys, set one after another.
use Rattle.std.proofs.Common.{◌≡◌, suc, List, [], ◌∷◌, ◌++◌, get_or, sym, ap, ◌∙◌, arith}
use Rattle.std.specs.List.{All}
use Rattle.std.specs.Ordering.{is_gt, is_lt}
use Rattle.std.specs.declared.cmp.Ordering.{Ordering}
use Rattle.std.specs.declared.cmp.Ordering.TheVariants.{Less}
use Rattle.std.proofs.lemmas.List.{append-nil, append_assoc}
use Rattle.std.proofs.lemmas.List.Elements.{All-append, All-cons, All-head, All-nil, All-tail}
use Rattle.vet_base.specs.Keyed.{IsByKey, all_set, is_before, is_behind, with_item}
use Rattle.vet_base.proofs.ListLemmas.{filter_drops, filter_keeps}

module _ {K E : Type 0} (cmp : K → K → Ordering) (key : E → K) where
  abbrev IsBefore : E → E → Type 0
  IsBefore x y = cmp (key x) (key y) ≡ Less

  -- an item behind all others is set at the end
  set_last : (held : List E) (e : E) → All (λ x. IsBefore x e) held → with_item cmp key held e ≡ held ++ e ∷ []
  set_last held e below =
      let front = filter_keeps (is_before cmp key (key e)) held (λ k d l. ap is_lt (below k d l)) in
      let back = filter_drops (is_behind cmp key (key e)) held (λ k d l. ap is_gt (below k d l)) in
      λ i. front i ++ e ∷ back i

  set_behind : (held more : List E) → All (λ x. All (IsBefore x) more) held → IsByKey cmp key more
      → all_set cmp key held more ≡ held ++ more
  set_behind held [] below up = sym (append-nil held)
  set_behind held (e ∷ more) below up =
      let first : All (λ x. IsBefore x e) held = λ k d l. All-head (IsBefore (get_or held k d)) e more (below k d l) in
      ap (λ xs. all_set cmp key xs more) (set_last held e first)
      ∙ set_behind (held ++ e ∷ []) more
      (All-append (λ x. All (IsBefore x) more) held (e ∷ [])
      (λ k d l. All-tail (IsBefore (get_or held k d)) e more (below k d l))
      (All-cons (λ x. All (IsBefore x) more) e [] (λ k d l. up 0 (suc k) d (omega arith) (omega (arith, l)))
      (All-nil (λ x. All (IsBefore x) more))))
      (λ i j d l m. up (suc i) (suc j) d (omega (arith, l)) (omega (arith, m)))
      ∙ append_assoc held (e ∷ []) more

  -- they are the items
  pub set_in_order : (items : List E) → IsByKey cmp key items → all_set cmp key [] items ≡ items
  set_in_order items up = set_behind [] items (All-nil (λ x. All (IsBefore x) items)) up
