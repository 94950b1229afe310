-- Members that stand in order, set one after another.
use Rattle.std.proofs.Common.{◌≡◌, ℕ, suc, List, [], ◌∷◌, ◌++◌, get_or, sym, ap, ◌∙◌, arith}
use Rattle.std.specs.Ordering.{is_gt, is_lt}
use Rattle.std.specs.List.{All}
use Rattle.std.specs.declared.cmp.Ordering.TheVariants.{Less}
use Rattle.std.proofs.lemmas.List.{append-nil, append_assoc}
use Rattle.std.proofs.lemmas.List.Elements.{All-append, All-cons, All-head, All-nil, All-tail}
use Rattle.vet_base.specs.Keyed.{IsByKey, all_set, is_before, is_behind, with_item}
use Rattle.vet_base.proofs.ListLemmas.{filter_drops, filter_keeps}
use Rattle.vet_base.proofs.Rising.{R}
use Rattle.vet_desk.specs.Desk.{own_name}

-- a name behind all others is set at the end
set_last : (held : List (List ℕ)) (name : List ℕ) → All (λ x. R x name ≡ Less) held
    → with_item R own_name held name ≡ held ++ name ∷ []
set_last held name below =
    let front = filter_keeps (is_before R own_name name) held (λ k d l. ap is_lt (below k d l)) in
    let back = filter_drops (is_behind R own_name name) held (λ k d l. ap is_gt (below k d l)) in
    λ i. front i ++ name ∷ back i

set_behind : (held more : List (List ℕ)) → All (λ x. All (λ y. R x y ≡ Less) more) held → IsByKey R own_name more
    → all_set R own_name held more ≡ held ++ more
set_behind held [] below up = sym (append-nil held)
set_behind held (name ∷ more) below up =
    let first : All (λ x. R x name ≡ Less) held = λ k d l. All-head (λ y. R (get_or held k d) y ≡ Less) name more
    (below k d l) in
    ap (λ xs. all_set R own_name xs more) (set_last held name first)
    ∙ set_behind (held ++ name ∷ []) more
    (All-append (λ x. All (λ y. R x y ≡ Less) more) held (name ∷ [])
    (λ k d l. All-tail (λ y. R (get_or held k d) y ≡ Less) name more (below k d l))
    (All-cons (λ x. All (λ y. R x y ≡ Less) more) name [] (λ k d l. up 0 (suc k) d (omega arith) (omega (arith, l)))
    (All-nil (λ x. All (λ y. R x y ≡ Less) more))))
    (λ i j d l m. up (suc i) (suc j) d (omega (arith, l)) (omega (arith, m)))
    ∙ append_assoc held (name ∷ []) more

-- names in order, set one after another, are these names
pub set_in_order : (names : List (List ℕ)) → IsByKey R own_name names → all_set R own_name [] names ≡ names
set_in_order names up = set_behind [] names (All-nil (λ x. All (λ y. R x y ≡ Less) names)) up
