-- Sets of names, and the lists of their members (ours).
use Rattle.std.specs.Prelude.{ℕ, ◌≡◌, ◌||◌, Bool, true, false, List, [], ◌∷◌, Option, Some, None}
use Rattle.std.specs.Bool.{Decides}
use Rattle.std.specs.List.{list_any}
use Rattle.std.specs.Ordering.{nat_cmp, eq_by_cmp}
use Rattle.std.specs.Cmp.Lexicographic.{slice_cmp, nat_list_cmp_total, pointwise_decides, bytes_decides}
use Rattle.std.specs.FinSet as set
use Rattle.std.specs.FinMap as map
use Rattle.std.specs.FinMap.{nat_cmp-IsAntisymmetric, slice_cmp-IsAntisymmetric}
use Rattle.std.proofs.Common.{cond, is_some, refl, sym, ap, ◌∙◌}
use Rattle.std.specs.Cmp.{IsEquivalence, on_equiv}
use Rattle.std.specs.Cmp.Lexicographic.{lists_equiv, nat_list_eq_equiv}
use Rattle.vet_base.specs.Names.{NameSet, bare, members, same_names}

-- a name is found, paired with nothing, exactly if it is in the list
pub find-bare : (q : List ℕ) (xs : List (List ℕ))
    → map.find (slice_cmp nat_cmp) q (bare xs) ≡ cond (list_any (eq_by_cmp (slice_cmp nat_cmp) q) xs) (Some tt) None
find-bare q [] = refl
find-bare q (x ∷ xs) =
    elim (eq_by_cmp (slice_cmp nat_cmp) q x) as
    (λ b. cond b (Some tt) (map.find (slice_cmp nat_cmp) q (bare xs)) ≡ cond
    (b || list_any (eq_by_cmp (slice_cmp nat_cmp) q) xs) (Some tt) None) [
      | true ↦ refl
      | false ↦ find-bare q xs
    ]

-- a value is present exactly if this is true
some_marked : (b : Bool) → is_some (let o : Option (Unit {0}) = cond b (Some tt) None in o) ≡ b
some_marked true = refl
some_marked false = refl

-- a name is a member exactly if the set contains it
pub any-members : (s : NameSet) (n : List ℕ) → list_any (eq_by_cmp (slice_cmp nat_cmp) n) (members s) ≡ set.contains s n
any-members s n =
    let m = map.from_entries {R = slice_cmp nat_cmp} (bare (set.items s)) in
    sym (map.contains_key-keys m n)
    ∙ ap is_some (map.get-from_entries nat_list_cmp_total (bare (set.items s)) n ∙ find-bare n (set.items s))
    ∙ some_marked (list_any (eq_by_cmp (slice_cmp nat_cmp) n) (set.items s)) ∙ sym (set.contains-items s n)

-- sets with the same members are the same
pub same_members : (s t : NameSet) → members s ≡ members t → s ≡ t
same_members s t e =
    set.same_set nat_list_cmp_total (slice_cmp-IsAntisymmetric nat_cmp-IsAntisymmetric) s t
    (λ n. sym (any-members s n) ∙ ap (list_any (eq_by_cmp (slice_cmp nat_cmp) n)) e ∙ any-members t n)

-- a set has the same names only as itself
pub same_names-Decides : (s t : NameSet) → Decides (same_names s t) (s ≡ t)
same_names-Decides s t =
    let h = pointwise_decides bytes_decides (members s) (members t) in
    (λ same. same_members s t (h.0 same), λ e. h.1 (ap members e))

-- this is an equivalence
pub same_names_equiv : IsEquivalence same_names
same_names_equiv = on_equiv members (lists_equiv nat_list_eq_equiv)
