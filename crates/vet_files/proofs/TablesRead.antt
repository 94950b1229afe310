-- Tables by name that are read again as the lists of which they are written.
use Rattle.std.proofs.Common.{◌≡◌, ℕ, List, [], ◌∷◌, ◌++◌, map, refl, sym, ap, subst, ◌∙◌, inl, inr, append_assoc}
use Rattle.std.proofs.Common.{append-nil}
use Rattle.std.specs.Prelude.{Ok}
use Rattle.std.specs.List.{All}
use Rattle.std.proofs.lemmas.List.Elements.{All-head, All-tail}
use Rattle.toml.specs.Data.{Data}
use Rattle.vet_base.specs.Gives.{Told, ◌>>=◌}
use Rattle.vet_base.specs.Items.{IsIn, NamedOnce, SameItems}
use Rattle.vet_files.specs.declared.found.Found.{Found}
use Rattle.vet_files.specs.Lists.{nothing}
use Rattle.vet_files.specs.Tables.{by_name, members_from}
use Rattle.vet_files.specs.Walk.{each_member}
use Rattle.vet_files.proofs.NamedOnce.{by_name-sorted, sorted, sorted-All, sorted-SameItems}
use Rattle.vet_files.proofs.PackagesRead.{all_of}

-- ---- lists whose items are alike

-- each item of the one has its like in the other
abbrev pub Matched : {X A : Type 0} → (X → A → Type 0) → List X → List A → Type 0
Matched {X} {A} R xs ys = ((x : X) → IsIn x xs → (y : A) × (IsIn y ys × R x y))
    × ((y : A) → IsIn y ys → (x : X) × (IsIn x xs × R x y))

matched_cons : {X A : Type 0} (R : X → A → Type 0) (x : X) (xs : List X) (y : A) (ys : List A) → R x y → Matched R xs ys
    → Matched R (x ∷ xs) (y ∷ ys)
matched_cons {X} {A} R x xs y ys like rest = (
  λ z at. elim at [
    | inl same ↦ (y, (inl refl, subst (λ w. R w y) (sym same) like))
    | inr later ↦ let (w, (among, alike)) = rest.0 z later in (w, (inr among, alike))
  ],
  λ z at. elim at [
    | inl same ↦ (x, (inl refl, subst (R x) (sym same) like))
    | inr later ↦ let (w, (among, alike)) = rest.1 z later in (w, (inr among, alike))
  ],
)

-- the same items in another order have the same likes
matched_again : {X A : Type 0} (R : X → A → Type 0) (xs zs : List X) (ys : List A) → SameItems xs zs → Matched R zs ys
    → Matched R xs ys
matched_again R xs zs ys same matched = (
  λ x at. matched.0 x (same.0 x at),
  λ y at. let (x, (among, alike)) = matched.1 y at in (x, (same.1 x among, alike)),
)

-- items that are alike only where they are the same
pub same_items : {X : Type 0} (xs ys : List X) → Matched (λ x y. x ≡ y) xs ys → SameItems xs ys
same_items xs ys matched = (
  λ x at. let (y, (among, same)) = matched.0 x at in subst (λ z. IsIn z ys) (sym same) among,
  λ y at. let (x, (among, same)) = matched.1 y at in subst (λ z. IsIn z xs) same among,
)

-- ---- tables by name

module _ {X A : Type 0} (R : X → A → Type 0) (step : Found (List A) → List ℕ → Data → Told (Found (List A)))
    (name : X → List ℕ) (value : X → Data) where
  -- the value of an item is read as its like, whatever was found before
  abbrev pub IsNext : X → Type 0
  IsNext x = (a : A) × (R x a
      × ((found : List A) → step (all_of found) (name x) (value x) ≡ Ok (all_of (found ++ a ∷ []))))

  walk : (xs : List X) → All IsNext xs → (found : List A)
      → (ys : List A) × (Matched R xs ys
      × (each_member step (all_of found) (members_from (map (λ x. (name x, value x)) xs))
      ≡ Ok (all_of (found ++ ys))))
  walk [] next found = (
    [],
    (((λ x at. absurd at), (λ y at. absurd at)), ap (λ l. Ok (all_of l)) (sym (append-nil found))),
  )
  walk (x ∷ rest) next found =
      let (a, (like, first)) = All-head IsNext x rest next in
      let (ys, (matched, more)) = walk rest (All-tail IsNext x rest next) (found ++ a ∷ []) in (
        a ∷ ys,
        (
          matched_cons R x rest a ys like matched,
          ap (λ told. told >>= λ before. each_member step before (members_from (map (λ x. (name x, value x)) rest)))
              (first found) ∙ more
              ∙ ap (λ l. Ok (all_of l)) (append_assoc found (a ∷ []) ys),
        ),
      )

  -- the table of items with different names is read as their likes
  pub by_name-read : (xs : List X) → NamedOnce name xs → All IsNext xs
      → (ys : List A) × (Matched R xs ys
      × (each_member step nothing (by_name (map (λ x. (name x, value x)) xs)) ≡ Ok (all_of ys)))
  by_name-read xs once next =
      let (ys, (matched, told)) = walk (sorted name xs) (sorted-All name IsNext xs next) [] in (
        ys,
        (
          matched_again R xs (sorted name xs) ys (sorted-SameItems name xs once) matched,
          ap (each_member step nothing) (by_name-sorted name value xs) ∙ told,
        ),
      )
