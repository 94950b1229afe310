-- Tables as the rows of the items of a list.
use Rattle.std.proofs.Common.{◌≡◌, inl, inr, List, [], ◌∷◌, ◌++◌, map, refl, sym, ap, subst, ◌∙◌, Some}
use Rattle.std.specs.List.{AllPairs, flat_map}
use Rattle.vet_base.specs.Items.{IsIn, SameItems}
use Rattle.vet_base.proofs.ItemLemmas.{in_all, in_append, in_back, in_front, in_map, map_in, pairs_head, pairs_tail}
use Rattle.vet_rows.proofs.Exchanges.{AreRowsOf}
use Rattle.vet_rows.proofs.KeyedExchanges.{IsOneForOne}
use Rattle.vet_rows.proofs.ListEdits.{flat_in, in_flat}

-- ---- views of tables as the rows of items

pub mapped_rows : {E R : Type 0} (row_of : E → R) (items : List E) (rest : List R)
    → AreRowsOf (λ x. row_of x ∷ []) items rest (map row_of items ++ rest)
mapped_rows row_of items rest = record {
  row_from = λ r i. elim (in_append (map row_of items) rest r i) [
    | inl here ↦ (let h = in_map row_of items r here in inl (h.0, (h.1.0, inl h.1.1)))
    | inr other ↦ inr other
  ];
  item_in = λ x r i j. elim j [
    | inl e ↦ in_front (map row_of items) rest r
        (subst (λ s. IsIn s (map row_of items)) (sym e) (map_in row_of items x i))
    | inr none ↦ absurd none
  ];
  rest_in = λ r i. in_back (map row_of items) rest r i;
}

pub only_mapped : {E R : Type 0} (row_of : E → R) (items : List E)
    → AreRowsOf (λ x. row_of x ∷ []) items [] (map row_of items)
only_mapped row_of items = record {
  row_from = λ r i. (let h = in_map row_of items r i in inl (h.0, (h.1.0, inl h.1.1)));
  item_in = λ x r i j. elim j [
    | inl e ↦ subst (λ s. IsIn s (map row_of items)) (sym e) (map_in row_of items x i)
    | inr none ↦ absurd none
  ];
  rest_in = λ r none. absurd none;
}

pub flat_rows : {E R : Type 0} (rows_of : E → List R) (items : List E) (rest : List R)
    → AreRowsOf rows_of items rest (rest ++ flat_map rows_of items)
flat_rows rows_of items rest = record {
  row_from = λ r i. elim (in_append rest (flat_map rows_of items) r i) [
    | inl other ↦ inr other
    | inr here ↦ inl (in_flat rows_of items r here)
  ];
  item_in = λ x r i j. in_back rest (flat_map rows_of items) r (flat_in rows_of items x r i j);
  rest_in = λ r i. in_front rest (flat_map rows_of items) r i;
}

pub only_flat : {E R : Type 0} (rows_of : E → List R) (items : List E)
    → AreRowsOf rows_of items [] (flat_map rows_of items)
only_flat rows_of items = record {
  row_from = λ r i. inl (in_flat rows_of items r i);
  item_in = λ x r i j. flat_in rows_of items x r i j;
  rest_in = λ r none. absurd none;
}

pub front_rows : {E R : Type 0} (rows_of : E → List R) (x : E) (rest : List R)
    → AreRowsOf rows_of (x ∷ []) rest (rows_of x ++ rest)
front_rows rows_of x rest = record {
  row_from = λ r i. elim (in_append (rows_of x) rest r i) [
    | inl here ↦ inl (x, (inl refl, here))
    | inr other ↦ inr other
  ];
  item_in = λ y r i j. elim i [
    | inl e ↦ in_front (rows_of x) rest r (subst (λ z. IsIn r (rows_of z)) e j)
    | inr none ↦ absurd none
  ];
  rest_in = λ r i. in_back (rows_of x) rest r i;
}

-- an item in place of one with the same rows leaves the rows
pub same_rows : {K E R : Type 0} (key : E → K) (rows_of : E → List R) (g c : E) (xs ys : List E) (rest old new : List R)
    → AreRowsOf rows_of xs rest old → AreRowsOf rows_of ys rest new → IsOneForOne key (Some g) (Some c) xs ys
    → rows_of g ≡ rows_of c → SameItems old new
same_rows key rows_of g c xs ys rest old new of_old of_new is same = (
  λ r i. elim (of_old.row_from r i) [
    | inl at ↦ elim (is.old_to at.0 at.1.0) [
      | inl there ↦ of_new.item_in at.0 r there at.1.1
      | inr goes ↦ of_new.item_in c r (is.come_in c refl)
          (subst (IsIn r) (ap rows_of (let e : at.0 ≡ g = cc goes in e) ∙ same) at.1.1)
    ]
    | inr other ↦ of_new.rest_in r other
  ],
  λ r i. elim (of_new.row_from r i) [
    | inl at ↦ elim (is.new_from at.0 at.1.0) [
      | inl comes ↦ of_old.item_in g r (is.gone_from g refl)
          (subst (IsIn r) (ap rows_of (let e : at.0 ≡ c = cc comes in e) ∙ sym same) at.1.1)
      | inr stays ↦ of_old.item_in at.0 r stays.0 at.1.1
    ]
    | inr other ↦ of_old.rest_in r other
  ],
)

-- items that differ in what is told of them are one where it is the same
pub told_once : {X Y : Type 0} (f : X → Y) (xs : List X) → AllPairs (λ a b. f a ≡ f b → ⊥) xs → (a b : X) → IsIn a xs
    → IsIn b xs → f a ≡ f b → a ≡ b
told_once f [] up a b i j same = absurd i
told_once f (x ∷ xs) up a b (inl i) (inl j) same = i ∙ sym j
told_once f (x ∷ xs) up a b (inl i) (inr j) same =
    absurd (in_all (λ y. f x ≡ f y → ⊥) xs (pairs_head (λ y z. f y ≡ f z → ⊥) x xs up) b j (ap f (sym i) ∙ same))
told_once f (x ∷ xs) up a b (inr i) (inl j) same =
    absurd (in_all (λ y. f x ≡ f y → ⊥) xs (pairs_head (λ y z. f y ≡ f z → ⊥) x xs up) a i
    (ap f (sym j) ∙ sym same))
told_once f (x ∷ xs) up a b (inr i) (inr j) same =
    told_once f xs (pairs_tail (λ y z. f y ≡ f z → ⊥) x xs up) a b i j same
