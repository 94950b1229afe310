-- What is found at names can be held, where what stands at each can be.
use Rattle.std.proofs.Common.{List, [], ◌∷◌, Option, Some, None}
use Rattle.std.specs.List.{All, cons_option, filter_map}
use Rattle.std.proofs.lemmas.List.Elements.{All-nil, All-cons, All-head, All-tail}
use Rattle.vet_item_rows.specs.Values.{MayBe}

module _ {X : Type 0} (P : X → Type 0) where
  one_found : (o : Option X) (xs : List X) → MayBe P o → All P xs → All P (cons_option o xs)
  one_found None xs none all = all
  one_found (Some x) xs one all = All-cons P x xs one all

  pub all_found : {Y : Type 0} (at : Y → Option X) (ys : List Y) → All (λ y. MayBe P (at y)) ys
      → All P (filter_map at ys)
  all_found at [] all = All-nil P
  all_found at (y ∷ ys) all =
      one_found (at y) (filter_map at ys) (All-head (λ z. MayBe P (at z)) y ys all)
      (all_found at ys (All-tail (λ z. MayBe P (at z)) y ys all))
