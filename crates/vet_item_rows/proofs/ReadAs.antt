-- What a packed list is read as.
use Rattle.std.proofs.Common.{◌≡◌, ◌<◌, ◌^◌, ◌∷◌, ◌∙◌, All, List, [], None, Option, Some, length, map, refl, sym, ap}
use Rattle.std.proofs.Common.{subst}
use Rattle.std.proofs.lemmas.List.Elements.{All-head, All-tail}
use Rattle.vet_base.specs.Words.{Bytes}
use Rattle.vet_item_rows.specs.Packed.{packed}
use Rattle.vet_item_rows.specs.PackedItems.{IsReadAs, all_read}
use Rattle.vet_item_rows.proofs.PackedLists.{packed_once}

-- bytes that are a packed list are read as what its items stand for
pub read_as : {X : Type 0} (read : Bytes → Option X) (bytes : Bytes) (items : List Bytes) → length bytes < 2 ^ 63
    → bytes ≡ packed items → (found : Option (List X)) → found ≡ all_read read items → IsReadAs read bytes found
read_as read bytes items small is (Some xs) e = (items, (is, sym e))
read_as read bytes items small is None e = λ others same.
    ap (all_read read) (sym (packed_once items others (subst (λ (bs : Bytes). length bs < 2 ^ 63) is small)
    (sym is ∙ same))) ∙ sym e

-- values of which each is read from its bytes
pub all_read_back : {X : Type 0} (bytes_of : X → Bytes) (read : Bytes → Option X) (values : List X)
    → All (λ x. read (bytes_of x) ≡ Some x) values → all_read read (map bytes_of values) ≡ Some values
all_read_back bytes_of read [] each = refl
all_read_back bytes_of read (x ∷ xs) each =
    rw (
      All-head (λ y. read (bytes_of y) ≡ Some y) x xs each,
      all_read_back bytes_of read xs (All-tail (λ y. read (bytes_of y) ≡ Some y) x xs each),
    ) refl

pub values_are_read_back : {X : Type 0} (bytes_of : X → Bytes) (read : Bytes → Option X) (values : List X)
    → All (λ x. read (bytes_of x) ≡ Some x) values → length (packed (map bytes_of values)) < 2 ^ 63
    → (found : Option (List X)) → IsReadAs read (packed (map bytes_of values)) found → found ≡ Some values
values_are_read_back bytes_of read values each small None is =
    sym (is (map bytes_of values) refl) ∙ all_read_back bytes_of read values each
values_are_read_back bytes_of read values each small (Some xs) (items, (same, e)) =
    sym e ∙ ap (all_read read) (sym (packed_once (map bytes_of values) items small same))
    ∙ all_read_back bytes_of read values each
