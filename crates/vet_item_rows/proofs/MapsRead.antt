-- The items of a map, read one after another.
use Rattle.std.proofs.Common.{◌≡◌, ℕ, ◌<◌, ◌≤◌, ◌-◌, ◌∙◌, Bor, List, [], ◌∷◌, ◌++◌, Option, length, map}
use Rattle.std.proofs.Common.{drop, get_or}
use Rattle.std.proofs.Common.{take, refl, sym, ap, subst, arith}
use Rattle.std.proofs.lemmas.List.{append-nil, append_assoc, length-drop, length-map}
use Rattle.std.proofs.Math.Seq.{take-length}
use Rattle.std.proofs.lemmas.List.Elements.{All-head, All-tail}
use Rattle.vet_base.specs.Names.{NameSet}
use Rattle.vet_base.specs.Words.{Bytes}
use Rattle.vet_item_rows.specs.Columns.{packed_names}
use Rattle.vet_item_rows.specs.ReadBack.{IsWritten}
use Rattle.vet_item_rows.specs.ReadMaps.{AreMapItems, IsMapItem, in_turn}
use Rattle.vet_item_rows.specs.declared.read.gathered.WithKey.{WithKey}

-- what is lent
abbrev pub here : Bor Bytes → Bytes
here item = item.now

module _ {K : Type 0} (bytes_of : K → Bytes) (read : Bytes → Option K) where
  abbrev Item : Type 0
  Item = WithKey K NameSet

  abbrev Holds : Item → Type 0
  Holds = IsMapItem bytes_of read

  -- if the items are those of a map, these are some of it, and the rest stands for the others
  abbrev pub Left : List (Bor Bytes) → List (Bor Bytes) → List Item → Type 0
  Left items rest found =
      (xs : List Item) → AreMapItems bytes_of read xs → map here items ≡ in_turn bytes_of xs
      → (zs : List Item) × ((xs ≡ found ++ zs) × (AreMapItems bytes_of read zs × (map here rest ≡ in_turn bytes_of zs)))

  -- what stands in front of the rest is a key and its packed names
  module _ (d e : Bor Bytes) where
    abbrev IsFront : List (Bor Bytes) → Item → Type 0
    IsFront rest x =
        Holds x × (((get_or rest 0 d).now ≡ bytes_of x.key) × ((get_or rest 1 e).now ≡ packed_names x.item))

    front : (rest : List (Bor Bytes)) (zs : List Item) → 2 ≤ length rest → AreMapItems bytes_of read zs
        → map here rest ≡ in_turn bytes_of zs
        → (z : Item) × ((ws : List Item) × ((zs ≡ z ∷ ws) × (IsFront rest z × (AreMapItems bytes_of read ws
        × (map here (drop 2 rest) ≡ in_turn bytes_of ws)))))
    front [] zs long all stands = absurd (omega (arith, long))
    front (a ∷ []) zs long all stands = absurd (omega (arith, long))
    front (a ∷ (b ∷ rest)) [] long all stands = cc stands
    front (a ∷ (b ∷ rest)) (z ∷ zs) long all stands =
        let first = ap (λ (r : List Bytes). get_or r 0 []) stands in
        let second = ap (λ (r : List Bytes). get_or r 1 []) stands in (
          z,
          (
            zs,
            (
              refl,
              ((All-head Holds z zs all, (first, second)), (All-tail Holds z zs all, ap (drop 2) stands)),
            ),
          ),
        )

    -- so there is one more
    pub left_front : (items rest : List (Bor Bytes)) (found : List Item) → Left items rest found → 2 ≤ length rest
        → (xs : List Item) → AreMapItems bytes_of read xs → map here items ≡ in_turn bytes_of xs
        → (z : Item) × IsFront rest z
    left_front items rest found left long xs each is =
        let more = left xs each is in
        let next = front rest more.0 long more.1.1.0 more.1.1.1 in
        (next.0, next.1.1.1.0)

    -- which is read
    pub left_more : (items rest : List (Bor Bytes)) (found : List Item) (value : Item) → Left items rest found
        → 2 ≤ length rest
        → ((x : Item) → Holds x → (get_or rest 0 d).now ≡ bytes_of x.key → (get_or rest 1 e).now ≡ packed_names x.item
        → value ≡ x)
        → Left items (drop 2 rest) (found ++ value ∷ [])
    left_more items rest found value left long one xs each is =
        let more = left xs each is in
        let next = front rest more.0 long more.1.1.0 more.1.1.1 in
        let front_is = next.1.1.1.0 in
        let read_is : value ≡ next.0 = one next.0 front_is.0 front_is.1.0 front_is.1.1 in (
          next.1.0,
          (
            more.1.0 ∙ ap (λ zs. found ++ zs) next.1.1.0 ∙ ap (λ z. found ++ z ∷ next.1.0) (sym read_is)
                ∙ sym (append_assoc found (value ∷ []) next.1.0),
            next.1.1.1.1,
          ),
        )

  -- the rest, as a part of a slice
  pub left_rest : (items rest : List (Bor Bytes)) (m : ℕ) (found : List Item) → m ≡ length rest - 2
      → Left items (drop 2 rest) found → Left items (take m (drop 2 rest)) found
  left_rest items rest m found e left =
      subst (λ (r : List (Bor Bytes)). Left items r found)
      (sym (ap (λ k. take k (drop 2 rest)) (e ∙ sym (length-drop 2 rest)) ∙ take-length (drop 2 rest))) left

  -- in the end all are read
  pub left_none : (items rest : List (Bor Bytes)) (found : List Item) → Left items rest found → length rest < 2
      → (xs : List Item) → IsWritten (AreMapItems bytes_of read) (in_turn bytes_of) (map here items) xs → found ≡ xs
  left_none items rest found left short xs (each, is) =
      (let more = left xs each is in step more.0 more.1.0 more.1.1.1)
    where
      step : (zs : List Item) → xs ≡ found ++ zs → map here rest ≡ in_turn bytes_of zs → found ≡ xs
      step [] parts stands = sym (parts ∙ append-nil found)
      step (z ∷ zs) parts stands =
          let some = sym (length-map rest here) ∙ ap length stands in
          absurd (omega (arith, some, short))
