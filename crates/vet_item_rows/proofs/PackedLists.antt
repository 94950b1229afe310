-- Packed lists, item by item.
use Rattle.std.proofs.Common.{◌≡◌, ◌<◌, ◌≤◌, ◌^◌, ◌++◌, ◌∷◌, ◌∙◌, List, [], false, length, take, drop, get_or, codes}
use Rattle.std.proofs.Common.{refl, sym, ap, subst, arith}
use Rattle.std.specs.Char.{is_ascii_digit}
use Rattle.std.specs.Fmt.{decimal}
use Rattle.std.specs.Str.Parse.{AllDigits}
use Rattle.std.proofs.Math.Seq.{drop-append_seam, get_or-append_seam, take-append_seam}
use Rattle.std.proofs.lemmas.List.{append_assoc, append_cancel_left, append-nil, length-append}
use Rattle.vet_base.specs.Words.{Bytes}
use Rattle.vet_item_rows.specs.Packed.{HasNoItem, packed, packed_item}
use Rattle.vet_item_rows.proofs.Packing.{in_front, item_is_short, numeral, taken_is, written_once}

pub packed-append : (xs ys : List Bytes) → packed (xs ++ ys) ≡ packed xs ++ packed ys
packed-append [] ys = refl
packed-append (x ∷ xs) ys =
    ap (λ (bs : Bytes). packed_item x ++ bs) (packed-append xs ys)
    ∙ sym (append_assoc (packed_item x) (packed xs) (packed ys))

pub packed_push : (items : List Bytes) (item : Bytes)
    → packed (items ++ (item ∷ [])) ≡ packed items ++ packed_item item
packed_push items item =
    packed-append items (item ∷ []) ∙ ap (λ (bs : Bytes). packed items ++ bs) (append-nil (packed_item item))

-- one item more is found
pub one_more : (bytes rest item behind : Bytes) (items : List Bytes) → bytes ≡ packed items ++ rest
    → rest ≡ packed_item item ++ behind → bytes ≡ packed (items ++ (item ∷ [])) ++ behind
one_more bytes rest item behind items found front =
    found ∙ ap (λ (bs : Bytes). packed items ++ bs) front
    ∙ sym (append_assoc (packed items) (packed_item item) behind)
    ∙ ap (λ (bs : Bytes). bs ++ behind) (sym (packed_push items item))

-- what stands behind an item is shorter
pub shorter : (rest item behind : Bytes) → rest ≡ packed_item item ++ behind → length behind < length rest
shorter rest item behind front =
    let whole = ap length (in_front rest item behind front) in
    let first = length-append (decimal (length item)) (codes ":" ++ (item ++ behind)) in
    let parts = length-append item behind in
    omega (arith, whole, first, parts)

-- in front of the same bytes stands one item
pub front_once : (a b r s : Bytes) → length (packed_item a ++ r) < 2 ^ 63 → packed_item a ++ r ≡ packed_item b ++ s
    → (a ≡ b) × (r ≡ s)
front_once a b r s small same = (a_is, r_is)
  where
    bytes : Bytes
    bytes = packed_item a ++ r

    digits : Bytes
    digits = decimal (length a)

    a_short : length a < 2 ^ 63
    a_short = (let le = item_is_short bytes a r refl in omega (arith, le, small))

    b_short : length b < 2 ^ 63
    b_short = (let le = item_is_short bytes b s same in omega (arith, le, small))

    by_a : bytes ≡ digits ++ (58 ∷ (a ++ r))
    by_a = in_front bytes a r refl

    by_b : bytes ≡ decimal (length b) ++ (58 ∷ (b ++ s))
    by_b = in_front bytes b s same

    taken : take (length digits) bytes ≡ digits
    taken = ap (take (length digits)) by_a ∙ take-append_seam digits (58 ∷ (a ++ r))

    within : length digits ≤ length bytes
    within = (let whole = ap length by_a ∙ length-append digits (58 ∷ (a ++ r)) in omega (arith, whole))

    all : AllDigits 10 (take (length digits) bytes)
    all = subst (AllDigits 10) (sym taken) (numeral (length a) (omega (arith, a_short)))

    stops : length digits < length bytes → is_ascii_digit (get_or bytes (length digits) 0) ≡ false
    stops _ =
        subst (λ c. is_ascii_digit c ≡ false)
        (sym (ap (λ (bs : Bytes). get_or bs (length digits) 0) by_a ∙ get_or-append_seam digits 58 (a ++ r) 0)) refl

    same_digits : digits ≡ decimal (length b)
    same_digits =
        sym taken
        ∙ taken_is bytes (decimal (length b)) (b ++ s) (length digits) by_b
        (numeral (length b) (omega (arith, b_short)))
        within all stops

    same_length : length a ≡ length b
    same_length = written_once (length a) (length b) (omega (arith, a_short)) (omega (arith, b_short)) same_digits

    same_rest : a ++ r ≡ b ++ s
    same_rest =
        let whole : digits ++ (58 ∷ (a ++ r)) ≡ digits ++ (58 ∷ (b ++ s)) =
        sym by_a ∙ by_b ∙ ap (λ (ds : Bytes). ds ++ (58 ∷ (b ++ s))) (sym same_digits) in
        cc (append_cancel_left digits (58 ∷ (a ++ r)) (58 ∷ (b ++ s)) whole)

    a_is : a ≡ b
    a_is =
        sym (take-append_seam a r) ∙ ap (take (length a)) same_rest ∙ ap (λ n. take n (b ++ s)) same_length
        ∙ take-append_seam b s

    r_is : r ≡ s
    r_is =
        sym (drop-append_seam a r) ∙ ap (drop (length a)) same_rest ∙ ap (λ n. drop n (b ++ s)) same_length
        ∙ drop-append_seam b s

-- where no item stands in front of the rest, and there is one, no list was packed
pub no_list : (items others : List Bytes) (rest : Bytes) → length (packed items ++ rest) < 2 ^ 63 → HasNoItem rest
    → 0 < length rest → packed items ++ rest ≡ packed others → ⊥
no_list [] [] rest small none some same = (let e = ap length same in omega (arith, e, some))
no_list [] (y ∷ ys) rest small none some same = none y (packed ys) same
no_list (x ∷ xs) [] rest small none some same =
    let whole = ap length same in
    let front = shorter ((packed_item x ++ packed xs) ++ rest) x (packed xs ++ rest)
    (append_assoc (packed_item x) (packed xs) rest) in
    omega (arith, whole, front)
no_list (x ∷ xs) (y ∷ ys) rest small none some same =
    let its = append_assoc (packed_item x) (packed xs) rest in
    let fits : length (packed_item x ++ (packed xs ++ rest)) < 2 ^ 63 =
    subst (λ (bs : Bytes). length bs < 2 ^ 63) its small in
    let both = front_once x y (packed xs ++ rest) (packed ys) fits (sym its ∙ same) in
    let less = shorter (packed_item x ++ (packed xs ++ rest)) x (packed xs ++ rest) refl in
    no_list xs ys rest (omega (arith, fits, less)) none some both.1

-- lists that are packed alike are the same
pub packed_once : (xs ys : List Bytes) → length (packed xs) < 2 ^ 63 → packed xs ≡ packed ys → xs ≡ ys
packed_once [] [] small same = refl
packed_once [] (y ∷ ys) small same =
    let whole = ap length same in
    let less = shorter (packed_item y ++ packed ys) y (packed ys) refl in
    absurd (omega (arith, whole, less))
packed_once (x ∷ xs) [] small same =
    let whole = ap length same in
    let less = shorter (packed_item x ++ packed xs) x (packed xs) refl in
    absurd (omega (arith, whole, less))
packed_once (x ∷ xs) (y ∷ ys) small same =
    let parts = front_once x y (packed xs) (packed ys) small same in
    let less = shorter (packed_item x ++ packed xs) x (packed xs) refl in
    let rest = packed_once xs ys (omega (arith, small, less)) parts.1 in
    ap (λ z. z ∷ xs) parts.0 ∙ ap (λ zs. y ∷ zs) rest
