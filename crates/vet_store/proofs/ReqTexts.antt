-- A text that is read as a requirement of versions has ASCII bytes alone.
use Rattle.std.proofs.Common.{◌≡◌, ◌<◌, ◌+◌, ◌-◌, ◌*◌, ◌^◌, ◌==◌, ◌||◌, ◌++◌, ℕ, zero, suc, nat_le, nat_lt, Bool}
use Rattle.std.proofs.Common.{List, [], ◌∷◌, length, take, drop, Option, Some, None, Ok, Err, inl, inr, true, false}
use Rattle.std.proofs.Common.{refl, sym, ap, subst, arith}
use Rattle.std.proofs.lemmas.Bool.{cases_Bool, eqb-true}
use Rattle.std.proofs.lemmas.Bool.Decides.{nat_tests}
use Rattle.std.proofs.lemmas.List.{take-append-drop}
use Rattle.std.proofs.lemmas.Str.Ascii.{IsAscii-cons, IsAscii-nil}
use Rattle.std.specs.Char.{is_ascii_digit}
use Rattle.std.specs.Prelude.{IfOk, Result}
use Rattle.std.specs.Str.{IsAscii}
use Rattle.semver.proofs.Grammar.{bind-ok}
use Rattle.semver.proofs.Numerals.{ok-value}
use Rattle.semver.proofs.Readers.{identifier_ascii}
use Rattle.semver.specs.Parse.{Held, Minor, Parsed, Patch, build_part, comparator_in, comparator_of, comparator_or}
use Rattle.semver.specs.Parse.{digits_end, digits_from, end_error, first_or_equal, has, identifier_len, identifier_of}
use Rattle.semver.specs.Parse.{is_leading_zero, minor_of, minor_part, next_text, numeric, op_of, patch_number, patch_of}
use Rattle.semver.specs.Parse.{patch_part, pre_part, req_after, req_from, req_next, req_of, strip_spaces, wild_req}
use Rattle.semver.specs.Parse.{wildcard_of}
use Rattle.semver.specs.declared.Op.{Op}
use Rattle.semver.specs.declared.Op.TheVariants as op
use Rattle.semver.specs.declared.error.Error.{Error}
use Rattle.semver.specs.declared.error.Position.{Position}
use Rattle.semver.specs.declared.error.Position.TheVariants as place

ascii_append : (xs ys : List ℕ) → IsAscii xs → IsAscii ys → IsAscii (xs ++ ys)
ascii_append [] ys a b = b
ascii_append (x ∷ xs) ys a b = IsAscii-cons x (xs ++ ys) (a zero) (ascii_append xs ys (λ i. a (suc i)) b)

-- what is read, where it is this
told : {A : Type 0} (left : A → List ℕ) (x y : A) → ◌≡◌ {A = Result A Error} (Ok x) (Ok y) → IsAscii (left y)
    → IsAscii (left x)
told left x y same low = subst IsAscii (sym (ap left (ok-value x y same))) low

-- ---- what is left of a text by a reader is ASCII only where the text is

ascii_strip : (xs : List ℕ) → IsAscii (strip_spaces xs) → IsAscii xs
unfolding strip_spaces
ascii_strip [] h = IsAscii-nil
ascii_strip (b ∷ rest) h = elim (cases_Bool (b == 32)) [
  | inl space ↦
      let same = eqb-true b 32 space in
      IsAscii-cons b rest (omega (arith, same)) (ascii_strip rest (rw space at h))
  | inr other ↦ rw other at h
]

ascii_none : (pos : Position) (xs : List ℕ) (r : ℕ × List ℕ) → end_error pos xs ≡ Ok r → IsAscii xs
ascii_none pos [] r h = cc h
ascii_none pos (b ∷ rest) r h = cc h

ascii_end : (pos : Position) (value len : ℕ) (xs : List ℕ) (r : ℕ × List ℕ) → digits_end pos value len xs ≡ Ok r
    → IsAscii r.1 → IsAscii xs
ascii_end pos value len xs r h low = elim (cases_Bool (nat_lt 0 len)) [
  | inl some ↦ told (λ (q : ℕ × List ℕ). q.1) _ _ (rw some at h) low
  | inr none ↦ ascii_none pos xs r (rw none at h)
]

ascii_digits : (pos : Position) (value len : ℕ) (xs : List ℕ) (r : ℕ × List ℕ) → digits_from pos value len xs ≡ Ok r
    → IsAscii r.1 → IsAscii xs
unfolding digits_from
ascii_digits pos value len [] r h low = IsAscii-nil
ascii_digits pos value len (b ∷ rest) r h low = elim (cases_Bool (is_ascii_digit b)) [
  | inl digit ↦ elim (cases_Bool (is_leading_zero value len)) [
    | inl bad ↦ cc (rw (digit, bad) at h)
    | inr fine ↦ elim (cases_Bool (nat_le (2 ^ 64) (value * 10 + (b - 48)))) [
      | inl big ↦ cc (rw (digit, fine, big) at h)
      | inr fits ↦
          let small : b < 128 = grind (arith, nat_tests, digit) in
          IsAscii-cons b rest small (ascii_digits pos (value * 10 + (b - 48)) (len + 1) rest r
          (rw (digit, fine, fits) at h) low)
    ]
  ]
  | inr other ↦ ascii_end pos value len (b ∷ rest) r (rw other at h) low
]

ascii_numeric : (pos : Position) (xs : List ℕ) (r : ℕ × List ℕ) → numeric pos xs ≡ Ok r → IsAscii r.1 → IsAscii xs
ascii_numeric pos xs r h low = ascii_digits pos 0 0 xs r h low

ascii_identifier : (pos : Position) (xs : List ℕ) (r : List ℕ × List ℕ) → identifier_of pos xs ≡ Ok r → IsAscii r.1
    → IsAscii xs
ascii_identifier pos xs r h low =
    let b = bind-ok (identifier_len pos xs) _ r h in
    elim (cases_Bool (b.0 == 0)) [
      | inl none ↦ cc (rw none at b.2)
      | inr some ↦
          let p = ok-value _ _ (rw some at b.2) in
          let front = subst (λ (n : Result ℕ Error). IfOk n (λ n. IsAscii (take n xs))) b.1
          (identifier_ascii (identifier_len pos xs) pos xs refl) in
          let back = subst IsAscii (sym (ap (λ (q : List ℕ × List ℕ). q.1) p)) low in
          subst IsAscii (take-append-drop b.0 xs) (ascii_append (take b.0 xs) (drop b.0 xs) front back)
    ]

ascii_two : (one two : Op) (xs : List ℕ) → IsAscii (first_or_equal one two xs).1 → IsAscii xs
ascii_two one two [] h = IsAscii-nil
ascii_two one two (b ∷ rest) h = elim (cases_Bool (b == 61)) [
  | inl equal ↦ (let same = eqb-true b 61 equal in IsAscii-cons b rest (omega (arith, same)) (rw equal at h))
  | inr other ↦ rw other at h
]

ascii_op : (xs : List ℕ) → IsAscii (op_of xs).1 → IsAscii xs
ascii_op [] h = IsAscii-nil
ascii_op (a ∷ rest) h = elim (cases_Bool (a == 61)) [
  | inl one ↦ (let same = eqb-true a 61 one in IsAscii-cons a rest (omega (arith, same)) (rw one at h))
  | inr not_one ↦ elim (cases_Bool (a == 62)) [
    | inl two ↦
        let same = eqb-true a 62 two in
        IsAscii-cons a rest (omega (arith, same)) (ascii_two op.Greater op.GreaterEq rest (rw (not_one, two) at h))
    | inr not_two ↦ elim (cases_Bool (a == 60)) [
      | inl three ↦
          let same = eqb-true a 60 three in
          IsAscii-cons a rest (omega (arith, same)) (ascii_two op.Less op.LessEq rest
          (rw (not_one, not_two, three) at h))
      | inr not_three ↦ elim (cases_Bool (a == 126)) [
        | inl four ↦
            let same = eqb-true a 126 four in
            IsAscii-cons a rest (omega (arith, same)) (rw (not_one, not_two, not_three, four) at h)
        | inr not_four ↦ elim (cases_Bool (a == 94)) [
          | inl five ↦
              let same = eqb-true a 94 five in
              IsAscii-cons a rest (omega (arith, same)) (rw (not_one, not_two, not_three, not_four, five) at h)
          | inr not_five ↦ rw (not_one, not_two, not_three, not_four, not_five) at h
        ]
      ]
    ]
  ]
]

ascii_wildcard : (xs : List ℕ) (w : ℕ × List ℕ) → wildcard_of xs ≡ Some w → IsAscii w.1 → IsAscii xs
ascii_wildcard [] w h low = IsAscii-nil
ascii_wildcard (b ∷ rest) w h low = elim (cases_Bool (b == 42 || b == 120 || b == 88)) [
  | inl star ↦
      let small : b < 128 = grind (arith, nat_tests, star) in
      let it : (b, rest) ≡ w = some_value (b, rest) w (rw star at h) in
      IsAscii-cons b rest small (subst IsAscii (sym (ap (λ (q : ℕ × List ℕ). q.1) it)) low)
  | inr other ↦ cc (rw other at h)
]
  where
    some_value : (p q : ℕ × List ℕ) → ◌≡◌ {A = Option (ℕ × List ℕ)} (Some p) (Some q) → p ≡ q
    some_value p q same = cc same

-- ---- the parts of a comparator

ascii_minor : (default : Bool) (o : Op) (xs : List ℕ) (w : Option (ℕ × List ℕ)) (m : Minor) → wildcard_of xs ≡ w
    → minor_of default o xs w ≡ Ok m → IsAscii m.4 → IsAscii xs
ascii_minor default o xs (Some w) m is h low =
    ascii_wildcard xs w is (told (λ (n : Minor). n.4) _ _ h low)
ascii_minor default o xs None m is h low =
    let x = bind-ok (numeric place.Minor xs) _ m h in
    ascii_numeric place.Minor xs x.0 x.1 (told (λ (n : Minor). n.4) _ _ x.2 low)

ascii_minor_part : (default : Bool) (o : Op) (xs : List ℕ) (m : Minor) → minor_part default o xs ≡ Ok m → IsAscii m.4
    → IsAscii xs
ascii_minor_part default o [] m h low = IsAscii-nil
ascii_minor_part default o (b ∷ rest) m h low = elim (cases_Bool (b == 46)) [
  | inl dot ↦
      let same = eqb-true b 46 dot in
      IsAscii-cons b rest (omega (arith, same)) (ascii_minor default o rest (wildcard_of rest) m refl (rw dot at h) low)
  | inr other ↦ told (λ (n : Minor). n.4) _ _ (rw other at h) low
]

ascii_patch : (o : Op) (wild : Bool) (xs : List ℕ) (w : Option (ℕ × List ℕ)) (default : Bool) (p : Patch)
    → wildcard_of xs ≡ w → patch_number o wild xs w default ≡ Ok p → IsAscii p.3 → IsAscii xs
ascii_patch o wild xs (Some w) default p is h low =
    ascii_wildcard xs w is (told (λ (n : Patch). n.3) _ _ h low)
ascii_patch o true xs None default p is h low = cc h
ascii_patch o false xs None default p is h low =
    let x = bind-ok (numeric place.Patch xs) _ p h in
    ascii_numeric place.Patch xs x.0 x.1 (told (λ (n : Patch). n.3) _ _ x.2 low)

ascii_patch_of : (default : Bool) (o : Op) (wild : Bool) (pos : Position) (xs : List ℕ) (p : Patch)
    → patch_of default o wild pos xs ≡ Ok p → IsAscii p.3 → IsAscii xs
ascii_patch_of default o wild pos [] p h low = IsAscii-nil
ascii_patch_of default o wild pos (b ∷ rest) p h low = elim (cases_Bool (b == 46)) [
  | inl dot ↦
      let same = eqb-true b 46 dot in
      IsAscii-cons b rest (omega (arith, same))
      (ascii_patch o wild rest (wildcard_of rest) default p refl (rw dot at h) low)
  | inr other ↦ told (λ (n : Patch). n.3) _ _ (rw other at h) low
]

abbrev Pre : Type 0
Pre = List ℕ × Position × List ℕ

ascii_pre : (is_there : Bool) (pos : Position) (xs : List ℕ) (e : Pre) → pre_part is_there pos xs ≡ Ok e
    → IsAscii e.2 → IsAscii xs
ascii_pre false pos xs e h low = told (λ (n : Pre). n.2) _ _ h low
ascii_pre true pos [] e h low = IsAscii-nil
ascii_pre true pos (b ∷ rest) e h low = elim (cases_Bool (b == 45)) [
  | inl dash ↦
      let same = eqb-true b 45 dash in
      let x = bind-ok (identifier_of place.Pre rest) _ e (rw dash at h) in
      IsAscii-cons b rest (omega (arith, same)) (ascii_identifier place.Pre rest x.0 x.1
      (told (λ (n : Pre). n.2) _ _ x.2 low))
  | inr other ↦ told (λ (n : Pre). n.2) _ _ (rw other at h) low
]

ascii_build : (is_there : Bool) (pos : Position) (xs : List ℕ) (e : Position × List ℕ)
    → build_part is_there pos xs ≡ Ok e → IsAscii e.1 → IsAscii xs
ascii_build false pos xs e h low =
    told (λ (n : Position × List ℕ). n.1) _ _ h low
ascii_build true pos [] e h low = IsAscii-nil
ascii_build true pos (b ∷ rest) e h low = elim (cases_Bool (b == 43)) [
  | inl plus ↦
      let same = eqb-true b 43 plus in
      let x = bind-ok (identifier_of place.Build rest) _ e (rw plus at h) in
      IsAscii-cons b rest (omega (arith, same)) (ascii_identifier place.Build rest x.0 x.1
      (told (λ (n : Position × List ℕ). n.1) _ _ x.2 low))
  | inr other ↦ told (λ (n : Position × List ℕ). n.1) _ _ (rw other at h) low
]

ascii_comparator : (input : List ℕ) (p : Parsed) → comparator_of input ≡ Ok p → IsAscii p.6 → IsAscii input
ascii_comparator input p h low =
    let default = length input == length (op_of input).1 in
    let a = bind-ok (numeric place.Major (strip_spaces (op_of input).1)) _ p h in
    let m = bind-ok (minor_part default (op_of input).0 a.0.1) _ p a.2 in
    let q = bind-ok (patch_part default m.0) _ p m.2 in
    let e = bind-ok (pre_part (has q.0.1) q.0.2 q.0.3) _ p q.2 in
    let b = bind-ok (build_part (has q.0.1) e.0.1 e.0.2) _ p e.2 in
    let parsed : Parsed = (q.0.0, a.0.0, m.0.1, q.0.1, e.0.0, b.0.0, strip_spaces b.0.1) in
    let left = ascii_strip b.0.1 (told (λ (n : Parsed). n.6) parsed p b.2 low) in
    let built = ascii_build (has q.0.1) e.0.1 e.0.2 b.0 b.1 left in
    let pre = ascii_pre (has q.0.1) q.0.2 q.0.3 e.0 e.1 built in
    let patch = ascii_patch_of default m.0.0 m.0.2 m.0.3 m.0.4 q.0 q.1 pre in
    let minor = ascii_minor_part default (op_of input).0 a.0.1 m.0 m.1 patch in
    let number = ascii_numeric place.Major (strip_spaces (op_of input).1) a.0 a.1 minor in
    ascii_op input (ascii_strip (op_of input).1 number)

ascii_or : (r : Result Parsed Error) (input : List ℕ) (p : Parsed) → comparator_of input ≡ r
    → comparator_or r input ≡ Ok p → IsAscii p.6 → IsAscii input
ascii_or (Ok q) input p is h low =
    ascii_comparator input q is (told (λ (n : Parsed). n.6) _ _ h low)
ascii_or (Err e) input p is h low = cc h

-- ---- one comparator after another

ascii_last : (pos : Position) (xs : List ℕ) → next_text pos xs ≡ Ok None → IsAscii xs
ascii_last pos [] h = IsAscii-nil
ascii_last pos (b ∷ rest) h = elim (cases_Bool (b == 44)) [
  | inl comma ↦ cc (rw comma at h)
  | inr other ↦ cc (rw other at h)
]

ascii_next : (pos : Position) (xs t : List ℕ) → next_text pos xs ≡ Ok (Some t) → IsAscii t → IsAscii xs
ascii_next pos [] t h low = IsAscii-nil
ascii_next pos (b ∷ rest) t h low = elim (cases_Bool (b == 44)) [
  | inl comma ↦
      let same = eqb-true b 44 comma in
      let it : strip_spaces rest ≡ t = text_of (strip_spaces rest) t (rw comma at h) in
      IsAscii-cons b rest (omega (arith, same)) (ascii_strip rest (subst IsAscii (sym it) low))
  | inr other ↦ cc (rw other at h)
]
  where
    text_of : (x y : List ℕ) → ◌≡◌ {A = Result (Option (List ℕ)) Error} (Ok (Some x)) (Ok (Some y)) → x ≡ y
    text_of x y e = cc e

ascii_rest : (read : List ℕ → Result (List Held) Error)
    → ((text : List ℕ) (cs : List Held) → read text ≡ Ok cs → IsAscii text) → (p : Parsed) (cs : List Held)
    (o : Option (List ℕ)) → next_text p.5 p.6 ≡ Ok o → req_next read (p.0, p.1, p.2, p.3, p.4) o ≡ Ok cs → IsAscii p.6
ascii_rest read each p cs None is h = ascii_last p.5 p.6 is
ascii_rest read each p cs (Some t) is h =
    let more = bind-ok (read t) _ cs h in ascii_next p.5 p.6 t is (each t more.0 more.1)

ascii_from : (n : ℕ) (text : List ℕ) (cs : List Held) → req_from n text ≡ Ok cs → IsAscii text
unfolding req_from
ascii_from zero text cs h = cc h
ascii_from (suc n) text cs h =
    let p = bind-ok (comparator_in text) _ cs h in
    let next = bind-ok (next_text p.0.5 p.0.6) _ cs p.2 in
    ascii_or (comparator_of text) text p.0 refl p.1
    (ascii_rest (req_from n) (ascii_from n) p.0 cs next.0 next.1 next.2)

ascii_wild : (ch : ℕ) (text : List ℕ) (cs : List Held) → wild_req ch text ≡ Ok cs → IsAscii text
ascii_wild ch [] cs h = IsAscii-nil
ascii_wild ch (b ∷ rest) cs h = elim (cases_Bool (b == 44)) [
  | inl comma ↦ cc (rw comma at h)
  | inr other ↦ cc (rw other at h)
]

ascii_after : (w : Option (ℕ × List ℕ)) (text : List ℕ) (cs : List Held) → wildcard_of text ≡ w
    → req_after w text ≡ Ok cs → IsAscii text
ascii_after None text cs is h = ascii_from 32 text cs h
ascii_after (Some w) text cs is h =
    ascii_wildcard text w is (ascii_strip w.1 (ascii_wild w.0 (strip_spaces w.1) cs h))

-- a text that is read as a requirement is ASCII
pub req_ascii : (text : List ℕ) (cs : List Held) → req_of text ≡ Ok cs → IsAscii text
req_ascii text cs h =
    ascii_strip text (ascii_after (wildcard_of (strip_spaces text)) (strip_spaces text) cs refl h)
