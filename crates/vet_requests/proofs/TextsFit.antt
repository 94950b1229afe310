-- A path whose cut fits some parts begins with texts that do.
use Rattle.std.proofs.Common.{◌≡◌, ◌∙◌, ◌<◌, ◌==◌, ◌++◌, ◌⊎◌, inl, inr, [], ◌∷◌, List, ℕ, true, false, cond}
use Rattle.std.proofs.Common.{All, ap, arith, refl, sym, subst}
use Rattle.std.proofs.lemmas.Bool.Decides.{nat_tests}
use Rattle.std.proofs.lemmas.List.Elements.{All-head, All-tail}
use Rattle.std.proofs.lemmas.Slice.Eq.{bytes_eq-Decides}
use Rattle.matchit.specs.Seek.{has_slash}
use Rattle.vet_requests.specs.Path.{Part, fit, fits, parameter, word}
use Rattle.vet_requests.proofs.PartsFit.{and_left, and_right, cut, cut_first, cut_one}

-- what stands before the first slash, and what behind it
pub record IsCut (text : List ℕ) : Type 0 where
  pub front : List ℕ
  pub behind : List ℕ
  pub whole : text ≡ front ++ 47 ∷ behind
  pub plain : has_slash front ≡ false

cases : (text : List ℕ) → (has_slash text ≡ false) ⊎ IsCut text
cases [] = inl refl
cases (b ∷ text) =
    elim (b == 47)
    as (λ v. (b == 47) ≡ v → (cond v true (has_slash text) ≡ false) ⊎ IsCut (b ∷ text)) [
      | true ↦ λ same. (let is : b ≡ 47 = grind (arith, nat_tests, same) in
          inr (record { front = []; behind = text; whole = ap (λ c. c ∷ text) is; plain = refl }))
      | false ↦ λ other. (elim (cases text) [
        | inl plain ↦ inl plain
        | inr at ↦ inr (record {
          front = b ∷ at.front;
          behind = at.behind;
          whole = ap (λ (s : List ℕ). b ∷ s) at.whole;
          plain = ap (λ v. cond v true (has_slash at.front)) other ∙ at.plain;
        })
      ])
    ]
    refl

cut_of : (text : List ℕ) (at : IsCut text) → cut text ≡ at.front ∷ cut at.behind
cut_of text at = ap cut at.whole ∙ cut_first at.front at.behind at.plain

never_none : (text : List ℕ) → fit [] (cut text) ≡ false
never_none text = (elim (cases text)
    [ inl plain ↦ ap (fit []) (cut_one text plain) | inr at ↦ ap (fit []) (cut_of text at) ])

-- a path that fits one part is that text
pub one_fits : (p : Part) (text : List ℕ) → fit (p ∷ []) (cut text) ≡ true
    → (has_slash text ≡ false) × (fits p text ≡ true)
one_fits p text h = (elim (cases text) [
  | inl plain ↦ (plain, and_left (fits p text) true (sym (ap (fit (p ∷ [])) (cut_one text plain)) ∙ h))
  | inr at ↦
      (let it = sym (ap (fit (p ∷ [])) (cut_of text at)) ∙ h in
      let no = and_right (fits p at.front) (fit [] (cut at.behind)) it in
      let wrong : false ≡ true = sym (never_none at.behind) ∙ no in absurd cc)
])

-- of one that fits more parts the first text stands in front of a slash, and what is behind it fits the others
pub record IsCutBy (p : Part) (others : List Part) (text : List ℕ) : Type 0 where
  pub at : IsCut text
  pub does : fits p at.front ≡ true
  pub more : fit others (cut at.behind) ≡ true

pub more_fit : (p q : Part) (ps : List Part) (text : List ℕ) → fit (p ∷ q ∷ ps) (cut text) ≡ true
    → IsCutBy p (q ∷ ps) text
more_fit p q ps text h = (elim (cases text) [
  | inl plain ↦
      (let it = sym (ap (fit (p ∷ q ∷ ps)) (cut_one text plain)) ∙ h in
      let wrong : false ≡ true = and_right (fits p text) false it in absurd cc)
  | inr at ↦
      (let it = sym (ap (fit (p ∷ q ∷ ps)) (cut_of text at)) ∙ h in
      let rest = fit (q ∷ ps) (cut at.behind) in
      record { at = at; does = and_left (fits p at.front) rest it; more = and_right (fits p at.front) rest it })
])

pub word_is : (w text : List ℕ) → fits (word w) text ≡ true → text ≡ w
word_is w text h = (bytes_eq-Decides text w).0 h

-- a parameter has a first byte
pub record HasFirst (text : List ℕ) : Type 0 where
  pub first : ℕ
  pub others : List ℕ
  pub whole : text ≡ first ∷ others

pub parameter_is : (text : List ℕ) → fits parameter text ≡ true → HasFirst text
parameter_is [] h = absurd cc
parameter_is (b ∷ text) h = record { first = b; others = text; whole = refl }

abbrev pub AreBytes : List ℕ → Type 0
AreBytes text = All (λ b. b < 256) text

pub bytes_as : (path text : List ℕ) → path ≡ text → AreBytes path → AreBytes text
bytes_as path text is bytes = subst AreBytes is bytes

-- bytes behind others are bytes
pub bytes_behind : (front text : List ℕ) → AreBytes (front ++ text) → AreBytes text
bytes_behind [] text h = h
bytes_behind (b ∷ front) text h = bytes_behind front text (All-tail (λ x. x < 256) b (front ++ text) h)

pub first_byte : (b : ℕ) (text : List ℕ) → AreBytes (b ∷ text) → b < 256
first_byte b text h = All-head (λ x. x < 256) b text h
