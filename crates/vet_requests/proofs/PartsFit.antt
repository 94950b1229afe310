-- A path that matches the pattern of some parts is cut into texts that fit them.
use Rattle.std.proofs.Common.{◌≡◌, ◌∙◌, ◌<◌, ◌==◌, ◌&&◌, ◌++◌, inl, inr, [], ◌∷◌, List, ℕ, Bool, true, false, cond}
use Rattle.std.proofs.Common.{ap, arith, refl, append-nil}
use Rattle.std.proofs.Common.{nat_lt, not}
use Rattle.std.proofs.lemmas.Bool.Decides.{nat_tests}
use Rattle.std.proofs.lemmas.Slice.Eq.{bytes_eq-Decides}
use Rattle.std.specs.List.{onto_first, slice_split}
use Rattle.std.specs.Str.{bytes_eq}
use Rattle.matchit.specs.Rows.{param_token}
use Rattle.matchit.specs.Seek.{has_slash}
use Rattle.vet_requests.specs.Parameter.{is_slash}
use Rattle.vet_requests.specs.Path.{Part, fit, fits, parameter, word}
use Rattle.vet_requests.proofs.RowsFound.{Matches}

abbrev pub cut : List ℕ → List (List ℕ)
cut text = slice_split is_slash text

-- the pattern of a part
abbrev pub token : Part → List ℕ
token (word w) = w
token parameter = param_token ∷ []

-- the pattern of parts, each behind a slash
abbrev pub tokens : List Part → List ℕ
tokens [] = []
tokens (p ∷ ps) = 47 ∷ (token p ++ tokens ps)

-- a word is bytes without a slash
abbrev pub is_word : List ℕ → Bool
is_word [] = true
is_word (b ∷ w) = nat_lt b 256 && (not (b == 47) && is_word w)

abbrev pub has_words : List Part → Bool
has_words [] = true
has_words (word w ∷ ps) = is_word w && has_words ps
has_words (parameter ∷ ps) = has_words ps

-- a text without a slash is one part, and the one in front of a slash is the first
pub cut_one : (w : List ℕ) → has_slash w ≡ false → cut w ≡ w ∷ []
cut_one [] h = refl
cut_one (b ∷ w) h =
    elim (b == 47)
    as (λ v. cond v true (has_slash w) ≡ false → cond v ([] ∷ cut w) (onto_first b (cut w)) ≡ (b ∷ w) ∷ [])
    [ true ↦ λ wrong. cc wrong | false ↦ λ plain. ap (onto_first b) (cut_one w plain) ]
    h

pub cut_first : (w more : List ℕ) → has_slash w ≡ false → cut (w ++ 47 ∷ more) ≡ w ∷ cut more
cut_first [] more h = refl
cut_first (b ∷ w) more h =
    elim (b == 47)
    as (λ v. cond v true (has_slash w) ≡ false
    → cond v ([] ∷ cut (w ++ 47 ∷ more)) (onto_first b (cut (w ++ 47 ∷ more))) ≡ (b ∷ w) ∷ cut more)
    [ true ↦ λ wrong. cc wrong | false ↦ λ plain. ap (onto_first b) (cut_first w more plain) ]
    h

pub and_left : (a b : Bool) → (a && b) ≡ true → a ≡ true
and_left true b h = refl
and_left false b h = h

pub and_right : (a b : Bool) → (a && b) ≡ true → b ≡ true
and_right true b h = h
and_right false b h = absurd cc

both : (a b : Bool) → a ≡ true → b ≡ true → (a && b) ≡ true
both true b h i = i
both false b h i = h

-- what stands at a path's start, and what is said of the rest
record Starts (text path : List ℕ) (More : List ℕ → Type 0) : Type 0 where
  rest : List ℕ
  whole : path ≡ text ++ rest
  more : More rest

word_at : (w u path : List ℕ) → is_word w ≡ true → Matches (w ++ u) path → Starts w path (Matches u)
word_at [] u path h m = record { rest = path; whole = refl; more = m }
word_at (b ∷ w) u path h m =
    let low : b < 256 = grind (arith, nat_tests, and_left (nat_lt b 256) (not (b == 47) && is_word w) h) in
    let later = and_right (not (b == 47)) (is_word w) (and_right (nat_lt b 256) (not (b == 47) && is_word w) h) in
    (elim m [
      | inl byte ↦
          (let on = word_at w u byte.rest later byte.more in
          record { rest = on.rest; whole = byte.whole ∙ ap (λ (s : List ℕ). b ∷ s) on.whole; more = on.more })
      | inr other ↦ (elim other
          [ inl it ↦ absurd (omega (arith, low, it.0)) | inr all ↦ absurd (omega (arith, low, all)) ])
    ])

word_plain : (w : List ℕ) → is_word w ≡ true → has_slash w ≡ false
word_plain [] h = refl
word_plain (b ∷ w) h =
    let rest = and_right (nat_lt b 256) (not (b == 47) && is_word w) h in
    elim (b == 47)
    as (λ v. (not v && is_word w) ≡ true → cond v true (has_slash w) ≡ false)
    [ true ↦ λ wrong. absurd cc | false ↦ λ later. word_plain w later ]
    rest

-- a text that fits a part stands at a path's start
record FitsAt (p : Part) (path : List ℕ) (More : List ℕ → Type 0) : Type 0 where
  text : List ℕ
  rest : List ℕ
  whole : path ≡ text ++ rest
  plain : has_slash text ≡ false
  does : fits p text ≡ true
  more : More rest

same_bytes : (w : List ℕ) → bytes_eq w w ≡ true
same_bytes w = (bytes_eq-Decides w w).1 refl

part_at : (p : Part) (u path : List ℕ) → has_words (p ∷ []) ≡ true → Matches (token p ++ u) path
    → FitsAt p path (Matches u)
part_at (word w) u path h m =
    let plain = and_left (is_word w) true h in
    let at = word_at w u path plain m in
    record {
      text = w;
      rest = at.rest;
      whole = at.whole;
      plain = word_plain w plain;
      does = same_bytes w;
      more = at.more;
    }
part_at parameter u path h m = (elim m [
  | inl byte ↦ record {
    text = param_token ∷ [];
    rest = byte.rest;
    whole = byte.whole;
    plain = refl;
    does = refl;
    more = byte.more;
  }
  | inr other ↦ (elim other [
    | inl it ↦ record {
      text = it.1.first ∷ it.1.others;
      rest = it.1.rest;
      whole = it.1.whole;
      plain = it.1.plain;
      does = refl;
      more = it.1.more;
    }
    | inr all ↦ absurd (omega (arith, all))
  ])
])

first_words : (p : Part) (ps : List Part) → has_words (p ∷ ps) ≡ true → has_words (p ∷ []) ≡ true
first_words (word w) ps h = both (is_word w) true (and_left (is_word w) (has_words ps) h) refl
first_words parameter ps h = refl

other_words : (p : Part) (ps : List Part) → has_words (p ∷ ps) ≡ true → has_words ps ≡ true
other_words (word w) ps h = and_right (is_word w) (has_words ps) h
other_words parameter ps h = h

-- a path that matches the pattern of parts is cut into texts that fit them
pub fitting : (p : Part) (ps : List Part) (path : List ℕ) → has_words (p ∷ ps) ≡ true
    → Matches (token p ++ tokens ps) path → fit (p ∷ ps) (cut path) ≡ true
fitting p [] path h m =
    let at = part_at p [] path (first_words p [] h) m in
    let whole : path ≡ at.text = at.whole ∙ ap (λ (s : List ℕ). at.text ++ s) at.more ∙ append-nil at.text in
    ap (λ (s : List ℕ). fit (p ∷ []) (cut s)) whole
    ∙ ap (λ (ts : List (List ℕ)). fit (p ∷ []) ts) (cut_one at.text at.plain)
    ∙ both (fits p at.text) true at.does refl
fitting p (q ∷ qs) path h m =
    let at = part_at p (tokens (q ∷ qs)) path (first_words p (q ∷ qs) h) m in
    (elim at.more [
      | inl slash ↦
          (let whole : path ≡ at.text ++ (47 ∷ slash.rest) = at.whole ∙ ap (λ (s : List ℕ). at.text ++ s) slash.whole in
          ap (λ (s : List ℕ). fit (p ∷ q ∷ qs) (cut s)) whole
          ∙ ap (λ (ts : List (List ℕ)). fit (p ∷ q ∷ qs) ts) (cut_first at.text slash.rest at.plain)
          ∙ both (fits p at.text) (fit (q ∷ qs) (cut slash.rest)) at.does
          (fitting q qs slash.rest (other_words p (q ∷ qs) h) slash.more))
      | inr other ↦ (elim other
          [ inl it ↦ absurd (omega (arith, it.0)) | inr all ↦ absurd (omega (arith, all)) ])
    ])
