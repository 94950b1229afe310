-- The fields of a name, one field more at a time.
use Rattle.std.proofs.Common.{◌≡◌, ◌≢◌, ℕ, ◌+◌, ◌<◌, List, [], ◌∷◌, ◌++◌, length, take, drop, map, get_or}
use Rattle.std.proofs.Common.{Bool, true, false, if◌then◌else◌, ap, refl, sym, subst, ◌∙◌}
use Rattle.std.proofs.Common.{append_assoc, append-nil, take-append-drop}
use Rattle.std.proofs.lemmas.List.{take_more, map-append}
use Rattle.httparse.specs.Spans.{span_bytes, header_bytes, IsWithin}
use Rattle.httparse.specs.declared.spans.HeaderSpan.{HeaderSpan}
use Rattle.httparse.specs.declared.spans.Span.{Span}
use Rattle.vet_requests.specs.Fields.{IsOccurrence, same_name, values_of}
use Rattle.vet_requests.specs.declared.fields.Occurrence.{Occurrence}
use Rattle.vet_requests.specs.declared.fields.Occurrence.TheVariants.{Absent, Once, Again}

abbrev picked : Bool → List ℕ → List (List ℕ)
picked b v = if b then v ∷ [] else []

step : (b : Bool) (v : List ℕ) (rest : List (List ℕ)) → (if b then v ∷ rest else rest) ≡ picked b v ++ rest
step true v rest = refl
step false v rest = refl

values-append : (name : List ℕ) (xs ys : List (List ℕ × List ℕ))
    → values_of name (xs ++ ys) ≡ values_of name xs ++ values_of name ys
values-append name [] ys = refl
values-append name (x ∷ xs) ys =
    let same = same_name x.0 name in
    step same x.1 (values_of name (xs ++ ys))
    ∙ ap (λ (vs : List (List ℕ)). picked same x.1 ++ vs) (values-append name xs ys)
    ∙ sym (append_assoc (picked same x.1) (values_of name xs) (values_of name ys))
    ∙ ap (λ (vs : List (List ℕ)). vs ++ values_of name ys) (sym (step same x.1 (values_of name xs)))

module _ (bytes name : List ℕ) (fields : List HeaderSpan) where
  abbrev of_fields : List HeaderSpan → List (List ℕ)
  of_fields some = values_of name (map (header_bytes bytes) some)

  abbrev named : ℕ → HeaderSpan → Bool
  named i d = same_name (header_bytes bytes (get_or fields i d)).0 name

  of_both : (some more : List HeaderSpan) → of_fields (some ++ more) ≡ of_fields some ++ of_fields more
  of_both some more =
      ap (values_of name) (map-append (header_bytes bytes) some more)
      ∙ values-append name (map (header_bytes bytes) some) (map (header_bytes bytes) more)

  -- one field more
  one_more : (i : ℕ) (d : HeaderSpan) (b : Bool) → i < length fields → named i d ≡ b
      → of_fields (take (i + 1) fields)
      ≡ of_fields (take i fields) ++ picked b (span_bytes bytes (get_or fields i d).value)
  one_more i d b within same =
      let field = get_or fields i d in
      ap of_fields (take_more fields i d within)
      ∙ of_both (take i fields) (field ∷ [])
      ∙ ap (λ (c : Bool). of_fields (take i fields) ++ picked c (span_bytes bytes field.value)) same

  first : (vs : List (List ℕ)) (found : Occurrence) (span : Span) → IsOccurrence bytes vs found → found ≡ Absent
      → IsWithin (length bytes) span → IsOccurrence bytes (vs ++ span_bytes bytes span ∷ []) (Once span)
  first [] found span h e w = (refl, w)
  first (v ∷ []) found span h e w = absurd (subst (IsOccurrence bytes (v ∷ [])) e h)
  first (v ∷ u ∷ vs) found span h e w = let bad : Absent ≡ Again = sym e ∙ h in cc

  -- the first of the name
  pub found_once : (i : ℕ) (d : HeaderSpan) (found : Occurrence) → i < length fields → named i d ≡ true
      → IsOccurrence bytes (of_fields (take i fields)) found → found ≡ Absent
      → IsWithin (length bytes) (get_or fields i d).value
      → IsOccurrence bytes (of_fields (take (i + 1) fields)) (Once (get_or fields i d).value)
  found_once i d found within same h e w =
      let value = (get_or fields i d).value in
      subst (λ (vs : List (List ℕ)). IsOccurrence bytes vs (Once value)) (sym (one_more i d true within same))
      (first (of_fields (take i fields)) found value h e w)

  -- one of another name
  pub passed : (i : ℕ) (d : HeaderSpan) (found : Occurrence) → i < length fields → named i d ≡ false
      → IsOccurrence bytes (of_fields (take i fields)) found
      → IsOccurrence bytes (of_fields (take (i + 1) fields)) found
  passed i d found within same h =
      let none_more = one_more i d false within same ∙ append-nil (of_fields (take i fields)) in
      subst (λ (vs : List (List ℕ)). IsOccurrence bytes vs found) (sym none_more) h

  second : (vs : List (List ℕ)) (found : Occurrence) (v : List ℕ) (rest : List (List ℕ))
      → IsOccurrence bytes vs found → found ≢ Absent → IsOccurrence bytes ((vs ++ v ∷ []) ++ rest) Again
  second [] found v rest h other = absurd (other h)
  second (a ∷ []) found v rest h other = refl
  second (a ∷ b ∷ vs) found v rest h other = refl

  -- another of the name
  pub found_again : (i : ℕ) (d : HeaderSpan) (found : Occurrence) → i < length fields → named i d ≡ true
      → IsOccurrence bytes (of_fields (take i fields)) found → found ≢ Absent
      → IsOccurrence bytes (of_fields fields) Again
  found_again i d found within same h other =
      let rest = of_fields (drop (i + 1) fields) in
      let all : of_fields fields ≡ of_fields (take (i + 1) fields) ++ rest =
      ap of_fields (sym (take-append-drop (i + 1) fields)) ∙ of_both (take (i + 1) fields) (drop (i + 1) fields) in
      let split = all ∙ ap (λ (vs : List (List ℕ)). vs ++ rest) (one_more i d true within same) in
      subst (λ (vs : List (List ℕ)). IsOccurrence bytes vs Again) (sym split)
      (second (of_fields (take i fields)) found (span_bytes bytes (get_or fields i d).value) rest h other)

-- there is none of a name that is absent
pub none_of_absent : (bytes : List ℕ) (vs : List (List ℕ)) (found : Occurrence) → IsOccurrence bytes vs found
    → found ≡ Absent → vs ≡ []
none_of_absent bytes [] found h e = refl
none_of_absent bytes (v ∷ []) found h e = absurd (subst (IsOccurrence bytes (v ∷ [])) e h)
none_of_absent bytes (v ∷ u ∷ vs) found h e = let bad : Absent ≡ Again = sym e ∙ h in cc
