-- The lines of plain records are read as these records.
use Rattle.std.proofs.Common.{◌≡◌, ◌<◌, ◌≤◌, ◌+◌, ℕ, zero, suc, Bool, true, List, [], ◌∷◌, ◌++◌, length, Some, refl}
use Rattle.std.proofs.Common.{sym, ap, arith, ◌∙◌, append_assoc}
use Rattle.std.specs.List.{list_all}
use Rattle.std.proofs.lemmas.Bool.{and_parts}
use Rattle.std.proofs.lemmas.List.{length-append}
use Rattle.csv.specs.Machine.{next_record}
use Rattle.csv.specs.Reading.{default_config, records, records_from}
use Rattle.csv.specs.Writing.{default_writer, field_text, fields_text, is_blank, row_text}
use Rattle.csv.specs.declared.parser.State.TheVariants as st
use Rattle.csv.proofs.RoundTrip.{read-write-many}
use Rattle.vet_demand.specs.WrittenProject.{line, lines}
use Rattle.vet_demand.proofs.PlainFields.{is_plain, needs_no_quotes}

-- ---- one record

-- each field is plain
abbrev pub are_plain : List (List ℕ) → Bool
are_plain fields = list_all (list_all is_plain) fields

-- at least two fields, all plain
abbrev pub IsPlain : List (List ℕ) → Type 0
IsPlain [] = ⊥
IsPlain (x ∷ []) = ⊥
IsPlain (x ∷ y ∷ rest) = are_plain (x ∷ y ∷ rest) ≡ true

plain_text : (x : List ℕ) → list_all is_plain x ≡ true → field_text default_writer x ≡ x
plain_text x h = rw (needs_no_quotes x h) refl

line_rest : (x : List ℕ) (rest : List (List ℕ)) → are_plain rest ≡ true
    → line (x ∷ rest) ≡ x ++ (fields_text default_writer rest ++ (10 ∷ []))
unfolding fields_text
line_rest x [] h = refl
line_rest x (y ∷ rest) h =
    let (here, more) = and_parts (list_all is_plain y) (are_plain rest) h in
    ap (λ (t : List ℕ). x ++ (44 ∷ t))
    (line_rest y rest more
    ∙ sym (append_assoc y (fields_text default_writer rest) (10 ∷ []))
    ∙ ap (λ (f : List ℕ). (f ++ fields_text default_writer rest) ++ (10 ∷ [])) (sym (plain_text y here)))

-- csv's own text of the record is the same line
line_row : (x y : List ℕ) (rest : List (List ℕ)) → are_plain (x ∷ y ∷ rest) ≡ true
    → line (x ∷ y ∷ rest) ≡ row_text default_writer (x ∷ y ∷ rest)
unfolding is_blank
line_row x y rest h =
    let (here, more) = and_parts (list_all is_plain x) (are_plain (y ∷ rest)) h in
    line_rest x (y ∷ rest) more ∙ sym (append_assoc x (fields_text default_writer (y ∷ rest)) (10 ∷ []))
    ∙ ap (λ (f : List ℕ). (f ++ fields_text default_writer (y ∷ rest)) ++ (10 ∷ [])) (sym (plain_text x here))

line_read : (fields : List (List ℕ)) (tail : List ℕ) → IsPlain fields
    → next_record default_config st.StartRecord [] [] (line fields ++ tail) ≡ Some (fields, st.StartRecord, tail)
line_read [] tail h = absurd h
line_read (x ∷ []) tail h = absurd h
line_read (x ∷ y ∷ rest) tail h =
    ap (λ (t : List ℕ). next_record default_config st.StartRecord [] [] (t ++ tail)) (line_row x y rest h)
    ∙ read-write-many x y rest tail

line_long : (fields : List (List ℕ)) → 0 < length (line fields)
line_long [] = omega arith
line_long (x ∷ []) = omega (arith, length-append x (10 ∷ []))
line_long (x ∷ y ∷ rest) = omega (arith, length-append x (44 ∷ line (y ∷ rest)))

-- ---- all records

abbrev pub ArePlain : List (List (List ℕ)) → Type 0
ArePlain [] = Unit {0}
ArePlain (row ∷ rows) = IsPlain row × ArePlain rows

pub ArePlain-append : (rows more : List (List (List ℕ))) → ArePlain rows → ArePlain more → ArePlain (rows ++ more)
ArePlain-append [] more h g = g
ArePlain-append (row ∷ rows) more h g = (h.0, ArePlain-append rows more h.1 g)

lines_long : (rows : List (List (List ℕ))) → length rows ≤ length (lines rows)
lines_long [] = omega arith
lines_long (row ∷ rows) =
    let more = lines_long rows in
    let one = line_long row in
    omega (arith, more, one, length-append (line row) (lines rows))

lines_from : (rows : List (List (List ℕ))) (n : ℕ) → ArePlain rows → length rows ≤ n
    → records_from default_config n st.StartRecord (lines rows) ≡ rows
unfolding records_from next_record
lines_from [] zero h few = refl
lines_from [] (suc n) h few = refl
lines_from (row ∷ rows) zero h few = absurd (omega (arith, few))
lines_from (row ∷ rows) (suc n) h few =
    rw (line_read row (lines rows) h.0)
    (ap (λ (rs : List (List (List ℕ))). row ∷ rs) (lines_from rows n h.1 (omega (arith, few))))

pub lines_read : (rows : List (List (List ℕ))) → ArePlain rows → records default_config (lines rows) ≡ rows
lines_read rows h = (let long = lines_long rows in lines_from rows (length (lines rows) + 1) h (omega (arith, long)))
