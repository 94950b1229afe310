-- A head of at most 16,384 bytes has fewer than 8,193 fields.
use Rattle.std.proofs.Common.{ℕ, ◌+◌, ◌*◌, ◌≤◌, ◌<◌, ◌≡◌, List, [], ◌∷◌, ◌++◌, length, ap, arith, length-append}
use Rattle.std.specs.List.{flat_map}
use Rattle.httparse.specs.Ascii.{space, colon}
use Rattle.httparse.specs.Grammar.{Field, LineEnd, crlf, lf, RequestHead}
use Rattle.httparse.specs.Grammar.{print_blank, print_end, print_field, print_request, print_section, print_version}
use Rattle.httparse.specs.Spans.{RequestExceeds}

end_long : (e : LineEnd) → 1 ≤ length (print_end e)
end_long crlf = omega arith
end_long lf = omega arith

one_more : (x : ℕ) (xs : List ℕ) → length (x ∷ xs) ≡ 1 + length xs
one_more x xs = omega arith

field_long : (f : Field) → 2 ≤ length (print_field f)
field_long f = omega (
  arith,
  end_long f.end,
  length-append (f.name ++ colon ∷ f.raw) (print_end f.end),
  length-append f.name (colon ∷ f.raw),
  one_more colon f.raw,
)

fields_long : (fs : List Field) → 2 * length fs ≤ length (flat_map print_field fs)
fields_long [] = omega arith
fields_long (f ∷ fs) =
    omega (arith, field_long f, fields_long fs, length-append (print_field f) (flat_map print_field fs))

section_long : (fs : List Field) (last : LineEnd) → 2 * length fs < length (print_section fs last)
section_long fs last =
    omega (arith, fields_long fs, end_long last, length-append (flat_map print_field fs) (print_end last))

head_long : (h : RequestHead) → 2 * length h.fields < length (print_request h)
unfolding print_request
head_long h = omega (
  arith,
  section_long h.fields h.last,
  length-append
      (print_blank h.blank
      ++ h.method ++ space ∷ h.target ++ space ∷ print_version h.minor ++ print_end h.line_end)
      (print_section h.fields h.last),
)

-- room for a field in each two bytes is enough
pub has_room : (room : ℕ) (bytes : List ℕ) → length bytes < 2 * room → RequestExceeds room bytes → ⊥
has_room room bytes short (front, rest, split, head, reads, over) = absurd (omega (
  arith,
  head_long head,
  ap length reads.1,
  ap length split,
  length-append front rest,
  length-append front (print_end lf),
  length-append (print_request head) [],
))
