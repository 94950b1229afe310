-- The meaning of a head's fields (RFC 9110, sections 5.1, 8.6 and 9.3.2; RFC 9112, section 6; `Vet-Member` is ours).
use Rattle.std.specs.Prelude.{ℕ, ◌+◌, ◌-◌, ◌*◌, ◌≤◌, ◌||◌, ◌&&◌, ◌≡◌, List, [], ◌∷◌, length, map, fold, codes}
use Rattle.std.specs.Prelude.{Bool, if◌then◌else◌, nat_lt, not, Option, None, Some, IfSome, Ok, Err}
use Rattle.std.specs.Char.{to_ascii_lowercase, is_ascii_digit}
use Rattle.std.specs.List.{list_all}
use Rattle.std.specs.Str.{bytes_eq}
use Rattle.httparse.specs.Grammar.{RequestHead}
use Rattle.httparse.specs.Spans.{name_and_value, span_bytes, IsWithin}
use Rattle.httparse.specs.declared.spans.Span.{Span}
use Rattle.vet_base.specs.Words.{Bytes, Text}
use Rattle.vet_base.specs.declared.limits.TheConstants.{MOST_INPUT_BYTES}
use Rattle.vet_requests.specs.RequestFault.{ToldOf, ◌>>=◌}
use Rattle.vet_requests.specs.declared.fields.HeadSpans.{HeadSpans}
use Rattle.vet_requests.specs.declared.fields.Occurrence.{Occurrence}
use Rattle.vet_requests.specs.declared.fields.Occurrence.TheVariants.{Absent, Once, Again}
use Rattle.vet_requests.specs.declared.request_fault.RequestFault.TheVariants.{BadRequest, TooLarge, NotImplemented}
use Rattle.vet_requests.specs.declared.request_limits.TheConstants.{MOST_FIELDS, MOST_LENGTH_DIGITS}

-- two names of fields are the same, without regard to the case of letters
abbrev pub same_name : Text → Text → Bool
same_name a b = bytes_eq (map to_ascii_lowercase a) (map to_ascii_lowercase b)

-- the values of the fields of a name, in their order
abbrev pub values_of : Text → List (Text × Bytes) → List Bytes
values_of name [] = []
values_of name (field ∷ fields) =
    if same_name field.0 name then field.1 ∷ values_of name fields else values_of name fields

-- the number that digits write
abbrev pub number_of : Bytes → ℕ
number_of digits = fold (λ n d. 10 * n + (d - 48)) 0 digits

-- a text is 1 to 19 digits
abbrev pub is_number : Bytes → Bool
is_number text =
    nat_lt 0 (length text) && (not (nat_lt MOST_LENGTH_DIGITS (length text)) && list_all is_ascii_digit text)

-- the request of a head, with the length of its body in place of the body
pub record AskedValue : Type 0 where
  pub method : Bytes
  pub target : Bytes
  pub member : Option Bytes
  pub length : ℕ

-- there are no more fields than a head may have
abbrev pub count_told : ℕ → ToldOf (Unit {0})
count_told count = if nat_lt MOST_FIELDS count then Err TooLarge else Ok tt

-- the method is not `HEAD`, and the body is not coded for its transfer
abbrev pub form_told : Bytes → List Bytes → ToldOf (Unit {0})
form_told method codings =
    if bytes_eq method (codes "HEAD") || nat_lt 0 (length codings) then Err NotImplemented else Ok tt

-- the length of the body, or the fault of `Content-Length`
abbrev pub length_told : List Bytes → ToldOf ℕ
length_told [] = Ok 0
length_told (text ∷ []) =
    if not (is_number text) then Err BadRequest
    else (if nat_lt MOST_INPUT_BYTES (number_of text) then Err TooLarge else Ok (number_of text))
length_told (text ∷ again ∷ more) = Err BadRequest

-- the member who makes the request, if one is named, or the fault of `Vet-Member`
abbrev pub member_told : List Bytes → ToldOf (Option Bytes)
member_told [] = Ok None
member_told (member ∷ []) = Ok (Some member)
member_told (member ∷ again ∷ more) = Err BadRequest

-- the request of a method, a target and fields, or its first fault
abbrev pub asked_told : Bytes → Bytes → List (Text × Bytes) → ToldOf AskedValue
asked_told method target fields =
    count_told (length fields) >>= λ _.
    form_told method (values_of (codes "transfer-encoding") fields) >>= λ _.
    length_told (values_of (codes "content-length") fields) >>= λ length.
    member_told (values_of (codes "vet-member") fields) >>= λ member.
    Ok (record { method = method; target = target; member = member; length = length })

-- the request of a head, or its first fault
abbrev pub head_told : RequestHead → ToldOf AskedValue
head_told head = asked_told head.method head.target (map name_and_value head.fields)

-- the fields of a name: none, the value of the only one by its place, or more than one
abbrev pub IsOccurrence : Bytes → List Bytes → Occurrence → Type 0
IsOccurrence bytes [] found = found ≡ Absent
IsOccurrence bytes (value ∷ []) (Once span) = (span_bytes bytes span ≡ value) × IsWithin (length bytes) span
IsOccurrence bytes (value ∷ []) Absent = ⊥
IsOccurrence bytes (value ∷ []) Again = ⊥
IsOccurrence bytes (value ∷ again ∷ more) found = found ≡ Again

-- the member whose name is at a place
abbrev pub member_at : Bytes → Option Span → Option Bytes
member_at bytes None = None
member_at bytes (Some span) = Some (span_bytes bytes span)

-- the request of a head whose parts are at these places of the bytes
abbrev pub asked_at : Bytes → HeadSpans → AskedValue
asked_at bytes asked = record {
  method = span_bytes bytes asked.method;
  target = span_bytes bytes asked.target;
  member = member_at bytes asked.member;
  length = asked.length;
}

-- its parts lie within the first n bytes
pub record IsAskedWithin (n : ℕ) (asked : HeadSpans) : Type 0 where
  pub method : IsWithin n asked.method
  pub target : IsWithin n asked.target
  pub member : IfSome asked.member (IsWithin n)
  pub head : asked.head ≤ n
  pub length : asked.length ≤ MOST_INPUT_BYTES
