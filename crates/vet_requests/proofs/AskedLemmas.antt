-- What a head asks for stays as more bytes come, and so does its body once it is whole.
use Rattle.std.proofs.Common.{◌≡◌, ◌∙◌, ℕ, ◌+◌, ◌-◌, ◌≤◌, ◌<◌, List, ◌++◌, Bool, false, true, Option, Some, None}
use Rattle.std.proofs.Common.{IfSome, Ok, Err}
use Rattle.std.proofs.Common.{ap, arith, append_assoc, drop, if◌then◌else◌, length, length-append, length-drop}
use Rattle.std.proofs.Common.{nat_lt, refl}
use Rattle.std.proofs.Common.{sym, take, take-append-drop}
use Rattle.std.proofs.lemmas.Bool.Decides.{nat_tests}
use Rattle.std.proofs.lemmas.List.{drop-append-le, take-append-le}
use Rattle.httparse.specs.Spans.{IsWithin, span_bytes}
use Rattle.httparse.specs.declared.spans.Span.{Span}
use Rattle.vet_requests.specs.Fields.{AskedValue, IsAskedWithin, asked_at, member_at}
use Rattle.vet_requests.specs.Request.{request_of, rest_told}
use Rattle.vet_requests.specs.RequestFault.{◌>>=◌}
use Rattle.vet_requests.specs.declared.fields.HeadSpans.{HeadSpans}
use Rattle.vet_requests.specs.declared.request_fault.RequestFault.TheVariants.{BadRequest}

span_more : (a b : List ℕ) (s : Span) → IsWithin (length a) s → span_bytes (a ++ b) s ≡ span_bytes a s
span_more a b s (rises, within) =
    let begins : drop s.start (a ++ b) ≡ drop s.start a ++ b = drop-append-le s.start a b
    (omega (arith, rises, within)) in
    let fits : s.end - s.start ≤ length (drop s.start a) =
    omega (arith, length-drop s.start a, rises, within) in
    ap (take (s.end - s.start)) begins ∙ take-append-le (s.end - s.start) (drop s.start a) b fits

member_more : (a b : List ℕ) (member : Option Span) → IfSome member (IsWithin (length a))
    → member_at (a ++ b) member ≡ member_at a member
member_more a b None within = refl
member_more a b (Some span) within = ap Some (span_more a b span within)

pub asked_more : (a b : List ℕ) (asked : HeadSpans) → IsAskedWithin (length a) asked
    → asked_at (a ++ b) asked ≡ asked_at a asked
asked_more a b asked within =
    rw (
      span_more a b asked.method within.method,
      span_more a b asked.target within.target,
      member_more a b asked.member within.member,
    ) refl

-- a body that is whole
pub body_whole : (asked : AskedValue) (begun more after : List ℕ) → asked.length ≤ length begun + length more
    → Ok (request_of asked (take asked.length (begun ++ more))) ≡ rest_told asked (begun ++ (more ++ after))
body_whole asked begun more after fits =
    let all = begun ++ (more ++ after) in
    let split : all ≡ (begun ++ more) ++ after = sym (append_assoc begun more after) in
    let long : nat_lt (length all) asked.length ≡ false = grind (
      arith,
      nat_tests,
      fits,
      length-append begun (more ++ after),
      length-append more after,
    ) in
    let short : asked.length ≤ length (begun ++ more) = omega (arith, fits, length-append begun more) in
    let same : take asked.length all ≡ take asked.length (begun ++ more) =
    ap (take asked.length) split ∙ take-append-le asked.length (begun ++ more) after short in
    sym (ap (λ (v : Bool). (if v then Err BadRequest else Ok (take asked.length all)) >>= λ body.
    Ok (request_of asked body)) long
    ∙ ap (λ (body : List ℕ). Ok (request_of asked body)) same)

-- one that the input ends within
pub body_cut : (asked : AskedValue) (begun more : List ℕ) → length begun + length more < asked.length
    → Err BadRequest ≡ rest_told asked (begun ++ more)
body_cut asked begun more short =
    let all = begun ++ more in
    let cut : nat_lt (length all) asked.length ≡ true =
    grind (arith, nat_tests, short, length-append begun more) in
    sym (ap (λ (v : Bool). (if v then Err BadRequest else Ok (take asked.length all)) >>= λ body.
    Ok (request_of asked body)) cut)

-- where the parts stand in the front of some bytes, they stand in the bytes
pub asked_front : (n : ℕ) (bytes : List ℕ) (asked : HeadSpans) → IsAskedWithin (length (take n bytes)) asked
    → asked_at bytes asked ≡ asked_at (take n bytes) asked
asked_front n bytes asked within =
    ap (λ (bs : List ℕ). asked_at bs asked) (sym (take-append-drop n bytes))
    ∙ asked_more (take n bytes) (drop n bytes) asked within

within_more : (m n : ℕ) (span : Span) → m ≤ n → IsWithin m span → IsWithin n span
within_more m n span fewer (rises, within) = (rises, omega (arith, fewer, within))

member_within : (m n : ℕ) (member : Option Span) → m ≤ n → IfSome member (IsWithin m) → IfSome member (IsWithin n)
member_within m n None fewer within = within
member_within m n (Some span) fewer within = within_more m n span fewer within

pub asked_within : (m n : ℕ) (asked : HeadSpans) → m ≤ n → IsAskedWithin m asked → IsAskedWithin n asked
asked_within m n asked fewer within = record {
  method = within_more m n asked.method fewer within.method;
  target = within_more m n asked.target fewer within.target;
  member = member_within m n asked.member fewer within.member;
  head = omega (arith, fewer, within.head);
  length = within.length;
}
