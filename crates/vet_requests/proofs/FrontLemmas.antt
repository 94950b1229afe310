-- The front of what was read so far is the front of what the input begins with.
use Rattle.std.proofs.Common.{◌≡◌, ℕ, ◌+◌, ◌-◌, ◌≤◌, ◌<◌, List, [], ◌++◌, length, take, drop, min, ap, arith}
use Rattle.std.proofs.Common.{length-append, append_assoc, append-nil, sym, subst, ◌∙◌, inl, inr}
use Rattle.std.proofs.lemmas.List.{take_all, take-append-le}
use Rattle.std.proofs.lemmas.Bool.{cases_lt}
use Rattle.std.proofs.Math.Seq.{take-append-add}
use Rattle.httparse.specs.Grammar.{RequestHead, HasNoRequest, NeverHasRequest, MayBecomeRequest}
use Rattle.httparse.proofs.GrammarLemmas.{ReadsRequest-append}
use Rattle.httparse.specs.Spans.{IsRequestAt}
use Rattle.httparse.specs.declared.spans.HeaderSpan.{HeaderSpan}
use Rattle.httparse.specs.declared.spans.RequestSpans.{RequestSpans}
use Rattle.vet_requests.specs.Head.{HasHead, HasLongHead, HasNoHead, IsFound, Says, front}
use Rattle.vet_requests.specs.declared.head.Head.TheVariants.{Whole}
use Rattle.vet_requests.specs.declared.head.Parsed.TheVariants as parsed

never_more : (a b : List ℕ) → NeverHasRequest a → NeverHasRequest (a ++ b)
never_more a b never more = subst HasNoRequest (sym (append_assoc a b more)) (never (b ++ more))

never_none : (a : List ℕ) → NeverHasRequest a → HasNoRequest a
never_none a never = subst HasNoRequest (append-nil a) (never [])

-- the front of more bytes goes on from that of fewer
front_more : (bytes after : List ℕ) → (more : List ℕ) × (front (bytes ++ after) ≡ front bytes ++ more)
front_more bytes after = elim (cases_lt 16384 (length bytes)) [
  | inl long ↦ ([], take-append-le 16384 bytes after (omega arith) ∙ sym (append-nil (front bytes)))
  | inr short ↦
      let all : front bytes ≡ bytes = take_all 16384 bytes short in
      let count : 16384 ≡ length bytes + (16384 - length bytes) = omega arith in
      let more = take (16384 - length bytes) after in (
        more,
        ap (λ (n : ℕ). take n (bytes ++ after)) count ∙ take-append-add bytes after (16384 - length bytes)
            ∙ ap (λ (begun : List ℕ). begun ++ more) (sym all),
      )
]

-- a head that stands there still does once more comes
pub head_more : (bytes after : List ℕ) (head : RequestHead) → HasHead bytes head → HasHead (bytes ++ after) head
head_more bytes after head (rest, reads) =
    let (more, split) = front_more bytes after in
    let reads_more = ReadsRequest-append (front bytes) head rest more reads in
    (rest ++ more, (reads_more.0, split ∙ reads_more.1))

-- what one parse says of the front, it says of each input that begins so
module _ (bytes seen : List ℕ) (fields : List HeaderSpan) (is_front : seen ≡ front bytes) where
  pub found_head : (spans : RequestSpans) → Says seen fields (parsed.Whole spans)
      → (after : List ℕ) → IsFound (bytes ++ after) bytes fields (Whole spans)
  found_head spans ((head, at), within) after =
      let at_front = subst (λ (b : List ℕ). IsRequestAt b fields spans head) is_front at in
      (head, (at_front, head_more bytes after head (drop spans.len (front bytes), at_front.reads)))

  pub never_head : Says seen fields parsed.Never → (after : List ℕ) → HasNoHead (bytes ++ after)
  never_head says after =
      let (more, split) = front_more bytes after in
      let never_more_head = never_more (front bytes) more (subst NeverHasRequest is_front says) in
      let never_there : NeverHasRequest (front (bytes ++ after)) = subst NeverHasRequest (sym split) never_more_head in
      (never_none (front (bytes ++ after)) never_there, inr never_there)

  pub ended_head : Says seen fields parsed.Open → length bytes ≤ 16384 → HasNoHead bytes
  ended_head says short = (subst HasNoRequest is_front says.0, inl short)

  pub long_head : Says seen fields parsed.Open → 16384 < length bytes → (after : List ℕ) → HasLongHead (bytes ++ after)
  long_head says past after =
      let same : seen ≡ front (bytes ++ after) = is_front ∙ sym (take-append-le 16384 bytes after (omega arith)) in
      let count : 16384 < length (bytes ++ after) = omega (arith, length-append bytes after) in
      (subst HasNoRequest same says.0, count, subst MayBecomeRequest same says.1)

pub take_front : (n : ℕ) (bytes : List ℕ) → n ≡ min (length bytes) 16384 → take n bytes ≡ front bytes
take_front n bytes e = elim (cases_lt 16384 (length bytes)) [
  | inl long ↦ let count : n ≡ 16384 = omega arith in ap (λ (k : ℕ). take k bytes) count
  | inr short ↦ take_all n bytes (omega arith) ∙ sym (take_all 16384 bytes short)
]
