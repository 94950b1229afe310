-- The body is what was read with the head and what was read behind it.
use Rattle.std.proofs.Common.{arith, ◌≡◌, ◌∙◌, ◌+◌, ◌≤◌, ◌++◌, List, ℕ, Ok, ap, drop, length, length-drop, take}
use Rattle.std.proofs.lemmas.List.{drop-append-le}
use Rattle.vet_requests.specs.Fields.{AskedValue, asked_at}
use Rattle.vet_requests.specs.Input.{heard}
use Rattle.vet_requests.specs.Request.{request_of, rest_told}
use Rattle.vet_requests.proofs.AskedLemmas.{asked_more, body_whole}
use Rattle.vet_requests.proofs.ReadLemmas.{behind_more, of_read, of_told}
use Rattle.vet_requests.proofs.request.read_rest.Goals as goal

pub returns-clause-read : goal.returns-clause-read
returns-clause-read g c =
    let before = heard g.R.Read.remaining c.args.reader.now in
    let after = heard g.R.Read.remaining c.read_at_most.new.self in
    let bytes = drop c.args.start c.args.reader.now.handed in
    let read = c.in_ok-read_at_most.ensures.read in
    let more = read.0 in
    let begun = drop c.args.asked.head bytes in
    let asked = asked_at bytes c.args.asked in
    let request = c.in_ok-request_of.field-0 in
    let slice : c.handed_from-2.result.now ≡ bytes ++ more =
    c.handed_from-2.ensures ∙ behind_more before after c.args.start more c.requires.start read.1.1.0 in
    let is : request ≡ request_of asked (take asked.length (begun ++ more)) =
    c.in_ok-request_of.ensures
    ∙ ap (λ (bs : List ℕ). request_of (asked_at bs c.args.asked) (take asked.length (drop c.args.asked.head bs))) slice
    ∙ ap (λ (a : AskedValue). request_of a (take asked.length (drop c.args.asked.head (bytes ++ more))))
    (asked_more bytes more c.args.asked c.requires.within)
    ∙ ap (λ (b : List ℕ). request_of asked (take asked.length b))
    (drop-append-le c.args.asked.head bytes more c.requires.within.head) in
    let count : length c.handed_from.result.now ≡ length bytes = ap length c.handed_from.ensures in
    let fits : asked.length ≤ length begun + length more = omega (
      arith,
      count,
      length-drop c.args.asked.head bytes,
      read.1.0,
      c.min-begun.ensures,
      c.if-branch-missing.false,
      c.requires.within.head,
    ) in
    let each = λ (rest : List ℕ). ap Ok is ∙ body_whole asked begun more rest fits in
    let Holds = λ (rest : List ℕ). Ok request ≡ rest_told asked (begun ++ rest) in
    record {
      bytes = more;
      hands = read.1.1.0;
      told = of_read more Holds each;
      whole = of_told before.left after.left more Holds read.1.1.0.front each;
    }
