-- What is told of a head, and then of what comes behind it.
use Rattle.std.proofs.Common.{rules, arith, ◌≡◌, ◌∙◌, List, ℕ, Ok, ap, drop, length, refl, subst, sym}
use Rattle.std.proofs.lemmas.List.{length-take}
use Rattle.httparse.specs.Spans.{IsRequestAt}
use Rattle.vet_requests.specs.Fields.{IsAskedWithin, asked_at, head_told}
use Rattle.vet_requests.specs.Head.{front}
use Rattle.vet_requests.proofs.AskedLemmas.{asked_front, asked_within}
use Rattle.vet_requests.proofs.RequestLemmas.{at_fault, with_rest}
use Rattle.vet_requests.proofs.request.read_behind.Goals as goal

pub read_rest-requires : goal.read_rest-requires
read_rest-requires g c =
    let bytes = drop c.args.start c.args.reader.now.handed in
    let seen : c.front_of.result.now ≡ front bytes = c.front_of.ensures.front ∙ ap front c.handed_from.ensures in
    record {
      start = c.requires.start;
      within = asked_within (length (front bytes)) (length bytes) c.in-Ok.asked (omega (arith, length-take 16384 bytes))
          (subst (λ (bs : List ℕ). IsAskedWithin (length bs) c.in-Ok.asked) seen c.in-Ok.ensures.within);
    }

pub returns-in-Ok-clause-read : goal.returns-in-Ok-clause-read
returns-in-Ok-clause-read g c head at =
    let bytes = drop c.args.start c.args.reader.now.handed in
    let asked = c.in-Ok.asked in
    let seen : c.front_of.result.now ≡ front bytes = c.front_of.ensures.front ∙ ap front c.handed_from.ensures in
    let there = subst (λ (bs : List ℕ). IsRequestAt bs c.args.fields.now c.args.spans head) (sym seen) at in
    let within = subst (λ (bs : List ℕ). IsAskedWithin (length bs) asked) seen c.in-Ok.ensures.within in
    let told : head_told head ≡ Ok (asked_at bytes asked) =
    c.in-Ok.ensures.told head there
    ∙ ap Ok (ap (λ (bs : List ℕ). asked_at bs asked) seen ∙ sym (asked_front 16384 bytes asked within)) in
    with_rest _ _ head (asked_at bytes asked) asked.head bytes _ c.read_rest.result told (search rules) refl
    c.read_rest.ensures.read

pub returns-in-Err-clause-read : goal.returns-in-Err-clause-read
returns-in-Err-clause-read g c head at =
    let bytes = drop c.args.start c.args.reader.now.handed in
    let seen : c.front_of.result.now ≡ front bytes = c.front_of.ensures.front ∙ ap front c.handed_from.ensures in
    let there = subst (λ (bs : List ℕ). IsRequestAt bs c.args.fields.now c.args.spans head) (sym seen) at in
    at_fault _ head c.in-Err.fault _ (c.in-Err.ensures.told head there)
