-- What stands at the front is what is told, or the head's request.
use Rattle.std.proofs.Common.{arith, IfSome, drop, length, subst}
use Rattle.vet_requests.specs.Head.{HasLongHead, HasNoHead, IsFound}
use Rattle.vet_requests.specs.Input.{heard}
use Rattle.vet_requests.specs.Request.{no_head, long_head}
use Rattle.vet_requests.specs.declared.head.Head.{Head}
use Rattle.vet_requests.proofs.ReadLemmas.{read_each, takes_both, takes_fewer}
use Rattle.vet_requests.proofs.RequestLemmas.{of_whole}
use Rattle.vet_requests.proofs.request.read_request_in.Goals as goal

pub returns-in-BadRequest-clause-read : goal.returns-in-BadRequest-clause-read
returns-in-BadRequest-clause-read g c =
    let start = length c.handed-start.result.now in
    let bytes = drop start c.read_head.new.reader.handed in
    let fields = c.read_head.new.fields in
    let known = g.R.Read.remaining c.args.reader.now.source in
    read_each _ _ HasNoHead _ (λ input none. no_head none) (record {
      bytes = bytes;
      hands = c.in_ok-read_head.ensures.read;
      told = subst (IsFound bytes bytes fields) c.in-BadRequest.is c.in_ok-read_head.ensures.found;
      whole = subst (λ (head : Head). IfSome known (λ input. IsFound input bytes fields head)) c.in-BadRequest.is
          c.in_ok-read_head.ensures.whole;
    })

pub returns-in-TooLarge-clause-read : goal.returns-in-TooLarge-clause-read
returns-in-TooLarge-clause-read g c =
    let start = length c.handed-start.result.now in
    let bytes = drop start c.read_head.new.reader.handed in
    let fields = c.read_head.new.fields in
    let known = g.R.Read.remaining c.args.reader.now.source in
    read_each _ _ HasLongHead _ (λ input long. long_head long) (record {
      bytes = bytes;
      hands = c.in_ok-read_head.ensures.read;
      told = subst (IsFound bytes bytes fields) c.in-TooLarge.is c.in_ok-read_head.ensures.found;
      whole = subst (λ (head : Head). IfSome known (λ input. IsFound input bytes fields head)) c.in-TooLarge.is
          c.in_ok-read_head.ensures.whole;
    })

pub returns-in-Whole-clause-read : goal.returns-in-Whole-clause-read
returns-in-Whole-clause-read g c =
    let start = length c.handed-start.result.now in
    let bytes = drop start c.read_head.new.reader.handed in
    let fields = c.read_head.new.fields in
    let found = subst (IsFound bytes bytes fields) c.in-Whole.is c.in_ok-read_head.ensures.found in
    of_whole _ (heard g.R.Read.remaining c.read_head.new.reader) _ bytes found.0 c.read_behind.result
    c.in_ok-read_head.ensures.read found.1.1 (c.read_behind.ensures.read found.0 found.1.0)

pub returns-in-TooLarge-clause-bounded : goal.returns-in-TooLarge-clause-bounded
returns-in-TooLarge-clause-bounded g c = takes_fewer _ _ 16385 8404993 (omega arith) c.read_head.ensures.bounded

pub returns-in-Whole-clause-bounded : goal.returns-in-Whole-clause-bounded
returns-in-Whole-clause-bounded g c =
    takes_both _ _ _ 16385 8388608 c.read_head.ensures.bounded c.read_behind.ensures.bounded
