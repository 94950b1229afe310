-- Two things that are told of one connection's bytes.
use Rattle.std.proofs.Common.{inl, inr, refl, ap, arith, length, drop}
use Rattle.httparse.proofs.GrammarLemmas.{request_unique}
use Rattle.httparse.specs.Grammar.{RequestHead, print_request}
use Rattle.vet_base.specs.Words.{Bytes}
use Rattle.vet_requests.specs.Head.{HasLongHead, HasNoHead, front}
use Rattle.vet_requests.specs.Request.{of_head, no_head, long_head, request_told}
use Rattle.vet_requests.specs.RequestLaws.{IsCutTarget, IsToldOnce}

-- no head and a too long one
both : (input : Bytes) → HasNoHead input → HasLongHead input → IsCutTarget input
both input (none, inl short) (none', past, may) = absurd (omega (arith, short, past))
both input (none, inr never) (none', past, inl (more, head, reads)) = absurd (never more head _ reads)
both input (none, inr never) (none', past, inr ends) = (past, (never, ends))

pub told_once : IsToldOnce
told_once input one other (of_head h (r, x)) (of_head k (q, y)) =
    inl (ap (λ (head : RequestHead). request_told head (drop (length (print_request head)) input))
    (request_unique (front input) h k r q x y).0)
told_once input one other (of_head h (r, x)) (no_head none) = absurd (none.0 h r x)
told_once input one other (of_head h (r, x)) (long_head long) = absurd (long.0 h r x)
told_once input one other (no_head none) (of_head h (r, x)) = absurd (none.0 h r x)
told_once input one other (no_head none) (no_head again) = inl refl
told_once input one other (no_head none) (long_head long) = inr (both input none long)
told_once input one other (long_head long) (of_head h (r, x)) = absurd (long.0 h r x)
told_once input one other (long_head long) (no_head none) = inr (both input none long)
told_once input one other (long_head long) (long_head again) = inl refl
