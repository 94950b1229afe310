-- From a head and what comes after it to the request.
use Rattle.std.proofs.Common.{◌≡◌, ℕ, ◌≤◌, List, ◌++◌, Result, Ok, Err, IfOk, length, drop, ap, arith}
use Rattle.std.proofs.Common.{length-append, sym, subst, ◌∙◌}
use Rattle.std.proofs.lemmas.List.{drop-append-le, length-take}
use Rattle.httparse.specs.Grammar.{RequestHead, print_request}
use Rattle.vet_requests.specs.Fields.{AskedValue, head_told}
use Rattle.vet_requests.specs.Head.{HasHead}
use Rattle.vet_requests.specs.Input.{Hands, Heard, IsReadFrom}
use Rattle.vet_requests.specs.Request.{RequestValue, Requests, of_head, request_told, rest_told}
use Rattle.vet_requests.specs.RequestFault.{ToldOf, ◌>>=◌}
use Rattle.vet_requests.specs.declared.io_fault.IoFault.{IoFault}
use Rattle.vet_requests.specs.declared.request_fault.RequestFault.{RequestFault}
use Rattle.vet_requests.proofs.FrontLemmas.{head_more}
use Rattle.vet_requests.proofs.ReadLemmas.{read_behind, read_each, read_nothing}

-- what is told of the rest is told of the head's request
of_rest : (head : RequestHead) (asked : AskedValue) (after : List ℕ) (told : ToldOf RequestValue)
    → head_told head ≡ Ok asked → told ≡ rest_told asked after → told ≡ request_told head after
of_rest head asked after told is_asked is_told =
    is_told ∙ sym (ap (λ (t : ToldOf AskedValue). t >>= λ asked. rest_told asked after) is_asked)

-- a head whose first fault is told already
pub at_fault : (seen : Heard) (head : RequestHead) (fault : RequestFault) (begun : List ℕ)
    → head_told head ≡ Err fault → IsReadFrom seen seen (λ more. Err fault ≡ request_told head (begun ++ more))
at_fault seen head fault begun is_fault =
    read_nothing seen (λ (more : List ℕ). Err fault ≡ request_told head (begun ++ more)) (λ more.
    sym (ap (λ (t : ToldOf AskedValue). t >>= λ asked. rest_told asked (begun ++ more)) is_fault))

-- a head that asks for something, and its body
pub with_rest : (known known' : Heard) (head : RequestHead) (asked : AskedValue) (n : ℕ)
    (bytes begun : List ℕ) (result : Result (ToldOf RequestValue) IoFault)
    → head_told head ≡ Ok asked → n ≡ length (print_request head)
    → begun ≡ drop n bytes
    → IfOk result (λ told. IsReadFrom known known' (λ more. told ≡ rest_told asked (begun ++ more)))
    → IfOk result (λ told. IsReadFrom known known'
    (λ more. told ≡ request_told head (drop (length (print_request head)) bytes ++ more)))
with_rest known known' head asked n bytes begun (Err fault) is_asked len is_begun read = tt
with_rest known known' head asked n bytes begun (Ok told) is_asked len is_begun read =
    let same : begun ≡ drop (length (print_request head)) bytes = is_begun ∙ ap (λ (k : ℕ). drop k bytes) len in
    read_each known known' (λ (more : List ℕ). told ≡ rest_told asked (begun ++ more)) _ (λ more holds.
    of_rest head asked (drop (length (print_request head)) bytes ++ more) told is_asked
    (holds ∙ ap (λ (b : List ℕ). rest_told asked (b ++ more)) same)) read

head_fits : (bytes : List ℕ) (head : RequestHead) → HasHead bytes head → length (print_request head) ≤ length bytes
head_fits bytes head (rest, (is_head, splits)) =
    omega (arith, ap length splits, length-append (print_request head) rest, length-take 16384 bytes)

-- a head in what was read, and what was read behind
pub of_whole : (known between known' : Heard) (bytes : List ℕ) (head : RequestHead)
    (result : Result (ToldOf RequestValue) IoFault) → Hands known between bytes → HasHead bytes head
    → IfOk result (λ told. IsReadFrom between known'
    (λ more. told ≡ request_told head (drop (length (print_request head)) bytes ++ more)))
    → IfOk result (λ told. IsReadFrom known known' (λ all. Requests all told))
of_whole known between known' bytes head (Err fault) consumed has read = tt
of_whole known between known' bytes head (Ok told) consumed has read =
    let n = length (print_request head) in
    read_behind known between known' bytes (λ (more : List ℕ). told ≡ request_told head (drop n bytes ++ more))
    (λ (all : List ℕ). Requests all told) consumed (λ more holds.
    let split : drop n (bytes ++ more) ≡ drop n bytes ++ more =
    drop-append-le n bytes more (head_fits bytes head has) in
    let is_told : told ≡ request_told head (drop n (bytes ++ more)) =
    holds ∙ ap (request_told head) (sym split) in
    subst (Requests (bytes ++ more)) (sym is_told) (of_head head (head_more bytes more head has))) read
