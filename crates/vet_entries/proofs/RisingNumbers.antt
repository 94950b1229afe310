-- Numbers that rise.
use Rattle.std.proofs.Common.{ℕ, suc, ◌+◌, ◌<◌, ◌≤◌, List, [], ◌∷◌, length, arith}
use Rattle.std.specs.List.{All, insert}
use Rattle.std.proofs.lemmas.List.Elements.{All-nil, All-cons, All-head, All-tail}
use Rattle.std.proofs.lemmas.List.Kept.{AllPairs-cons}
use Rattle.vet_entries.specs.declared.entry.Entry.{Entry}
use Rattle.vet_entries.specs.declared.facts.HeldEntry.{HeldEntry}
use Rattle.vet_entries.specs.Numbered.{AreByNumber, Rise, numbered}

-- numbers given one after another are not lower than the first
pub numbered_from : (n : ℕ) (entries : List Entry) → All (λ h. n ≤ h.number) (numbered n entries)
numbered_from n [] = All-nil _
numbered_from n (e ∷ rest) = All-cons (λ h. n ≤ h.number) _ (numbered (n + 1) rest) (omega arith)
    (λ k d l. (let from = numbered_from (n + 1) rest k d l in omega (arith, from)))

pub numbered_rise : (n : ℕ) (entries : List Entry) → AreByNumber (numbered n entries)
numbered_rise n [] = λ i j d l m. absurd (omega arith)
numbered_rise n (e ∷ rest) =
    AllPairs-cons Rise (record { number = n; entry = e }) (numbered (n + 1) rest)
    (λ k d l. (let from = numbered_from (n + 1) rest k d l in omega (arith, from))) (numbered_rise (n + 1) rest)

-- an entry of a higher number behind all
pub one_behind : (entries : List HeldEntry) (held : HeldEntry) → AreByNumber entries
    → All (λ h. h.number < held.number) entries
    → AreByNumber (insert entries (length entries) held)
one_behind [] held up below = λ i j d l m. absurd (omega (arith, l, m))
one_behind (x ∷ rest) held up below =
    AllPairs-cons Rise x (insert rest (length rest) held)
    (behind rest (λ k d l. up 0 (suc k) d (omega arith) (omega (arith, l))))
    (one_behind rest held (λ i j d l m. up (suc i) (suc j) d (omega (arith, l)) (omega (arith, m)))
    (All-tail (λ h. h.number < held.number) x rest below))
  where
    behind : (xs : List HeldEntry) → All (Rise x) xs → All (Rise x) (insert xs (length xs) held)
    behind [] all = All-cons (Rise x) held [] (All-head (λ h. h.number < held.number) x rest below) (All-nil _)
    behind (y ∷ ys) all = All-cons (Rise x) y (insert ys (length ys) held) (All-head (Rise x) y ys all)
        (behind ys (All-tail (Rise x) y ys all))
