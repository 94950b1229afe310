-- From the bytes that were read to all that a reader tells.
use Rattle.std.proofs.Common.{ℕ, ◌+◌, ◌≤◌, List, [], ◌++◌, length, Option, Some, None, IfSome, ap, arith}
use Rattle.std.proofs.Common.{append-nil, append_assoc, drop, length-append, sym, subst, ◌∙◌, ◌≡◌}
use Rattle.std.proofs.lemmas.List.{drop-append-le}
use Rattle.std.proofs.KnownBytes.{Consumes-nil, Consumes-trans}
use Rattle.std.specs.Io.KnownBytes.{Consumes, IsAtEnd}
use Rattle.vet_requests.specs.Input.{Hands, Heard, IsReadFrom, TakesAtMost}

-- what holds however the bytes go on holds of these alone
pub of_read : (bytes : List ℕ) (Holds : List ℕ → Type 0) → ((after : List ℕ) → Holds (bytes ++ after)) → Holds bytes
of_read bytes Holds holds = subst Holds (append-nil bytes) (holds [])

-- and of all that the reader tells
pub of_told : (known known' : Option (List ℕ)) (bytes : List ℕ) (Holds : List ℕ → Type 0)
    → Consumes known known' bytes → ((after : List ℕ) → Holds (bytes ++ after)) → IfSome known Holds
of_told None known' bytes Holds consumed holds = tt
of_told (Some input) None bytes Holds consumed holds = absurd consumed
of_told (Some input) (Some after) bytes Holds consumed holds = subst Holds (sym consumed) (holds after)

-- at the end all was read
pub of_end : (known known' : Option (List ℕ)) (bytes : List ℕ) (Holds : List ℕ → Type 0)
    → Consumes known known' bytes → IsAtEnd known' → Holds bytes → IfSome known Holds
of_end None known' bytes Holds consumed end holds = tt
of_end (Some input) None bytes Holds consumed end holds = absurd consumed
of_end (Some input) (Some after) bytes Holds consumed end holds =
    subst Holds (sym (consumed ∙ ap (λ (rest : List ℕ). bytes ++ rest) end ∙ append-nil bytes)) holds

-- nothing was handed over, or bytes behind others
pub hands_nothing : (seen : Heard) → Hands seen seen []
hands_nothing seen = record { front = Consumes-nil seen.left; kept = sym (append-nil seen.handed) }

pub hands_both : (before between after : Heard) (first second : List ℕ) → Hands before between first
    → Hands between after second → Hands before after (first ++ second)
hands_both before between after first second one two = record {
  front = Consumes-trans before.left between.left after.left first second one.front two.front;
  kept = two.kept ∙ ap (λ (bytes : List ℕ). bytes ++ second) one.kept
      ∙ append_assoc before.handed first second;
}

-- what stands behind a start was handed over, and more behind it
pub behind_more : (between after : Heard) (start : ℕ) (more : List ℕ) → start ≤ length between.handed
    → Hands between after more → drop start after.handed ≡ drop start between.handed ++ more
behind_more between after start more within hands =
    ap (drop start) hands.kept ∙ drop-append-le start between.handed more within

pub hands_more : (before between after : Heard) (start : ℕ) (more : List ℕ) → start ≤ length between.handed
    → Hands before between (drop start between.handed) → Hands between after more
    → Hands before after (drop start after.handed)
hands_more before between after start more within one two =
    subst (Hands before after) (sym (behind_more between after start more within two))
    (hands_both before between after (drop start between.handed) more one two)

-- one fact of what was read gives another
pub read_each : (before after : Heard) (Holds Follows : List ℕ → Type 0)
    → ((bytes : List ℕ) → Holds bytes → Follows bytes) → IsReadFrom before after Holds → IsReadFrom before after Follows
read_each before after Holds Follows follows read = record {
  bytes = read.bytes;
  hands = read.hands;
  told = follows read.bytes read.told;
  whole = all before.left read.whole;
}
  where
    all : (known : Option (List ℕ)) → IfSome known Holds → IfSome known Follows
    all None holds = tt
    all (Some input) holds = follows input holds

-- of what is told whatever comes, nothing need be read
pub read_nothing : (seen : Heard) (Holds : List ℕ → Type 0) → ((bytes : List ℕ) → Holds bytes)
    → IsReadFrom seen seen Holds
read_nothing seen Holds holds = record {
  bytes = [];
  hands = hands_nothing seen;
  told = holds [];
  whole = all seen.left;
}
  where
    all : (known : Option (List ℕ)) → IfSome known Holds
    all None = tt
    all (Some input) = holds input

-- what is read behind other bytes
pub read_behind : (before between after : Heard) (bytes : List ℕ) (Holds Follows : List ℕ → Type 0)
    → Hands before between bytes → ((more : List ℕ) → Holds more → Follows (bytes ++ more))
    → IsReadFrom between after Holds → IsReadFrom before after Follows
read_behind before between after bytes Holds Follows hands follows read = record {
  bytes = bytes ++ read.bytes;
  hands = hands_both before between after bytes read.bytes hands read.hands;
  told = follows read.bytes read.told;
  whole = all before.left between.left hands.front read.whole;
}
  where
    all : (known between : Option (List ℕ)) → Consumes known between bytes → IfSome between Holds → IfSome known Follows
    all None between c holds = tt
    all (Some input) None c holds = absurd c
    all (Some input) (Some after) c holds = subst Follows (sym c) (follows after holds)

-- no more is read of two parts than of each
pub takes_both : (before between after : Heard) (a b : ℕ) → TakesAtMost a before between
    → TakesAtMost b between after → TakesAtMost (a + b) before after
takes_both before between after a b (first, (first_short, first_read)) (second, (second_short, second_read)) =
    let short : length (first ++ second) ≤ a + b =
    omega (arith, length-append first second, first_short, second_short) in
    (first ++ second, (short, hands_both before between after first second first_read second_read))

-- nor than of a larger number
pub takes_fewer : (before after : Heard) (a b : ℕ) → a ≤ b → TakesAtMost a before after → TakesAtMost b before after
takes_fewer before after a b fewer (bytes, (short, read)) = (bytes, (omega (arith, short, fewer), read))
