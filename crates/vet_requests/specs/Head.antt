-- The head at the start of a connection's bytes (RFC 9112, section 2; the limit is ours).
use Rattle.std.specs.Prelude.{◌≤◌, ◌<◌, ◌⊎◌, List, length, take, ⊤}
use Rattle.httparse.specs.Grammar.{RequestHead, ReadsRequest, HasNoRequest, NeverHasRequest, MayBecomeRequest}
use Rattle.httparse.specs.Spans.{IsRequestAt, IsRequestWithin}
use Rattle.httparse.specs.declared.spans.HeaderSpan.{HeaderSpan}
use Rattle.vet_base.specs.Words.{Bytes}
use Rattle.vet_requests.specs.declared.head.Head.{Head}
use Rattle.vet_requests.specs.declared.head.Head.TheVariants.{Whole, BadRequest, TooLarge}
use Rattle.vet_requests.specs.declared.head.Parsed.{Parsed}
use Rattle.vet_requests.specs.declared.head.Parsed.TheVariants as parsed
use Rattle.vet_requests.specs.declared.request_limits.TheConstants.{MOST_HEAD_BYTES}

-- the bytes in which a head must end
abbrev pub front : Bytes → Bytes
front input = take MOST_HEAD_BYTES input

-- they begin with this head of the grammar
abbrev pub HasHead : Bytes → RequestHead → Type 0
HasHead input head = (rest : Bytes) × ReadsRequest (front input) head rest

-- they begin with no head, and the input ends there, or no head can begin with them
abbrev pub HasNoHead : Bytes → Type 0
HasNoHead input =
    HasNoRequest (front input) × ((length input ≤ MOST_HEAD_BYTES) ⊎ NeverHasRequest (front input))

-- they begin with no head, the input goes on, and a head could begin with them, or they end within a target. A target
-- that cannot be text by then is the one case that counts as no head and as too long: either may be answered.
abbrev pub HasLongHead : Bytes → Type 0
HasLongHead input =
    HasNoRequest (front input) × (MOST_HEAD_BYTES < length input) × MayBecomeRequest (front input)

-- the finding about an input from its first bytes: a head with the places of its parts, or one of the two faults
abbrev pub IsFound : Bytes → Bytes → List HeaderSpan → Head → Type 0
IsFound input bytes fields (Whole spans) =
    (head : RequestHead) × (IsRequestAt (front bytes) fields spans head × HasHead input head)
IsFound input bytes fields BadRequest = HasNoHead input
IsFound input bytes fields TooLarge = HasLongHead input

-- the places of its parts lie within the bytes
abbrev pub IsFoundWithin : Bytes → List HeaderSpan → Head → Type 0
IsFoundWithin bytes fields (Whole spans) = IsRequestWithin bytes fields spans
IsFoundWithin bytes fields BadRequest = ⊤
IsFoundWithin bytes fields TooLarge = ⊤

-- the result of one parse of some bytes
abbrev pub Says : Bytes → List HeaderSpan → Parsed → Type 0
Says bytes fields (parsed.Whole spans) =
    ((head : RequestHead) × IsRequestAt bytes fields spans head) × IsRequestWithin bytes fields spans
Says bytes fields parsed.Never = NeverHasRequest bytes
Says bytes fields parsed.Open = HasNoRequest bytes × MayBecomeRequest bytes
