-- How long a connection may last, and how long its client may be silent (ours). All times are in nanoseconds.
use Rattle.std.specs.Prelude.{◌≡◌, ◌+◌, ◌*◌, ◌<◌, min, ℕ}

-- when a connection ends that was accepted at this time: 30 seconds later
abbrev pub end_of_connection : ℕ → ℕ
end_of_connection accepted = accepted + 30 * 1000000000

-- the longest that a read waits for a client that sends nothing: 5 seconds
abbrev pub longest_silence : ℕ
longest_silence = 5 * 1000000000

-- this much time is left from now until the end, and it is not zero
abbrev pub IsLeft : ℕ → ℕ → ℕ → Type 0
IsLeft now end left = (0 < left) × (now + left ≡ end)

-- a read that begins now waits for the time that is left, and no longer than a client may be silent
abbrev pub IsWait : ℕ → ℕ → ℕ → Type 0
IsWait now end wait = (left : ℕ) × (IsLeft now end left × (wait ≡ min left longest_silence))
