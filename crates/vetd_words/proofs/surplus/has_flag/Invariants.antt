-- None so far looks like a flag.
use Rattle.std.proofs.Common.{◌≡◌, take, false}
use Rattle.std.specs.List.{list_any}
use Rattle.vetd_words.specs.Surplus.{is_flag}
use Rattle.vetd_words.proofs.surplus.has_flag.Given as goal

abbrev pub invariant-words : goal.invariant-words
invariant-words g l = list_any (λ word. is_flag (g.S.AsStr.text word)) (take l.word-index l.words) ≡ false
