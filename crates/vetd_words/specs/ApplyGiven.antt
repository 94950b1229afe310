-- Words that are to be an apply command (ours).
use Rattle.std.specs.Prelude.{List, Option, codes, option_and_then}
use Rattle.clap.specs.Walk.{Text}
use Rattle.vetd_words.specs.ApplyWords.{ApplyAsked, apply_from}
use Rattle.vetd_words.specs.Words.{rows_given}

-- the apply command that words give, if they are one
abbrev pub apply_given : List Text → Option ApplyAsked
apply_given words = option_and_then apply_from (rows_given (codes "apply") words)
