-- What clap's matches of the command don't give is not asked for.
use Rattle.std.proofs.Common.{IfSome, List, Option, subst}
use Rattle.clap.specs.Walk.{Row}
use Rattle.vetd_words.specs.ServeAsked.{IsServeAskedBy, ServeAsked}
use Rattle.vetd_words.proofs.serve_words.asked_by.Goals as goal

pub returns-clause-none : goal.returns-clause-none
returns-clause-none c = λ none.
    subst (λ (o : Option (List Row)). IfSome o (λ rows. (asked : ServeAsked) → IsServeAskedBy rows asked → ⊥))
    c.in_ok-subcommand.ensures (c.words_of.ensures.none none)
