-- Words whose second number is none ask for nothing.
use Rattle.std.proofs.Common.{refl}
use Rattle.vetd_words.proofs.Asking.{no_number}
use Rattle.vetd_words.proofs.serve_words.words_of.Goals as goal

pub returns-in_err-connections-clause-none : goal.returns-in_err-connections-clause-none
returns-in_err-connections-clause-none c = λ _ asked is.
    no_number _ _ _ c.in_ok-value-2.ensures (c.in_err-connections.ensures.none refl) asked.connections is.connections
