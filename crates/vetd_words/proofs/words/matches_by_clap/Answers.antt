-- What clap gives of the words is what a parse of the program's app reads of them.
use Rattle.vetd_words.proofs.WordsLemmas.{all_clean, all_found, all_kinds, all_refused}
use Rattle.vetd_words.proofs.words.matches_by_clap.Goals as goal

pub returns-clause-found : goal.returns-clause-found
returns-clause-found g c =
    all_found _ _ c.try_get_matches_from.result c.in_ok-top_command.ensures.is c.try_get_matches_from.ensures.matches
    c.try_get_matches_from.ensures.kinds

pub returns-clause-refused : goal.returns-clause-refused
returns-clause-refused g c =
    all_refused _ _ c.try_get_matches_from.result c.in_ok-top_command.ensures.is c.try_get_matches_from.ensures.kinds

pub returns-clause-clean : goal.returns-clause-clean
returns-clause-clean g c =
    all_clean _ _ c.try_get_matches_from.result c.in_ok-top_command.ensures.is c.try_get_matches_from.ensures.kinds

pub returns-clause-kinds : goal.returns-clause-kinds
returns-clause-kinds g c =
    all_kinds _ _ c.try_get_matches_from.result c.in_ok-top_command.ensures.is c.try_get_matches_from.ensures.kinds
