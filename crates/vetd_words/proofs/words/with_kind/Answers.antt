-- The command has both arguments of one that shows something of a register.
use Rattle.vetd_words.proofs.words.with_kind.Goals as goal

pub returns : goal.returns
returns c app is = c.add-2.ensures _ _ (c.in_ok-command.ensures app _ is c.path_option.ensures) c.word.ensures
