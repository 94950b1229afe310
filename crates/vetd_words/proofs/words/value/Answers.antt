-- The first value of an argument, as clap gives it.
use Rattle.std.proofs.Common.{◌∙◌}
use Rattle.clap.specs.Words.{found_of}
use Rattle.clap.proofs.WalkLemmas.{first_value-rows}
use Rattle.vetd_words.proofs.words.value.Goals as goal

pub returns : goal.returns
returns c = c.get_str.ensures ∙ first_value-rows (found_of c.args.subcommand.now) c.args.id.now
