-- Words whose matches give nothing ask for nothing.
use Rattle.std.proofs.Common.{codes, map, refl}
use Rattle.clap.specs.Words.{subcommand_rows_of}
use Rattle.vetd_words.specs.Words.{rows_if_named}
use Rattle.vetd_words.proofs.Asking.{not_asked}
use Rattle.vetd_words.proofs.serve_words.serve_words.Goals as goal

pub returns-clause-refused : goal.returns-clause-refused
returns-clause-refused g c = λ _.
    not_asked (map g.S.AsStr.text c.args.words.now)
    (rows_if_named (codes "serve") (subcommand_rows_of c.in_ok-matches.matches))
    (c.in_ok-matches.ensures.found (codes "serve")) (c.in-None.ensures.none refl)
