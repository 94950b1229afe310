-- What came of a path is what making a register there told.
use Rattle.std.proofs.Common.{string_bytes}
use Rattle.vetd_words.specs.NewAsked.{new_asked}
use Rattle.vetd_commands.proofs.MakingLemmas.{made_answer}
use Rattle.vetd_commands.proofs.making.make_at.Goals as goal
use Rattle.vetd_commands.specs.Making.{GivenBy}

pub returns-in-Ok-connect : goal.returns-in-Ok-connect
returns-in-Ok-connect g c =
    made_answer g.S.Store (GivenBy (g.D.Databases.may_give c.args.databases.now)) string_bytes (new_asked c.args.asked)
    c.in-Ok.text c.make-made.result.0 c.told.result c.in-Ok-connect.conn c.make-made.result.1 c.in-Ok.ensures
    (c.in-Ok-connect.ensures.given, c.in-Ok-connect.ensures.outside) c.make-made.ensures.made
    c.make-made.ensures.refused c.told.ensures.made c.told.ensures.refused
