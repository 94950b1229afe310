-- What came of a path is what was shown of the register there.
use Rattle.std.proofs.Common.{string_bytes}
use Rattle.vetd_words.specs.ViewWords.{view_asked}
use Rattle.vetd_commands.proofs.Viewed.{view_answer}
use Rattle.vetd_commands.proofs.viewing.view_at.Goals as goal
use Rattle.vetd_commands.specs.Making.{FoundBy}

pub returns-in-Ok : goal.returns-in-Ok
returns-in-Ok g c =
    view_answer g.S.Store (FoundBy (g.D.Databases.may_find c.args.databases.now)) string_bytes (view_asked c.args.asked)
    c.shown-shown.result.0 c.in-Ok.conn c.shown-shown.result.1 (c.in-Ok.ensures.found, c.in-Ok.ensures.outside)
    c.shown-shown.ensures.shown
    c.shown-shown.ensures.refused
