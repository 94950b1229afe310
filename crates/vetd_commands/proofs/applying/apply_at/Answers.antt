-- What came of a path is the answer to the document over it.
use Rattle.std.proofs.Common.{inl, inr, refl, string_bytes}
use Rattle.std.specs.Option.{option_copied}
use Rattle.vetd_commands.proofs.Applied.{apply_answer}
use Rattle.vetd_commands.specs.Making.{FoundBy}
use Rattle.vetd_commands.proofs.applying.apply_at.Goals as goal

pub returns-in-Err : goal.returns-in-Err
returns-in-Err g c = inl refl

pub returns-in-Err-find : goal.returns-in-Err-find
returns-in-Err-find g c = inr (c.in-Err-find.ensures.found, c.in-Err-find.ensures.refused)

pub returns : goal.returns
returns g c =
    apply_answer g.S.Store (FoundBy (g.D.Databases.may_find c.args.databases.now)) string_bytes c.args.path.now
    (option_copied c.args.giver) c.args.day c.args.document.now c.applied-told.result.0 c.in-Ok-find.conn
    c.applied-told.result.1 (c.in-Ok-find.ensures.found, c.in-Ok-find.ensures.outside) c.applied-told.ensures
