use Rattle.std.proofs.Common.{is_some, ap, sym, ◌∙◌}
use Rattle.std.proofs.lemmas.Bool.{false≢true}
use Rattle.vet_desk.proofs.Reviews.{none_found}
use Rattle.vet_desk.proofs.desk.Desk.place_held.Goals as goal

pub unreachable-requires : goal.unreachable-requires
unreachable-requires c =
    false≢true (sym (ap is_some
    (none_found c.args.self.now.content.reviews c.args.number c.in-Err.field-0 c.in-Err.ensures.place))
    ∙ c.requires)
