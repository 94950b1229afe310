use Rattle.std.proofs.Common.{get_or, sym, ap, ◌∙◌}
use Rattle.vet_desk.proofs.Reviews.{found_as, none_found}
use Rattle.vet_desk.proofs.desk.Desk.review.Goals as goal

pub returns-in-Ok : goal.returns-in-Ok
returns-in-Ok c =
    let reviews = c.args.self.now.content.reviews in
    sym (found_as reviews c.args.number c.in-Ok.place c.index.result.now
    c.place_of.ensures.sound.reviews.numbers_rise c.in-Ok.ensures.place
    (sym (c.index.ensures ∙ ap (λ d. get_or d.content.reviews c.in-Ok.place c.index.result.now) c.self.view_is)))

pub returns-in-Err : goal.returns-in-Err
returns-in-Err c = sym (none_found c.args.self.now.content.reviews c.args.number c.in-Err.field-0
    c.in-Err.ensures.place)
