use Rattle.std.proofs.Common.{rules, ap, ◌∙◌}
use Rattle.std.specs.Ordering.{nat_cmp}
use Rattle.std.proofs.lemmas.Fn.{always_returns_same}
use Rattle.vet_desk.specs.declared.review.Review.{Review}
use Rattle.vet_desk.proofs.Reviews.{searched}
use Rattle.vet_desk.proofs.desk.Desk.place_of.Goals as goal

pub returns-clause-place : goal.returns-clause-place
returns-clause-place c =
    let n = c.args.number in
    let e = c.binary_search_by.ensures in
    let at = e.position (λ (review : Review). nat_cmp review.number n)
    (always_returns_same _ _ _ (λ a r f k. search rules)) in
    let held = c.deref.ensures.value in
    let place = searched c.deref.result.now n c.binary_search_by.result
    (rw held c.self.invariant.reviews.numbers_rise) e.bound at in
    rw (held ∙ ap (λ d. d.content.reviews) c.self.view_is) at place
