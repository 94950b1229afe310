use Rattle.std.proofs.Common.{map, refl, subst, sym}
use Rattle.vet_base.specs.Items.{SameItems}
use Rattle.vet_item_rows.specs.DeskRows.{member_row, review_row}
use Rattle.vet_item_rows.proofs.DesksRead.{desk_read}
use Rattle.vet_item_rows.proofs.Reading.{passed_on}
use Rattle.vet_rows.proofs.state_of.read_desk.Goals as goal

pub returns-in_err-members : goal.returns-in_err-members
returns-in_err-members c d sound names held same_members same_reviews next =
    let members = subst (λ rows. SameItems rows (map member_row d.members)) (sym c.of.ensures) same_members in
    rw (passed_on c.from_residual.result c.in_err-members.field-0.0 c.from_residual.ensures.1
    (c.in_err-members.ensures d.members sound.members.by_name names members)) refl

pub returns-in_err-reviews : goal.returns-in_err-reviews
returns-in_err-reviews c d sound names held same_members same_reviews next =
    let reviews = subst (λ rows. SameItems rows (map review_row d.reviews)) (sym c.of-2.ensures) same_reviews in
    rw (passed_on c.from_residual-in_err-reviews.result c.in_err-reviews.field-0.0
    c.from_residual-in_err-reviews.ensures.1 (c.in_err-reviews.ensures d.reviews sound.reviews.numbers_rise held
    reviews)) refl

pub returns : goal.returns
returns c d sound names held same_members same_reviews next =
    let members = subst (λ rows. SameItems rows (map member_row d.members)) (sym c.of.ensures) same_members in
    let reviews = subst (λ rows. SameItems rows (map review_row d.reviews)) (sym c.of-2.ensures) same_reviews in
    desk_read d c.in_ok-members.members.items c.in_ok-reviews.reviews.items c.args.next_review
    (c.in_ok-members.ensures d.members sound.members.by_name names members)
    (c.in_ok-reviews.ensures d.reviews sound.reviews.numbers_rise held reviews) next sound c.restored.result
    c.restored.ensures.sound c.restored.ensures.value c.found.result c.found.ensures
