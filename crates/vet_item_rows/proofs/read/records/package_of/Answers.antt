use Rattle.std.proofs.Common.{◌≡◌, ◌∙◌, List, refl, subst, sym}
use Rattle.vet_base.specs.Items.{SameItems}
use Rattle.vet_entries.specs.declared.publisher.Publisher.{Publisher}
use Rattle.vet_item_rows.proofs.Reading.{refused_on}
use Rattle.vet_item_rows.proofs.RecordsMade.{records_are}
use Rattle.vet_item_rows.proofs.read.records.package_of.Goals as goal

pub returns-in_err-of : goal.returns-in_err-of
returns-in_err-of c p is =
    rw (refused_on c.from_residual.result c.in_err-of.field-0.0 c.from_residual.ensures.1
    c.in_err-of.ensures.memory) refl

pub returns : goal.returns
returns c p is =
    let given = c.into_parts-package.result.1.items in
    let name : c.into_parts-package.result.0 ≡ p.«package» = c.into_parts-package.ensures.head ∙ is.name in
    let records = records_are given c.in_ok-of.field-0 p.publishers c.in_ok-of.ensures.records
    (subst (λ (xs : List Publisher). SameItems xs p.publishers) (sym c.into_parts-package.ensures.items) is.records)
    is.in_order in
    λ i. record { «package» = name i; publishers = records i }
