use Rattle.std.proofs.Common.{◌∙◌, ap, inl, inr, refl, sym}
use Rattle.vet_base.specs.Defined.{table_told}
use Rattle.vet_item_rows.proofs.PeersMade.{not_both_told, table_is, told_once}
use Rattle.vet_item_rows.proofs.Reading.{refused_on}
use Rattle.vet_item_rows.proofs.read.tables.table_of.Goals as goal

pub returns-in_err-of-2 : goal.returns-in_err-of-2
returns-in_err-of-2 c table is same =
    let sorted = c.into_items-criteria.ensures.value ∙ c.in_ok-of.ensures in
    elim c.in_err-of-2.ensures.told [
      | inl memory ↦ rw (refused_on c.from_residual-in_err-of-2.result c.in_err-of-2.field-0.0
          c.from_residual-in_err-of-2.ensures.1 memory) refl
      | inr told ↦ absurd (not_both_told (sym told ∙ ap table_told sorted
          ∙ table_is c.args.criteria.items table is same))
    ]

pub returns : goal.returns
returns c table is same =
    let sorted = c.into_items-criteria.ensures.value ∙ c.in_ok-of.ensures in
    told_once (sym c.in_ok-of-2.ensures.told ∙ ap table_told sorted ∙ table_is c.args.criteria.items table is same)
