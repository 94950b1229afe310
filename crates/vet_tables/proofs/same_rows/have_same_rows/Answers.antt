use Rattle.std.proofs.Common.{◌∙◌, arith, refl, subst, sym}
use Rattle.vet_base.specs.Items.{SameItems}
use Rattle.vet_tables.proofs.TablePlaces.{few, up_to}
use Rattle.vet_tables.proofs.same_rows.have_same_rows.Goals as goal
use Rattle.vet_tables.specs.Cells.{rows_in}

pub returns-then-not-branch : goal.returns-then-not-branch
returns-then-not-branch c = (
  λ never. absurd (cc never),
  λ all. sym c.if-not-branch.true ∙ c.in_ok-have_same_items.ensures.1
      (subst (λ xs. SameItems xs c.of-in-tables.result.now) (sym c.of.ensures)
      (subst (λ ys. SameItems (rows_in c.args.a.now c.table_at-table.result) ys) (sym c.of-in-tables.ensures)
      (all c.table_at-table.result))),
)

pub tables-preserved : goal.tables-preserved
tables-preserved c =
    let table = c.table_at-table.result in
    up_to (λ m. SameItems (rows_in c.args.a.now m) (rows_in c.args.b.now m)) c.tables.at table c.table_at-table.ensures
    c.tables.invariant
    (subst (λ xs. SameItems xs (rows_in c.args.b.now table)) c.of.ensures
    (subst (λ ys. SameItems c.of.result.now ys) c.of-in-tables.ensures
    (c.in_ok-have_same_items.ensures.0 c.if-not-branch.false)))

pub returns : goal.returns
returns c = (λ _ table. c.tables.invariant table (omega (arith, few table, c.tables-test.false)), λ _. refl)
