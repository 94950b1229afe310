use Rattle.std.proofs.Common.{subst, sym}
use Rattle.vet_base.specs.Items.{IsIn}
use Rattle.vet_register.specs.Machine.{next}
use Rattle.vet_rows.specs.RowChanges.{all_changed}
use Rattle.vet_rows.specs.RowsOf.{rows_of}
use Rattle.vet_rows.proofs.FitChanges.{changes_fit}
use Rattle.vet_rows.proofs.RowsChanged.{changes_lead, numbers_come, standing_named}
use Rattle.vet_rows.proofs.row_changes.row_changes.Goals as goal
use Rattle.vet_tables.specs.Cells.{SameRows}

pub all_changes-requires : goal.all_changes-requires
all_changes-requires g c = record {
  numbers = numbers_come c.moves_are_differences.ensures c.demand_is_least.ensures.least g.K.Keeper.keeping
      c.args.register.now c.requires.0 c.args.change.now c.requires.1 c.facts.ensures.sound c.texts_are_read.ensures
      c.counts_fit_after.ensures;
}

pub returns-in-Ok-clause-ok : goal.returns-in-Ok-clause-ok
returns-in-Ok-clause-ok g c = λ command is.
    let s = c.args.register.now.state in
    subst (λ changes. SameRows (all_changed changes (rows_of s)) (rows_of (next s command))) (sym c.in-Ok.ensures)
    (changes_lead c.moves_are_differences.ensures c.demand_is_least.ensures.least g.K.Keeper.keeping
    c.args.register.now command c.args.change.now is c.facts.ensures.sound c.texts_are_read.ensures)

pub returns-in-Ok-clause-standing : goal.returns-in-Ok-clause-standing
returns-in-Ok-clause-standing g c = λ command is x among.
    standing_named c.moves_are_differences.ensures c.demand_is_least.ensures.least g.K.Keeper.keeping
    c.args.register.now command c.args.change.now is c.facts.ensures.sound c.texts_are_read.ensures x
    (subst (IsIn x) c.in-Ok.ensures among)

pub returns-in-Ok-clause-fit : goal.returns-in-Ok-clause-fit
returns-in-Ok-clause-fit g c = λ x among.
    changes_fit c.args.register.now.state c.args.change.now x (subst (IsIn x) c.in-Ok.ensures among)
