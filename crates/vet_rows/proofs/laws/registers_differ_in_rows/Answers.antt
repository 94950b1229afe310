use Rattle.std.proofs.Common.{◌∙◌, subst, sym}
use Rattle.vet_rows.specs.HeldState.{SameButStanding}
use Rattle.vet_rows.specs.RowsOf.{rows_of}
use Rattle.vet_rows.proofs.StateRead.{own_rows}
use Rattle.vet_rows.proofs.laws.registers_differ_in_rows.Goals as goal
use Rattle.vet_tables.specs.Cells.{RowsValue}
use Rattle.vet_tables.specs.declared.version.TablesVersion.TheVariants.{Second}

pub returns-in-Ok-clause-differ : goal.returns-in-Ok-clause-differ
returns-in-Ok-clause-differ g c same =
    let s = c.args.register.now.state in
    let t = c.args.other.now.state in
    let own = subst (λ (rows : RowsValue). SameButStanding rows (rows_of s)) (sym c.in_ok-rows.ensures.ok)
    (own_rows s) in
    let others = subst (λ (rows : RowsValue). SameButStanding rows (rows_of t)) (sym c.in_ok-rows.ensures.ok) same in
    sym (c.in-Ok.ensures.back Second s c.facts.ensures.sound c.register_is_held.ensures own)
    ∙ c.in-Ok.ensures.back Second t c.facts-2.ensures.sound c.register_is_held-2.ensures others

pub returns-clause-memory : goal.returns-clause-memory
returns-clause-memory g c =
    let s = c.args.register.now.state in
    let own = subst (λ (rows : RowsValue). SameButStanding rows (rows_of s)) (sym c.in_ok-rows.ensures.ok)
    (own_rows s) in
    c.in-Err.ensures.back Second s c.facts.ensures.sound c.register_is_held.ensures own
