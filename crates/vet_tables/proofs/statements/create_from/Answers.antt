use Rattle.std.proofs.Common.{◌≡◌, IsTrue, arith, inl, inr, refl, rules, subst}
use Rattle.sqlite.proofs.StateLemmas.{survives_then}
use Rattle.sqlite.specs.Held.{state}
use Rattle.sqlite.specs.State.{HasCleanDisk}
use Rattle.vet_tables.specs.Makes.{MakesTable}
use Rattle.vet_tables.proofs.Making.{makes_more, makes_none}
use Rattle.vet_tables.proofs.Steps.{survives_same}
use Rattle.vet_tables.proofs.Steps.{keeps_same, keeps_then}
use Rattle.vet_tables.proofs.statements.create_from.Goals as goal
use Rattle.vet_tables.specs.declared.table_name.TheConstants.{TABLE_COUNT}

pub tables-preserved : goal.tables-preserved
tables-preserved g c =
    let a = state g.S.Store c.args.tx.now.conn.now in
    let b = state g.S.Store c.tables.tx.conn.now in
    let d = state g.S.Store c.create.new.tx.conn.now in
    let inv = c.tables.invariant in
    record {
      begun = omega (arith, inv.begun);
      within = omega (arith, c.tables-test.true);
      same_reference = search rules;
      kept = λ clean. keeps_then a b d (c.tables.invariant.kept (omega (arith, c.create.ensures.survives.clean)))
          (c.create.ensures.kept clean);
      survives = survives_then a b d _ _ _ (λ _ db none. none)
          (λ _ db none. none) c.tables.invariant.survives c.create.ensures.survives;
      makes = λ clean serves inside.
          let early : HasCleanDisk b = omega (arith, c.create.ensures.survives.clean) in
          let was = c.tables.invariant.makes early serves inside in
          makes_more a b d c.args.first c.tables.at c.table_at.result inv.begun c.table_at.ensures was
          (c.in_ok-create.ensures.makes clean was.inside);
      opens = λ clean inside.
          let early : HasCleanDisk b = omega (arith, c.create.ensures.survives.clean) in
          inr (elim (c.tables.invariant.opens early inside) [
            | inl first ↦ (subst (λ h. IsTrue h.in_transaction → MakesTable (state g.S.Store h) d c.table_at.result)
                first.1 (c.in_ok-create.ensures.makes clean) inside).was_open
            | inr serves ↦ serves
          ]);
    }

pub tables-init : goal.tables-init
tables-init g c =
    let a = state g.S.Store c.args.tx.now.conn.now in
    record {
      begun = omega arith;
      within = omega (arith, c.requires);
      same_reference = refl;
      kept = λ clean. keeps_same a;
      survives = survives_same a _;
      makes = λ clean serves inside. makes_none a c.args.first serves inside;
      opens = λ clean inside. inl (refl, refl);
    }

pub returns-clause-makes : goal.returns-clause-makes
returns-clause-makes g c =
    let all : c.tables.at ≡ TABLE_COUNT = omega (arith, c.tables.invariant.within, c.tables-test.false) in
    rw all at c.tables.invariant.makes

pub returns-clause-opens : goal.returns-clause-opens
returns-clause-opens g c clean inside =
    let all : c.tables.at ≡ TABLE_COUNT = omega (arith, c.tables.invariant.within, c.tables-test.false) in
    elim (c.tables.invariant.opens clean inside) [
      | inl first ↦ absurd (omega (arith, all, first.0, c.requires))
      | inr serves ↦ serves
    ]
