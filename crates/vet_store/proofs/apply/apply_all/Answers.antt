use Rattle.std.proofs.Common.{◌≡◌, ◌∙◌, ◌∷◌, [], IsTrue, List, arith, inl, inr, length, refl, rules, subst, sym}
use Rattle.sqlite.proofs.StateLemmas.{survives_then}
use Rattle.sqlite.specs.Held.{state}
use Rattle.sqlite.specs.State.{HasCleanDisk}
use Rattle.vet_rows.specs.RowChanges.{changed}
use Rattle.vet_rows.specs.declared.row_change.RowChange.{RowChange}
use Rattle.vet_store.specs.Changes.{Changes}
use Rattle.vet_store.proofs.Steps.{changes_more, in_at}
use Rattle.vet_tables.proofs.Steps.{keeps_then}
use Rattle.vet_store.proofs.apply.apply_all.Goals as goal

pub apply-requires : goal.apply-requires
apply-requires g c =
    c.requires c.change-item.result
    (in_at c.args.changes.now c.loop-change.change-index c.change-item.result c.loop-change-test.true c.change-item.is)

pub loop-change-preserved : goal.loop-change-preserved
loop-change-preserved g c =
    let a = state g.S.Store c.args.tx.now.conn.now in
    let b = state g.S.Store c.loop-change.tx.conn.now in
    let d = state g.S.Store c.apply.new.tx.conn.now in
    record {
      same_reference = search rules;
      kept = λ clean. keeps_then a b d (c.loop-change.invariant.kept (omega (arith, c.apply.ensures.survives.clean)))
          (c.apply.ensures.kept clean);
      survives = survives_then a b d _ _ _ (λ _ db none. none)
          (λ _ db none. none) c.loop-change.invariant.survives c.apply.ensures.survives;
      changes = λ clean serves inside.
          let early : HasCleanDisk b = omega (arith, c.apply.ensures.survives.clean) in
          let was = c.loop-change.invariant.changes early serves inside in
          changes_more a b d c.args.changes.now c.change-item.result c.loop-change.change-index
          c.loop-change-test.true was (c.in_ok-apply.ensures.changes clean was.inside) c.change-item.is;
      opens = λ clean inside.
          let early : HasCleanDisk b = omega (arith, c.apply.ensures.survives.clean) in
          inr (elim (c.loop-change.invariant.opens early inside) [
            | inl first ↦ (subst (λ h. IsTrue h.in_transaction → Changes (state g.S.Store h) d
                (changed c.change-item.result)) first.1 (c.in_ok-apply.ensures.changes clean) inside).was_open
            | inr serves ↦ serves
          ]);
    }

pub returns-clause-opens : goal.returns-clause-opens
returns-clause-opens g c clean inside =
    let all : c.loop-change.change-index ≡ length c.args.changes.now = omega (arith, c.loop-change-test.false) in
    elim (c.loop-change.invariant.opens clean inside) [
      | inl first ↦ inl (empty c.args.changes.now (sym all ∙ first.0))
      | inr serves ↦ inr serves
    ]
  where
    empty : (changes : List RowChange) → length changes ≡ 0 → changes ≡ []
    empty [] h = refl
    empty (change ∷ rest) h = absurd (omega (arith, h))
