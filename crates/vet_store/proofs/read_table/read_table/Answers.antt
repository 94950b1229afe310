use Rattle.std.proofs.Common.{◌≡◌, ◌<◌, ◌++◌, [], ◌∷◌, FitsSigned, Some, drop, false, map, refl, ap, subst, ◌∙◌, rules}
use Rattle.std.proofs.Common.{arith, to_z, of_z, w64}
use Rattle.std.proofs.lemmas.List.{map-append}
use Rattle.sqlite.proofs.Callers.{given_begin, unchanged_then}
use Rattle.sqlite.proofs.StateLemmas.{survives_then}
use Rattle.sqlite.specs.Held.{state}
use Rattle.sqlite.specs.State.{CommitsShowing, HasCleanDisk, Survives}
use Rattle.vet_tables.proofs.Readings.{begun_quiet, read_shows, rise_more, rise_none, row_typed, survives_quiet}
use Rattle.vet_tables.proofs.Readings.{unchanged_self}
use Rattle.vet_tables.proofs.Rising.{fewer_above, ids_above}
use Rattle.vet_tables.proofs.Resting.{keeps_failed, keeps_unchanged}
use Rattle.vet_store.proofs.read_table.read_table.Goals as goal
use Rattle.vet_store.proofs.ReadRows.{rows_typed}
use Rattle.vet_tables.specs.Cells.{contents_of, values_of}
use Rattle.vet_tables.specs.Forms.{form_of}
use Rattle.vet_tables.specs.Read.{KeepsRest}
use Rattle.vet_tables.specs.Texts.{select_text}
use Rattle.vet_tables.specs.Typed.{AreTyped, kinds_of}

pub returns-in_err-found-clause-survives : goal.returns-in_err-found-clause-survives
returns-in_err-found-clause-survives g c =
    let old = state g.S.Store c.args.conn.now in
    let new = state g.S.Store c.query.follows.lender-at-none in
    let held = c.query.follows.holds-at-none in
    let kept : Survives old new (CommitsShowing c.select.result.now [] old) = search rules in
    survives_quiet c.args.table old new (rw (c.select.ensures, c.form-form.ensures) at kept)

pub returns-in_err-found-clause-kept : goal.returns-in_err-found-clause-kept
returns-in_err-found-clause-kept g c clean =
    let old = state g.S.Store c.args.conn.now in
    let new = state g.S.Store c.query.follows.lender-at-none in
    let held = rw c.in_err-found.was at c.query.follows.holds-at-none in
    keeps_failed c.args.table old new _
    (rw (c.select.ensures, c.form-form.ensures) at (held.err clean))

pub rows-init : goal.rows-init
rows-init g c =
    let made = c.in_ok-found.ensures in (
      refl,
      survives_quiet c.args.table _ _ (rw
          (c.select.ensures, c.form-form.ensures) at made.survives),
      λ clean.
          let it = begun_quiet g.S.Store c.args.table c.args.conn.now c.in_ok-found.found.conn.now
          (rw (c.select.ensures, c.form-form.ensures) at (made.begun clean)) in
          ([], it.0, it.1, rw c.new-rows.ensures.items refl, rise_none),
      made.mode,
    )

pub returns-in_default-clause-found : goal.returns-in_default-clause-found
returns-in_default-clause-found g c clean has =
    let old = state g.S.Store c.args.conn.now in
    let before = state g.S.Store c.rows.found.conn.now in
    let moved = c.next.follows.holds-at-none in
    let now = c.next.follows.lender-at-none.conn.now in
    let late : HasCleanDisk (state g.S.Store now) = search rules in
    let was = c.rows.invariant.2 (omega (arith, moved.survives.clean)) in
    let shown = (rw (c.in_ok-row.was, c.in_default.is) at (moved.ok late))
    (select_text (form_of c.args.table)) [] was.0 was.1 in
    read_shows c.args.table old.now (c.schema-live.ensures.live was.2.0.was_open).0 has before was.2.0.now_is
    (state g.S.Store now) was.0
    (map values_of c.rows.rows.items) c.rows.last shown was.4 was.3

pub returns-then-not-are_typed-clause-none : goal.returns-then-not-are_typed-clause-none
returns-then-not-are_typed-clause-none g c clean _ has rows readable shows =
    let old = state g.S.Store c.args.conn.now in
    let before = state g.S.Store c.rows.found.conn.now in
    let moved = c.next.follows.holds-at-none in
    let now = c.next.follows.lender-at-none.conn.now in
    let late : HasCleanDisk (state g.S.Store now) = search rules in
    let was = c.rows.invariant.2 (omega (arith, moved.survives.clean)) in
    let more = (rw (c.in_ok-row.was, c.in-Some.is) at (moved.ok late))
    (select_text (form_of c.args.table)) [] was.0 was.1 in
    let whole = unchanged_then old before (state g.S.Store now) was.2 (rw c.in_ok-row.was at (moved.same late)) in
    let begins = given_begin g.S.Store (select_text (form_of c.args.table)) [] now (was.0 ++ c.in-Some.row.now
    ∷ []) more in
    let typed = row_typed c.args.table old.now (c.schema-live.ensures.live was.2.0.was_open).0 has
    (state g.S.Store now) whole.0.now_is was.0 c.in-Some.row.now begins
    (unchanged_self (state g.S.Store now) whole.0.is_open) (contents_of rows c.args.table)
    (rows_typed c.args.table rows readable) shows in
    c.are_typed.ensures.other c.if-not-are_typed.true (rw c.form-form.ensures typed)

pub returns-in_err-push-clause-survives : goal.returns-in_err-push-clause-survives
returns-in_err-push-clause-survives g c =
    let old = state g.S.Store c.args.conn.now in
    let before = state g.S.Store c.rows.found.conn.now in
    let moved = c.next.follows.holds-at-none in
    let now = c.next.follows.lender-at-none.conn.now in
    let whole = survives_then old before (state g.S.Store now) _ _ (λ _. ⊥) (λ _ db none. none)
    (λ _ db none. none) c.rows.invariant.1 moved.survives in
    let same : now ≡ c.conn-in_err-push-1.given.0 = search rules in
    subst (λ h. Survives old (state g.S.Store h) (λ _. ⊥)) same whole

pub returns-in_err-row-clause-mode : goal.returns-in_err-row-clause-mode
returns-in_err-row-clause-mode g c before =
    let moved = c.next.follows.holds-at-none in
    let late : c.next.follows.lender-at-none.conn.now.in_transaction ≡ false =
    moved.mode (c.rows.invariant.3 before) in
    search rules

pub returns-in_default-clause-mode : goal.returns-in_default-clause-mode
returns-in_default-clause-mode g c before =
    let moved = c.next.follows.holds-at-none in
    let late : c.next.follows.lender-at-none.conn.now.in_transaction ≡ false =
    moved.mode (c.rows.invariant.3 before) in
    search rules

pub returns-then-not-are_typed-clause-mode : goal.returns-then-not-are_typed-clause-mode
returns-then-not-are_typed-clause-mode g c before =
    let moved = c.next.follows.holds-at-none in
    let late : c.next.follows.lender-at-none.conn.now.in_transaction ≡ false =
    moved.mode (c.rows.invariant.3 before) in
    search rules

pub returns-then-not-rises-clause-mode : goal.returns-then-not-rises-clause-mode
returns-then-not-rises-clause-mode g c before =
    let moved = c.next.follows.holds-at-none in
    let late : c.next.follows.lender-at-none.conn.now.in_transaction ≡ false =
    moved.mode (c.rows.invariant.3 before) in
    search rules

pub returns-in_err-row_cells-clause-mode : goal.returns-in_err-row_cells-clause-mode
returns-in_err-row_cells-clause-mode g c before =
    let moved = c.next.follows.holds-at-none in
    let late : c.next.follows.lender-at-none.conn.now.in_transaction ≡ false =
    moved.mode (c.rows.invariant.3 before) in
    search rules

pub returns-in_err-push-clause-mode : goal.returns-in_err-push-clause-mode
returns-in_err-push-clause-mode g c before =
    let moved = c.next.follows.holds-at-none in
    let now = c.next.follows.lender-at-none.conn.now in
    let same : now ≡ c.conn-in_err-push-1.given.0 = search rules in
    subst (λ h. h.in_transaction ≡ false) same (moved.mode (c.rows.invariant.3 before))

pub returns-in_err-push-clause-kept : goal.returns-in_err-push-clause-kept
returns-in_err-push-clause-kept g c clean =
    let old = state g.S.Store c.args.conn.now in
    let before = state g.S.Store c.rows.found.conn.now in
    let moved = c.next.follows.holds-at-none in
    let now = c.next.follows.lender-at-none.conn.now in
    let late : HasCleanDisk (state g.S.Store now) = search rules in
    let was = c.rows.invariant.2 (omega (arith, moved.survives.clean)) in
    let whole = keeps_unchanged old (state g.S.Store now)
    (unchanged_then old before (state g.S.Store now) was.2 (rw c.in_ok-row.was at (moved.same late))) in
    let same : now ≡ c.conn-in_err-push-1.given.0 = search rules in
    subst (λ h. KeepsRest old (state g.S.Store h)) same whole

pub rows-preserved : goal.rows-preserved
rows-preserved g c =
    let old = state g.S.Store c.args.conn.now in
    let before = state g.S.Store c.rows.found.conn.now in
    let moved = c.next.follows.holds-at-none in
    let now = state g.S.Store c.next.follows.lender-at-none.conn.now in
    let row = c.in-Some.row.now in
    let read = c.in_ok-row_cells.field-0 in (
      moved.same_reference ∙ c.rows.invariant.0,
      survives_then old before now _ _ (λ _. ⊥) (λ _ db none. none)
          (λ _ db none. none) c.rows.invariant.1 moved.survives,
      λ clean.
          let was = c.rows.invariant.2 (omega (arith, moved.survives.clean)) in
          let more = (rw (c.in_ok-row.was, c.in-Some.is) at (moved.ok clean))
          (select_text (form_of c.args.table)) [] was.0 was.1 in
          let same = rw c.in_ok-row.was at (moved.same clean) in
          let typed : AreTyped (kinds_of (form_of c.args.table)) row =
          rw c.form-form.ensures at (c.are_typed.ensures.typed c.if-not-are_typed.false) in
          let is = c.in_ok-row_cells.ensures (c.are_typed.ensures.typed c.if-not-are_typed.false) in
          let id : to_z w64 (of_z w64 c.int_at-id.result) ≡ c.int_at-id.result = search rules in (
            was.0 ++ row ∷ [],
            more,
            unchanged_then old before now was.2 same,
            map-append (drop 1) was.0 (row ∷ []) ∙ rw (
              c.in_ok-push.ensures.items,
              map-append values_of c.rows.rows.items (read ∷ []),
              was.3,
            ) (ap (λ x. map values_of c.rows.rows.items ++ drop 1 x
                ∷ []) is),
            rw id (rise_more c.rows.last c.int_at-id.result was.0 row (c.int_at-id.ensures.of typed.rowid)
                (rw id at (c.rises.ensures c.if-not-rises.false)) was.4),
          ),
      λ before. moved.mode (c.rows.invariant.3 before),
    )

pub rows-smaller : goal.rows-smaller
rows-smaller g c =
    let id : to_z w64 (of_z w64 c.int_at-id.result) ≡ c.int_at-id.result = search rules in
    let fits : FitsSigned w64 c.int_at-id.result = search rules in
    let fewer : ids_above (Some (to_z w64 (of_z w64 c.int_at-id.result))) < ids_above c.rows.last =
    rw id (fewer_above c.rows.last c.int_at-id.result fits (rw id at (c.rises.ensures c.if-not-rises.false))) in
    fewer
