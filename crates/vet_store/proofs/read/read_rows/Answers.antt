use Rattle.std.proofs.Common.{◌≡◌, ◌+◌, ◌∙◌, [], Ok, ap, arith, length, map, refl, subst, sym}
use Rattle.std.proofs.lemmas.List.{length_push}
use Rattle.sqlite.proofs.StateLemmas.{survives_then}
use Rattle.sqlite.specs.Held.{state}
use Rattle.sqlite.specs.State.{HasCleanDisk}
use Rattle.vet_store.proofs.ReadRows.{IsReadAt, all_stand, behind_end, keeps_self, none_stands, read_more, still_shows}
use Rattle.vet_store.proofs.ReadRows.{still_unchanged}
use Rattle.vet_store.proofs.read.read_rows.Goals as goal
use Rattle.vet_store.specs.Read.{IsUnread}
use Rattle.vet_tables.proofs.Resting.{keeps_then}
use Rattle.vet_tables.proofs.Steps.{survives_same}
use Rattle.vet_tables.proofs.Versions.{some_tables}
use Rattle.vet_tables.specs.Cells.{rows_in, values_of}
use Rattle.vet_tables.specs.Forms.{code}
use Rattle.vet_tables.specs.Read.{AreRead}
use Rattle.vet_tables.specs.Versions.{table_count}

pub tables-init : goal.tables-init
tables-init g c =
    let old = state g.S.Store c.args.conn.now in
    record {
      start = λ _. refl;
      same = λ clean some. absurd (omega (arith, some));
      kept = λ clean. keeps_self old;
      mode = λ before. before;
      survives = survives_same old _;
      read = λ clean n low. absurd (omega (arith, low));
      long = ap length c.new-rows.ensures;
    }

pub tables-preserved : goal.tables-preserved
tables-preserved g c =
    let inv = c.tables.invariant in
    let at = c.tables.at in
    let first = c.args.conn.now in
    let before = c.tables.conn in
    let last = c.read_table.new.conn in
    let a = state g.S.Store first in
    let b = state g.S.Store before in
    let d = state g.S.Store last in
    let lists = c.tables.rows.tables.items in
    let next = c.in-Some.found.items in
    let pushed = c.in_ok-push.ensures.ok in
    let table = c.table_at.result in
    record {
      start = λ none. absurd (omega (arith, none));
      same = λ clean _.
          let early : HasCleanDisk b = omega (arith, c.read_table.ensures.survives.clean) in
          still_unchanged g.S.Store first before last at inv.start (inv.same early) (c.in_ok-found.ensures.same clean);
      kept = λ clean.
          let early : HasCleanDisk b = omega (arith, c.read_table.ensures.survives.clean) in
          keeps_then a b d (inv.kept early) (c.read_table.ensures.kept clean);
      mode = λ outside. c.read_table.ensures.mode (inv.mode outside);
      survives = survives_then a b d _ _ _ (λ _ db none. none)
          (λ _ db none. none) inv.survives c.read_table.ensures.survives;
      read = λ clean n low.
          let early : HasCleanDisk b = omega (arith, c.read_table.ensures.survives.clean) in
          let shows = still_shows g.S.Store first before at inv.start (inv.same early) in
          let here = subst (λ db. AreRead db table (map values_of next)) shows
          (rw c.in-Some.is at (c.in_ok-found.ensures.found clean)) in
          subst (λ all. IsReadAt a.now all n) (sym pushed)
          (read_more a.now lists next table (c.table_at.ensures ∙ sym inv.long)
          (λ m less. inv.read early m (omega (arith, less, inv.long))) here n (omega (arith, low, inv.long)));
      long = ap length pushed ∙ length_push lists next ∙ ap (λ n. n + 1) inv.long;
    }

pub returns-in_default-clause-none : goal.returns-in_default-clause-none
returns-in_default-clause-none g c clean _ =
    let inv = c.tables.invariant in
    let b = state g.S.Store c.tables.conn in
    let early : HasCleanDisk b = omega (arith, c.read_table.ensures.survives.clean, clean) in
    let shows = still_shows g.S.Store c.args.conn.now c.tables.conn c.tables.at inv.start (inv.same early) in
    none_stands (table_count c.args.version) (state g.S.Store c.args.conn.now).now c.table_at.result
    (omega (arith, c.table_at.ensures, c.tables-test.true, c.table_count-count.ensures.count))
    (subst (λ db. IsUnread db c.table_at.result) shows (c.in_ok-found.ensures.none clean (ap Ok c.in_default.is)))

pub returns-in_default-clause-same : goal.returns-in_default-clause-same
returns-in_default-clause-same g c clean =
    let inv = c.tables.invariant in
    let b = state g.S.Store c.tables.conn in
    let early : HasCleanDisk b = omega (arith, c.read_table.ensures.survives.clean, clean) in
    still_unchanged g.S.Store c.args.conn.now c.tables.conn c.read_table.new.conn c.tables.at inv.start (inv.same early)
    (c.in_ok-found.ensures.same clean)

pub returns-in_default-clause-kept : goal.returns-in_default-clause-kept
returns-in_default-clause-kept g c clean =
    let inv = c.tables.invariant in
    let b = state g.S.Store c.tables.conn in
    let early : HasCleanDisk b = omega (arith, c.read_table.ensures.survives.clean, clean) in
    keeps_then (state g.S.Store c.args.conn.now) b (state g.S.Store c.read_table.new.conn) (inv.kept early)
    (c.read_table.ensures.kept clean)

pub returns-in_err-found-clause-kept : goal.returns-in_err-found-clause-kept
returns-in_err-found-clause-kept g c clean =
    let inv = c.tables.invariant in
    let b = state g.S.Store c.tables.conn in
    let early : HasCleanDisk b = omega (arith, c.read_table.ensures.survives.clean, clean) in
    keeps_then (state g.S.Store c.args.conn.now) b (state g.S.Store c.read_table.new.conn) (inv.kept early)
    (c.read_table.ensures.kept clean)

pub returns-in_err-push-clause-kept : goal.returns-in_err-push-clause-kept
returns-in_err-push-clause-kept g c clean =
    let inv = c.tables.invariant in
    let b = state g.S.Store c.tables.conn in
    let early : HasCleanDisk b = omega (arith, c.read_table.ensures.survives.clean, clean) in
    keeps_then (state g.S.Store c.args.conn.now) b (state g.S.Store c.read_table.new.conn) (inv.kept early)
    (c.read_table.ensures.kept clean)

pub returns-clause-found : goal.returns-clause-found
returns-clause-found g c clean =
    let inv = c.tables.invariant in
    let count = table_count c.args.version in
    let all : c.tables.at ≡ count =
    omega (arith, c.tables.auto.at-end, c.tables-test.false, c.table_count-count.ensures.count) in
    let old = state g.S.Store c.args.conn.now in
    let start : HasCleanDisk old = omega (arith, inv.survives.clean, clean) in
    let same = inv.same clean (omega (arith, all, some_tables c.args.version)) in
    all_stand count old.now (rows_in c.tables.rows) (c.schema-live.ensures.live same.0.was_open).0 (c.requires start)
    (λ n low. inv.read clean n (omega (arith, all, low)))
    (λ n high. ap (map values_of)
    (behind_end c.tables.rows.tables.items (code n) [] (omega (arith, all, high, inv.long))))

pub returns-clause-same : goal.returns-clause-same
returns-clause-same g c clean =
    let all : c.tables.at ≡ table_count c.args.version =
    omega (arith, c.tables.auto.at-end, c.tables-test.false, c.table_count-count.ensures.count) in
    c.tables.invariant.same clean (omega (arith, all, some_tables c.args.version))
