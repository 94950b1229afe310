use Rattle.std.proofs.Common.{◌∙◌, Err, not, refl, ap, subst, sym}
use Rattle.sqlite.specs.Held.{state}
use Rattle.vet_rows.specs.RowsOf.{rows_of}
use Rattle.vet_store.proofs.Tying.{tied_standing}
use Rattle.vet_store.proofs.store.Store.open.Goals as goal
use Rattle.vet_store.specs.Made.{IsAsBefore}
use Rattle.vet_tables.specs.Versions.{HasSomeVersion, HasVersion}

-- ---- without the tables of a version

pub returns-in_default-clause-none : goal.returns-in_default-clause-none
returns-in_default-clause-none g c is clean t h =
    c.version_of.ensures.none c.in_default.is
    (subst HasSomeVersion (sym c.schema.ensures.value) (h.version, h.holds.first))

pub returns-in_default-clause-as_before : goal.returns-in_default-clause-as_before
returns-in_default-clause-as_before g c clean serves =
    let conn = c.args.conn in
    let same = c.no_register.ensures.conn in
    let was = rw same at serves in
    subst (λ h. IsAsBefore (state g.S.Store conn) (state g.S.Store h)) (sym same) (
      record {
        is_open = was;
        autocommit = c.requires.autocommit;
        settled = c.is_autocommit-rests.ensures.settled
            (c.is_autocommit-rests.ensures.value ∙ ap not c.requires.autocommit) was;
      },
      refl,
    )

-- ---- with them

pub open_tables-requires-clause-tables : goal.open_tables-requires-clause-tables
open_tables-requires-clause-tables g c =
    subst (HasVersion c.in-Some.version) c.schema.ensures.value (rw c.in-Some.is at c.version_of.ensures.found)

pub invariant_of-result : goal.invariant_of-result
invariant_of-result g c =
    tied_standing (state g.S.Store c.open_tables.new.conn) (rows_of c.in-Ok.register.state) c.open_tables.ensures.mode
    (λ clean. c.in-Ok.ensures.stands clean)
    (λ trees serves may. g.met.S.Store.settled c.open_tables.new.conn.store trees serves may)

pub returns-in-Ok-clause-foreign : goal.returns-in-Ok-clause-foreign
returns-in-Ok-clause-foreign g c foreign =
    foreign (subst HasSomeVersion c.schema.ensures.value
    (c.in-Some.version, rw c.in-Some.is at c.version_of.ensures.found))

pub returns-in-Err-clause-foreign : goal.returns-in-Err-clause-foreign
returns-in-Err-clause-foreign g c foreign =
    absurd (foreign (subst HasSomeVersion c.schema.ensures.value
    (c.in-Some.version, rw c.in-Some.is at c.version_of.ensures.found)))

pub returns-in-Err-clause-none : goal.returns-in-Err-clause-none
returns-in-Err-clause-none g c is clean t h = c.open_tables.ensures.none clean (c.in-Err.is ∙ ap Err is) t h

pub returns-in-Ok-clause-tables : goal.returns-in-Ok-clause-tables
returns-in-Ok-clause-tables g c = (refl, invariant_of-result g c)
