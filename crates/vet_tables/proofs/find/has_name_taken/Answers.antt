use Rattle.std.proofs.Common.{◌≤◌, ap, arith, refl, subst, sym, ◌∙◌}
use Rattle.vet_tables.proofs.TablePlaces.{few, up_to}
use Rattle.vet_tables.proofs.find.has_name_taken.Goals as goal
use Rattle.vet_tables.specs.Form.{TableForm}
use Rattle.vet_tables.specs.Forms.{code, form_of}
use Rattle.vet_tables.specs.Free.{IsFree}

pub tables-init : goal.tables-init
tables-init c = record {
  begun = omega arith;
  free = λ n low high. absurd (omega (arith, low, high));
}

pub tables-preserved : goal.tables-preserved
tables-preserved c =
    let inv = c.tables.invariant in
    record {
      begun = omega (arith, inv.begun);
      free = up_to (λ n. c.args.first ≤ code n → IsFree c.args.schema.now (form_of n).name) c.tables.at
          c.table_at.result c.table_at.ensures inv.free
          (λ high. subst (IsFree c.args.schema.now) (c.name.ensures ∙ ap (λ (f : TableForm). f.name) c.form.ensures)
          (c.is_free.ensures.free (rw c.if-not-is_free.false refl)));
    }

pub returns-then-not-is_free-clause-taken : goal.returns-then-not-is_free-clause-taken
returns-then-not-is_free-clause-taken c _ free =
    c.is_free.ensures.taken c.if-not-is_free.true
    (subst (IsFree c.args.schema.now) (sym (c.name.ensures ∙ ap (λ (f : TableForm). f.name) c.form.ensures))
    (free c.table_at.result (omega (arith, c.tables.invariant.begun, c.table_at.ensures))))

pub returns-clause-free : goal.returns-clause-free
returns-clause-free c _ n high = c.tables.invariant.free n (omega (arith, few n, c.tables-test.false)) high
