use Rattle.std.proofs.Common.{inl, inr, arith, eq-or-lt_of_le, subst, sym, ◌+◌, ◌<◌, slice_index_or}
use Rattle.sqlite_schema.specs.declared.schema.Kind.TheVariants as kind
use Rattle.sqlite_value.specs.Order.{column}
use Rattle.vet_tables.proofs.FormColumns.{as_many_kinds, kind_at}
use Rattle.vet_tables.proofs.cells.are_typed.Goals as goal
use Rattle.vet_tables.specs.Typed.{IsKind, kinds_of}

pub returns-then-not-is_of_at-2-clause-other : goal.returns-then-not-is_of_at-2-clause-other
returns-then-not-is_of_at-2-clause-other c _ typed =
    let given = c.columns-columns.result.now in
    let forms = c.args.form.now.columns in
    let same = c.columns-columns.ensures in
    let within = subst (λ n. c.cells.at < n) (as_many_kinds given forms same) c.cells-test.true in
    c.is_of_at-in-cells.ensures.other c.if-not-is_of_at-2.true
    (subst (λ k. IsKind k (column c.args.row.now (c.cells.at + 1)))
    (kind_at given forms same c.cells.at c.cells-test.true _ kind.Any) (typed.cells c.cells.at within))

pub cells-preserved : goal.cells-preserved
cells-preserved c k low = elim (eq-or-lt_of_le {n = k} {m = c.cells.at} (omega (arith, low))) [
  | inl same ↦
      subst (λ i. IsKind (slice_index_or (kinds_of c.args.form.now) i kind.Any) (column c.args.row.now (i + 1)))
      (sym same)
      (subst (λ k. IsKind k (column c.args.row.now (c.cells.at + 1)))
      (sym (kind_at c.columns-columns.result.now c.args.form.now.columns c.columns-columns.ensures c.cells.at
      c.cells-test.true _ kind.Any))
      (c.is_of_at-in-cells.ensures.of c.if-not-is_of_at-2.false))
  | inr less ↦ c.cells.invariant k less
]
