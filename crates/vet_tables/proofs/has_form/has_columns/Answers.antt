use Rattle.std.proofs.Common.{refl, sym, ◌∙◌}
use Rattle.std.proofs.lemmas.Bool.{true≢false}
use Rattle.vet_tables.proofs.FormColumns.{agree_all, agree_more, apart_at}
use Rattle.vet_tables.proofs.has_form.has_columns.Goals as goal

pub places-preserved : goal.places-preserved
places-preserved c =
    agree_more c.columns-wanted.result.now c.args.form.now.columns c.columns-wanted.ensures
    c.as_slice-columns.result.now c.places.at c.places-test.true c.if-columns-wanted.false _
    c.index-columns-at.result c.index-columns-at.is (c.is_column.ensures.0 c.if-not-is_column.false) c.places.invariant

pub returns-then-not-is_column : goal.returns-then-not-is_column
returns-then-not-is_column c = (
  λ never. absurd (true≢false (sym never)),
  λ same. sym c.if-not-is_column.true ∙ c.is_column.ensures.1
      (apart_at c.columns-wanted.result.now c.args.form.now.columns c.columns-wanted.ensures
      c.as_slice-columns.result.now c.places.at c.places-test.true c.if-columns-wanted.false _
      c.index-columns-at.result c.index-columns-at.is (c.as_slice-columns.ensures ∙ same)),
)

pub returns : goal.returns
returns c = (
  λ _. sym c.as_slice-columns.ensures ∙ agree_all c.columns-wanted.result.now c.args.form.now.columns
      c.columns-wanted.ensures c.as_slice-columns.result.now c.places.at c.if-columns-wanted.false c.places-test.false
      c.places.invariant,
  λ _. refl,
)
