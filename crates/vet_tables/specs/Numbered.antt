-- Rows that have each a rowid of its own (ours).
use Rattle.std.specs.Prelude.{◌≡◌, List, false, true}
use Rattle.std.specs.List.{AllByRecursion}
use Rattle.std.specs.Ordering.{is_eq}
use Rattle.sqlite_trees.specs.Tree.{IsAscending, rowid}
use Rattle.sqlite_trees.specs.View.{is_int}
use Rattle.sqlite_value.specs.Order.{Row, value_cmp}

abbrev pub AreApart : Row → Row → Type 0
AreApart a b = is_eq (value_cmp (rowid a) (rowid b)) ≡ false

pub record AreNumbered (rows : List Row) : Type 0 where
  pub ints : AllByRecursion (λ r. is_int (rowid r) ≡ true) rows
  pub apart : IsAscending AreApart rows
