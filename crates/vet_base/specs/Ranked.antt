-- Lists of values in an order in which different ones may tie (ours).
use Rattle.std.specs.Prelude.{◌≡◌, List}
use Rattle.std.specs.List.{AllPairs}
use Rattle.std.specs.declared.cmp.Ordering.{Ordering}
use Rattle.std.specs.declared.cmp.Ordering.TheVariants.{Less}

-- each value comes before all those after it, so that no two tie
abbrev pub IsRanked : {E : Type 0} → (E → E → Ordering) → List E → Type 0
IsRanked cmp values = AllPairs (λ a b. cmp a b ≡ Less) values
