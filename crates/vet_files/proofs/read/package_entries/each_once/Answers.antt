use Rattle.std.proofs.Common.{◌≡◌, ◌≤◌, List, length, ap, ◌∙◌, arith}
use Rattle.vet_entries.specs.declared.entry.Entry.{Entry}
use Rattle.vet_entries.specs.Distinct.{distinct}
use Rattle.vet_entries.specs.DistinctLaws.{distinct-length}
use Rattle.vet_files.proofs.read.package_entries.each_once.Goals as goal

no_more : (given taken kept : List Entry) → taken ≡ given → kept ≡ distinct taken → length kept ≤ length given
no_more given taken kept all is = omega (arith, distinct-length taken, ap length is, ap length all)

pub overflow_sub-doubles : goal.overflow_sub-doubles
overflow_sub-doubles c =
    let fewer = no_more _ _ c.of-content.result c.into_vec.ensures (c.of-content.ensures ∙ c.in_ok-distinct.ensures) in
    omega (arith, c.len.ensures, c.len-read.ensures)
