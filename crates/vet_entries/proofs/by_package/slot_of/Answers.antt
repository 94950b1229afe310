use Rattle.std.proofs.Common.{ltb, rules, subst, sym}
use Rattle.std.specs.List.{between}
use Rattle.std.specs.List.Sorted.{IsNonDecreasingBy}
use Rattle.std.proofs.lemmas.List.Sorted.{IsPartitionPoint-from_clause, IsPartitionedBy-ltb}
use Rattle.vet_entries.proofs.ByPackage.{range_is_places, slot_is, places_rise}
use Rattle.vet_entries.proofs.by_package.slot_of.Goals as goal

pub returns : goal.returns
returns c =
    let r = c.range_of-low.ensures in
    let order = c.args.order.now in
    let here = between c.range_of-low.result.0 c.range_of-low.result.1 order in
    let rising = subst (IsNonDecreasingBy (λ other. other))
    (sym (range_is_places c.args.entries.now c.args.name.now order _ _ c.requires.by_package r))
    (places_rise c.args.entries.now c.args.name.now) in
    let parted = IsPartitionedBy-ltb (λ other. other) here c.args.place rising in
    let point = IsPartitionPoint-from_clause (λ other. ltb other c.args.place) here _
    c.partition_point.ensures.partitioned parted (λ a r q k. search rules) in
    slot_is c.args.entries.now c.args.name.now c.args.place order _ _ _ r c.partition_point.ensures.bound point
