use Rattle.std.proofs.Common.{rules, ◌≡◌, ap}
use Rattle.std.specs.BTreeMap.{is_at}
use Rattle.std.specs.Map.{lookup}
use Rattle.vet_base.specs.VersionOrder.{version_cmp}
use Rattle.vet_masks.proofs.Copies.{copies-map, copies-same}
use Rattle.vet_masks.proofs.index.Index.copied.Goals as goal

pub returns-clause-numbers : goal.returns-clause-numbers
returns-clause-numbers c v = ap (lookup (is_at (version_cmp v)))
    (copies-same _ (λ x y h. (let key : y.0 ≡ x.0 = search rules in λ j. (key j, h.1 j)))
    c.args.self.now.numbers.entries c.in_ok-clone.field-0.entries c.in_ok-clone.ensures.cases)

pub returns-clause-ends : goal.returns-clause-ends
returns-clause-ends c =
    copies-same _ (λ x y h. h) c.args.self.now.ends.items c.in_ok-clone-2.field-0.items c.in_ok-clone-2.ensures.cases.0

pub returns-clause-after : goal.returns-clause-after
returns-clause-after c =
    copies-map _ (λ l. l.items) (λ x y h. copies-same _ (λ v w k. k) x.items y.items h.0) c.args.self.now.after.items
    c.in_ok-clone-3.field-0.items c.in_ok-clone-3.ensures.cases.0
