use Rattle.std.proofs.Common.{List, subst, arith}
use Rattle.std.specs.List.{All}
use Rattle.std.proofs.lemmas.List.{take_all}
use Rattle.std.proofs.lemmas.List.Elements.{All-more}
use Rattle.vet_entries.specs.Publishers.{IsInOrder}
use Rattle.vet_entries.specs.declared.publisher_records.PackagePublishers.{PackagePublishers}
use Rattle.vet_register.proofs.sound_held.stand_in_order.Goals as goal

pub packages-preserved : goal.packages-preserved
packages-preserved c =
    let stands = (λ (held : PackagePublishers). IsInOrder held.publishers) in
    let held = c.held-item.result in
    All-more stands c.args.packages.now c.packages.held-index held c.packages-test.true c.packages.invariant
    (subst stands c.held-item.is c.as_slice.ensures.in_order)

pub returns : goal.returns
returns c = subst (λ (packages : List PackagePublishers). All (λ held. IsInOrder held.publishers) packages)
    (take_all c.packages.held-index c.args.packages.now (omega (arith, c.packages-test.false))) c.packages.invariant
