use Rattle.std.proofs.Common.{ap, ◌∙◌}
use Rattle.vet_masks.specs.Standings.{all_stands}
use Rattle.vet_masks.proofs.Standings.{values-in_slots}
use Rattle.vet_masks.proofs.standing.Standing.all.Goals as goal

pub packages-init : goal.packages-init
packages-init c = record {
  next = tt;
  finite = tt;
  items = rw (
    c.new-all.ensures.items,
    c.into_iter-stands-iterator.ensures.into_iter_gives,
    c.values-stands-items.ensures.rest,
  )
      (values-in_slots c.self.inside.packages.entries ∙ ap all_stands c.self.view_is);
}
