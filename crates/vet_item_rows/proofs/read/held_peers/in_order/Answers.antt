use Rattle.std.proofs.Common.{◌∙◌, subst, sym}
use Rattle.std.specs.Ordering.{nat_cmp}
use Rattle.vet_base.specs.Keyed.{IsByKey}
use Rattle.vet_entries.specs.Numbered.{entry_number}
use Rattle.vet_item_rows.proofs.PeersMade.{by_number, in_order_is}
use Rattle.vet_item_rows.proofs.read.held_peers.in_order.Goals as goal

pub returns-clause-by_number : goal.returns-clause-by_number
returns-clause-by_number c =
    by_number c.into_items.result.items
    (subst (IsByKey nat_cmp entry_number) (sym c.into_items.ensures.value) c.into_items.ensures.by_key)

pub returns-clause-back : goal.returns-clause-back
returns-clause-back c held up same =
    c.into_items.ensures.value ∙ c.in_ok-of.ensures ∙ in_order_is c.args.entries.items held up same
