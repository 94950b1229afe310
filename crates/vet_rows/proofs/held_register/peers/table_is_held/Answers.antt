use Rattle.std.proofs.Common.{subst}
use Rattle.std.specs.FinMap as map
use Rattle.std.specs.List.{All}
use Rattle.vet_base.specs.Words.{Name}
use Rattle.vet_item_rows.specs.Values.{IsCriterion, MayBe}
use Rattle.vet_register.specs.HeldFiles.{further_at}
use Rattle.vet_register.proofs.FurtherCriteria.{further_is}
use Rattle.vet_rows.proofs.TablesHeld.{all_found}
use Rattle.vet_rows.proofs.held_register.peers.table_is_held.Goals as goal

pub returns : goal.returns
returns c =
    let table = c.args.table.now in
    subst (All IsCriterion) (further_is table c.names.ensures.table)
    (all_found IsCriterion (further_at table) (map.keys table)
    (subst (All (λ (n : Name). MayBe IsCriterion (further_at table n))) c.names.ensures.names c.named_are_held.ensures))
