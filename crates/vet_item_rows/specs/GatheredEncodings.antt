-- How a head and its items are stored (ours): as a pair.
use Rattle.std.specs.Prelude.{List}
use Rattle.std.specs.Coded.{Coded, code_by, coded×, coded_list}
use Rattle.std.proofs.Common.{refl}
use Rattle.vet_item_rows.specs.Gathered.{Gathered}

abbrev pub gathered_code : {H T : Type 0} → Coded H → Coded T → Coded (Gathered H T)
gathered_code {H} {T} of_head of_item =
    code_by (H × List T) (coded× of_head (coded_list of_item)) (λ g. (g.head, g.items))
    (λ p. record { head = p.0; items = p.1 }) (λ _. refl)
