use Rattle.std.proofs.Common.{◌≡◌, rules}
use Rattle.vet_item_rows.proofs.read.projects.edge_ends.Goals as goal

pub returns : goal.returns
returns c f stands =
    let from : c.in_ok-read_end.field-0 ≡ f.item.from = search rules in
    let to : c.in_ok-read_end-2.field-0 ≡ f.item.to = search rules in
    let kind : c.in_ok-kind.kind ≡ f.item.kind = search rules in
    λ i. record { from = from i; to = to i; kind = kind i }
