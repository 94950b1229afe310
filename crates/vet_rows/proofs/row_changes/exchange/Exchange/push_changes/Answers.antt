use Rattle.vet_rows.proofs.row_changes.exchange.Exchange.push_changes.Goals as goal

pub returns : goal.returns
returns c = rw (c.into_items-removed.ensures, c.into_items-added.ensures) at c.push_row_changes.ensures
