use Rattle.vet_store.proofs.apply.apply.Goals as goal

pub put-requires : goal.put-requires
put-requires g c = rw c.in-Put.is at c.requires

pub drop_row-requires : goal.drop_row-requires
drop_row-requires g c = rw c.in-Drop.is at c.requires

pub returns-in-Put-clause-changes : goal.returns-in-Put-clause-changes
returns-in-Put-clause-changes g c = rw c.in-Put.is c.put.ensures.changes

pub returns-in-Drop-clause-changes : goal.returns-in-Drop-clause-changes
returns-in-Drop-clause-changes g c = rw c.in-Drop.is c.drop_row.ensures.changes

pub returns-in-Clear-clause-changes : goal.returns-in-Clear-clause-changes
returns-in-Clear-clause-changes g c = rw c.in-Clear.is c.clear.ensures.changes
