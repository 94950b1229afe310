use Rattle.std.proofs.lemmas.Result.{err_from_is_err_and}
use Rattle.toml.specs.View.{table_view}
use Rattle.vet_files.proofs.PoliciesGathered.{gathered-seen, ordered}
use Rattle.vet_files.proofs.Walks.{given-seen, refused-seen}
use Rattle.vet_files.proofs.read.policies.read_all.Goals as goal

pub returns-in_err-found : goal.returns-in_err-found
returns-in_err-found c =
    let passed = err_from_is_err_and c.from_residual.result c.from_residual.ensures.1 in
    rw (passed.1, passed.2)
    (refused-seen ordered _ _ _ (gathered-seen c.new.result c.none.result (table_view c.args.table.now) c.new.ensures
    c.none.ensures) c.in_err-found.ensures.told)

pub returns : goal.returns
returns c =
    given-seen ordered _ _ _ _ (gathered-seen c.new.result c.none.result (table_view c.args.table.now) c.new.ensures
    c.none.ensures) c.in_ok-found.ensures.told
    (λ i. record { content = c.in_ok-in_key_order.ensures i; notices = c.in_ok-found.found.notices })
