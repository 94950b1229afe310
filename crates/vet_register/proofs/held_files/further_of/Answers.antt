use Rattle.std.proofs.Common.{◌≡◌, ◌∙◌, ap}
use Rattle.std.specs.List.{filter_map}
use Rattle.std.proofs.lemmas.Result.{IfOk-weaker}
use Rattle.vet_base.specs.FurtherCriteria.{further}
use Rattle.vet_register.specs.HeldFiles.{further_at}
use Rattle.vet_register.proofs.FurtherCriteria.{further_is}
use Rattle.vet_register.proofs.held_files.further_of.Goals as goal

pub returns : goal.returns
returns c =
    let table = c.args.table.now in
    IfOk-weaker c.further_named.result (λ copies. copies.items ≡ filter_map (further_at table) c.names.result.now)
    (λ copies. copies.items ≡ further table)
    (λ copies is. is ∙ ap (filter_map (further_at table)) c.names.ensures.names ∙ further_is table
    c.names.ensures.table)
    c.further_named.ensures
