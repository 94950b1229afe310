use Rattle.std.proofs.Common.{◌||◌, sym, ap, ◌∙◌}
use Rattle.std.specs.Prelude.{◌&&◌}
use Rattle.std.specs.FinSet as set
use Rattle.std.specs.Option.{option_copied}
use Rattle.vet_base.specs.Criteria.{closure_at, leads_to, placed}
use Rattle.vet_entries.specs.PeerWords.{violated_names}
use Rattle.vet_entries.proofs.Violations.{or_nothing}
use Rattle.vet_entries.proofs.condemned.with_violated.Goals as goal

pub returns-then-not-violates : goal.returns-then-not-violates
returns-then-not-violates c k =
    let table = c.args.criteria.now in
    let named = leads_to table
    (placed table (violated_names (option_copied c.args.peer) c.args.held.now.entry.criteria)) k in
    or_nothing (leads_to table c.args.violated k) named
    ∙ ap (λ t. leads_to table c.args.violated k || (t && named)) (sym c.if-not-violates.true ∙ c.violates.ensures)

pub returns : goal.returns
returns c k =
    let table = c.args.criteria.now in
    let names = placed table (violated_names (option_copied c.args.peer) c.args.held.now.entry.criteria) in
    ap (λ places. leads_to table places k) (c.union.ensures ∙ ap (set.union c.args.violated) c.violated_set.ensures)
    ∙ c.meet_of_unions.ensures (closure_at table k) c.args.violated names
    ∙ ap (λ t. leads_to table c.args.violated k || (t && leads_to table names k))
    (sym c.if-not-violates.false ∙ c.violates.ensures)
