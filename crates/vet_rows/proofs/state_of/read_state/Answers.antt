use Rattle.std.proofs.Common.{◌∙◌, ap, refl}
use Rattle.vet_item_rows.proofs.Reading.{passed_on}
use Rattle.vet_rows.specs.ReadState.{meta_in}
use Rattle.vet_rows.specs.declared.meta.Meta.{Meta}
use Rattle.vet_rows.proofs.FactsInForm.{in_form}
use Rattle.vet_rows.proofs.StateRead.{facts_rows, made_is, table_rows}
use Rattle.vet_rows.proofs.state_of.read_state.Goals as goal
use Rattle.vet_tables.specs.Cells.{rows_in}
use Rattle.vet_tables.specs.declared.table_name.DemandTable.TheVariants.{Edges, Nodes, Policies}
use Rattle.vet_tables.specs.declared.table_name.DeskTable.TheVariants.{Members, Reviews}
use Rattle.vet_tables.specs.declared.table_name.TableName.TheVariants as table

pub returns-in_err-meta : goal.returns-in_err-meta
returns-in_err-meta c version s sound held same =
    let rows = table_rows (rows_in c.args.rows.now) version s same table.Meta tt c.of.result.now c.of.ensures in
    rw (passed_on c.from_residual.result c.in_err-meta.field-0.0 c.from_residual.ensures.1
    (c.in_err-meta.ensures (meta_in version s) held.settings rows)) refl

pub returns-in_err-facts : goal.returns-in_err-facts
returns-in_err-facts c version s sound held same =
    rw (passed_on c.from_residual-in_err-facts.result c.in_err-facts.field-0.0 c.from_residual-in_err-facts.ensures.1
    (c.in_err-facts.ensures s.held.facts (in_form s.held.facts s.next_entry sound.held.facts) held.facts
    (facts_rows (rows_in c.args.rows.now) version s same))) refl

pub returns-in_err-policies : goal.returns-in_err-policies
returns-in_err-policies c version s sound held same =
    let rows = table_rows (rows_in c.args.rows.now) version s same (table.Demand Policies) tt c.of-2.result.now
    c.of-2.ensures in
    rw (passed_on c.from_residual-in_err-policies.result c.in_err-policies.field-0.0
    c.from_residual-in_err-policies.ensures.1
    (c.in_err-policies.ensures s.held.policies sound.held.policies.by_key held.policies rows)) refl

pub returns-in_err-projects : goal.returns-in_err-projects
returns-in_err-projects c version s sound held same =
    let nodes = table_rows (rows_in c.args.rows.now) version s same (table.Demand Nodes) tt c.of-3.result.now
    c.of-3.ensures in
    let edges = table_rows (rows_in c.args.rows.now) version s same (table.Demand Edges) tt c.of-4.result.now
    c.of-4.ensures in
    rw (passed_on c.from_residual-in_err-projects.result c.in_err-projects.field-0.0
    c.from_residual-in_err-projects.ensures.1
    (c.in_err-projects.ensures s.held.projects sound.held.projects.by_name held.projects nodes edges)) refl

pub returns-in_err-desk : goal.returns-in_err-desk
returns-in_err-desk c version s sound held same =
    let meta_rows = table_rows (rows_in c.args.rows.now) version s same table.Meta tt c.of.result.now c.of.ensures in
    let meta = c.in_ok-meta.ensures (meta_in version s) held.settings meta_rows in
    let all = rows_in c.args.rows.now in
    let members = table_rows all version s same (table.Desk Members) tt (all (table.Desk Members)) refl in
    let reviews = table_rows all version s same (table.Desk Reviews) tt (all (table.Desk Reviews)) refl in
    rw (passed_on c.from_residual-in_err-desk.result c.in_err-desk.field-0.0 c.from_residual-in_err-desk.ensures.1
    (c.in_err-desk.ensures s.desk sound.desk.desk held.members held.reviews members reviews
    (ap (λ (m : Meta). m.numbers.next_review) meta))) refl

pub returns-in_err-moves : goal.returns-in_err-moves
returns-in_err-moves c version s sound held same =
    let rows = table_rows (rows_in c.args.rows.now) version s same table.Moves tt c.of-5.result.now c.of-5.ensures in
    rw (passed_on c.from_residual-in_err-moves.result c.in_err-moves.field-0.0 c.from_residual-in_err-moves.ensures.1
    (c.in_err-moves.ensures s.moves sound.moves.in_order held.moves rows)) refl

pub returns : goal.returns
returns c version s sound held same =
    let all = rows_in c.args.rows.now in
    let meta = c.in_ok-meta.ensures (meta_in version s) held.settings
    (table_rows all version s same table.Meta tt c.of.result.now c.of.ensures) in
    let facts = c.in_ok-facts.ensures s.held.facts (in_form s.held.facts s.next_entry sound.held.facts) held.facts
    (facts_rows all version s same) in
    let policies = c.in_ok-policies.ensures s.held.policies sound.held.policies.by_key held.policies
    (table_rows all version s same (table.Demand Policies) tt c.of-2.result.now c.of-2.ensures) in
    let projects = c.in_ok-projects.ensures s.held.projects sound.held.projects.by_name held.projects
    (table_rows all version s same (table.Demand Nodes) tt c.of-3.result.now c.of-3.ensures)
    (table_rows all version s same (table.Demand Edges) tt c.of-4.result.now c.of-4.ensures) in
    let desk = c.in_ok-desk.ensures s.desk sound.desk.desk held.members held.reviews
    (table_rows all version s same (table.Desk Members) tt (all (table.Desk Members)) refl)
    (table_rows all version s same (table.Desk Reviews) tt (all (table.Desk Reviews)) refl)
    (ap (λ (m : Meta). m.numbers.next_review) meta) in
    let moves = c.in_ok-moves.ensures s.moves sound.moves.in_order held.moves
    (table_rows all version s same table.Moves tt c.of-5.result.now c.of-5.ensures) in
    c.made.ensures ∙ made_is version s c.in_ok-meta.meta c.in_ok-facts.facts.content c.in_ok-policies.policies.items
    c.in_ok-projects.projects.items c.in_ok-desk.desk.content c.in_ok-moves.moves.items meta facts policies projects
    desk moves
