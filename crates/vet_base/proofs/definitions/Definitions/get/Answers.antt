use Rattle.std.proofs.Common.{ap, sym, ◌∙◌, Some, Ok, Err, [], arith}
use Rattle.std.specs.FinMap as map
use Rattle.vet_base.proofs.Rising.{searched_in}
use Rattle.vet_base.proofs.Tables.{get_is, none_is, length_kept}
use Rattle.vet_base.proofs.definitions.Definitions.get.Goals as goal

pub returns-in-Ok : goal.returns-in-Ok
returns-in-Ok c =
    let names = c.self.inside.names.items in
    let criteria = c.self.inside.criteria.items in
    let e = c.in-Ok.ensures in
    let found = searched_in names c.deref.result.now c.args.name.now (Ok c.in-Ok.place) c.deref.ensures.value
    c.self.invariant.rising e.bound e.position in
    let d = c.index.result.now in
    ap Some c.index.ensures
    ∙ sym (get_is names criteria c.self.invariant c.args.self.now c.self.view_is c.in-Ok.place d
    (omega (arith, found.0, length_kept names criteria c.self.invariant)))
    ∙ ap (map.get c.args.self.now) (found.1 [])

pub returns-in-Err : goal.returns-in-Err
returns-in-Err c =
    let names = c.self.inside.names.items in
    let e = c.in-Err.ensures in
    let lacks = searched_in names c.deref.result.now c.args.name.now (Err c.in-Err.field-0) c.deref.ensures.value
    c.self.invariant.rising e.bound e.position in
    sym (none_is names c.self.inside.criteria.items c.self.invariant c.args.self.now c.self.view_is c.args.name.now
    c.in-Err.field-0 lacks)
