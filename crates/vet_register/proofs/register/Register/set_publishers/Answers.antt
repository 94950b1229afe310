use Rattle.std.proofs.Common.{refl}
use Rattle.vet_register.specs.declared.command.Action.TheVariants as action
use Rattle.vet_register.proofs.Asking.{effective, known_touched, records_counted, records_differ, records_sound}
use Rattle.vet_register.proofs.Asking.{some_day}
use Rattle.vet_register.proofs.AskingEdits.{accepts, none_given, of_facts_is, state_before, told_before}
use Rattle.vet_register.proofs.register.Register.set_publishers.Goals as goal

pub publishers_edit-requires-clause-some : goal.publishers_edit-requires-clause-some
publishers_edit-requires-clause-some g c =
    let told = accepts (c.in_ok-number.ensures some_day) c.in_default.is in
    records_differ (state_before c.self.view_is) some_day c.args.«package».now c.args.publishers.now
    (told_before c.self.view_is some_day (action.SetPublishers c.args.«package».now c.args.publishers.now) told)

pub publishers_edit-requires-clause-counted : goal.publishers_edit-requires-clause-counted
publishers_edit-requires-clause-counted g c =
    records_counted (state_before c.self.view_is) some_day c.args.«package».now c.args.publishers.now
    (told_before c.self.view_is some_day
    (action.SetPublishers c.args.«package».now c.args.publishers.now)
    (accepts (c.in_ok-number.ensures some_day) c.in_default.is))

pub returns-clause-asked : goal.returns-clause-asked
returns-clause-asked g c day =
    let asks = action.SetPublishers c.args.«package».now c.args.publishers.now in
    let told = accepts (c.in_ok-number.ensures day) c.in_default.is in
    let sound = c.self.invariant.1.held.facts in
    let ordered = c.records_stay_in_order.ensures in
    let are = records_sound (state_before c.self.view_is) day c.args.«package».now c.args.publishers.now
    (told_before c.self.view_is day asks told) sound.publishers ordered.in_order ordered.by_name in
    let set = c.in_ok-publishers_edit.ensures in
    effective _ day asks _ _ told (of_facts_is c.self.view_is c.self.invariant.1 day asks tt told refl _ _ set.edit
    (known_touched (state_before c.self.view_is) day asks _ _ c.in_ok-touching.ensures.ok refl)
    sound.criteria are _ _ _ _ _ set.content refl refl (none_given refl) set.fits)
