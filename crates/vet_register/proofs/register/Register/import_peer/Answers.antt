use Rattle.std.proofs.Common.{◌≡◌, ◌+◌, ◌++◌, ◌∙◌, map, ap, arith, refl, sym, subst, inr}
use Rattle.vet_entries.specs.Facts.{Fits, IsHeld, edited}
use Rattle.vet_entries.specs.HeldPeer.{with_content}
use Rattle.vet_register.specs.declared.command.Action.TheVariants as action
use Rattle.vet_register.specs.Machine.{number_after, touched_by}
use Rattle.vet_register.specs.RegisterView.{RegisterView, held_room}
use Rattle.vet_register.specs.Sound.{IsSound}
use Rattle.vet_register.specs.Touches.{entry_package, only_at, packages_of_peer}
use Rattle.vet_register.proofs.Asking.{facts_effect, effective, known_touched, some_day}
use Rattle.vet_register.proofs.Imports.{accepted_import, numbers_found}
use Rattle.vet_register.proofs.register.Register.import_peer.Goals as goal

pub overflow_add-next_entry : goal.overflow_add-next_entry
overflow_add-next_entry g c =
    let accepted = accepted_import c.args.self.now.state some_day c.args.name.now c.args.content.now
    c.in_ok-comparison.field-0 c.in-Some.comparison c.in-Some.is (c.in_ok-comparison.ensures some_day) in
    let found = numbers_found c.args.self.now.state some_day c.args.name.now c.args.content.now c.in-Some.comparison
    accepted in
    let held = ap (λ (r : RegisterView _). r.state.next_entry) c.self.view_is in
    omega (arith, held, found.1, c.new_count.ensures)

pub holding_after-requires-clause-held : goal.holding_after-requires-clause-held
holding_after-requires-clause-held g c =
    (accepted_import c.args.self.now.state some_day c.args.name.now c.args.content.now c.in_ok-comparison.field-0
    c.in-Some.comparison c.in-Some.is (c.in_ok-comparison.ensures some_day)).held

pub holding_after-requires-clause-compared : goal.holding_after-requires-clause-compared
holding_after-requires-clause-compared g c =
    (accepted_import c.args.self.now.state some_day c.args.name.now c.args.content.now c.in_ok-comparison.field-0
    c.in-Some.comparison c.in-Some.is (c.in_ok-comparison.ensures some_day)).compared

pub holding_after-requires-clause-numbers : goal.holding_after-requires-clause-numbers
holding_after-requires-clause-numbers g c =
    let accepted = accepted_import c.args.self.now.state some_day c.args.name.now c.args.content.now
    c.in_ok-comparison.field-0 c.in-Some.comparison c.in-Some.is (c.in_ok-comparison.ensures some_day) in
    let found = numbers_found c.args.self.now.state some_day c.args.name.now c.args.content.now c.in-Some.comparison
    accepted in
    omega (arith, found.1)

pub edit_of_content-requires : goal.edit_of_content-requires
edit_of_content-requires g c =
    let accepted = accepted_import c.args.self.now.state some_day c.args.name.now c.args.content.now
    c.in_ok-comparison.field-0 c.in-Some.comparison c.in-Some.is (c.in_ok-comparison.ensures some_day) in
    let name : c.in_ok-copy.copy ≡ c.args.name.now = c.in_ok-copy.ensures in
    subst (λ n. IsHeld n c.self.inside.held.facts.content) (sym name)
    (subst (λ (r : RegisterView _). IsHeld c.args.name.now r.state.held.facts) (sym c.self.view_is) accepted.held)

pub returns-clause-asked : goal.returns-clause-asked
returns-clause-asked g c day =
    let state = c.args.self.now.state in
    let name = c.args.name.now in
    let content = c.args.content.now in
    let asks = action.ImportPeer name content in
    let sound : IsSound state = subst (λ (r : RegisterView _). IsSound r.state) c.self.view_is c.self.invariant.1 in
    let accepted = accepted_import state day name content c.in_ok-comparison.field-0 c.in-Some.comparison c.in-Some.is
    (c.in_ok-comparison.ensures day) in
    let found = numbers_found state day name content c.in-Some.comparison accepted in
    let copied : c.in_ok-copy.copy ≡ name = c.in_ok-copy.ensures in
    let edit = subst (λ (r : RegisterView _). edited c.edit_of_content.result r.state.held.facts ≡ record
    r.state.held.facts { peers = with_content c.in_ok-copy.copy c.in_ok-after.after r.state.held.facts.peers })
    c.self.view_is c.edit_of_content.ensures.edit in
    let facts = edit ∙ (λ i. record {
      criteria = state.held.facts.criteria;
      entries = state.held.facts.entries;
      peers = with_content (copied i) (c.in_ok-after.ensures.ok i) state.held.facts.peers;
      publishers = state.held.facts.publishers;
      today = state.held.facts.today;
    }) in
    let fits = subst (λ (r : RegisterView _). Fits c.edit_of_content.result (held_room r).facts) c.self.view_is
    c.edit_of_content.ensures.fits in
    let touches : only_at (packages_of_peer state.held.facts name ++ map entry_package c.entries-2.result.now)
    ≡ touched_by state day asks = ap (λ es. only_at (packages_of_peer state.held.facts name ++ map entry_package es))
    c.entries-2.ensures.value in
    let held = ap (λ (r : RegisterView _). r.state.next_entry) c.self.view_is in
    let next : c.self.inside.next_entry + c.new_count.result ≡ number_after state asks = omega
    (arith, held, found.0, c.new_count.ensures) in
    inr (effective _ _ _ _ _ accepted.told
    (facts_effect _ _ asks state c.edit_of_content.result _ _ _ refl sound accepted.told c.entries.ensures.content
    facts (known_touched state day asks c.in_ok-touching.touching _ c.in_ok-touching.ensures.ok touches)
    refl refl refl refl refl next fits sound.held.facts.criteria sound.held.facts.publishers))
