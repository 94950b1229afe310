use Rattle.std.proofs.Common.{◌≡◌, ◌+◌, ◌∙◌, None, ap, arith, refl, sym, subst, inr}
use Rattle.vet_base.specs.Criteria.{IsTable}
use Rattle.vet_entries.specs.Facts.{Facts}
use Rattle.vet_register.specs.declared.command.Action.TheVariants as action
use Rattle.vet_register.specs.declared.edits.Effect.{Effect}
use Rattle.vet_register.specs.declared.held.HeldEdit.TheVariants as edit
use Rattle.vet_register.specs.declared.touching.Touching.TheVariants as touching
use Rattle.vet_graph.specs.declared.touched.Touched.TheVariants as touched
use Rattle.vet_register.specs.Held.{edited}
use Rattle.vet_register.specs.Machine.{facts_after, held_after, number_after}
use Rattle.vet_register.specs.RegisterView.{RegisterView}
use Rattle.vet_register.specs.ReplacingFound.{IsCompared}
use Rattle.vet_register.specs.Sound.{IsSound}
use Rattle.vet_register.proofs.Asking.{effective, held_effect, some_day}
use Rattle.vet_register.proofs.Effects.{passed}
use Rattle.vet_register.proofs.FilesAccepted.{accepted_files, files_new, files_numbered}
use Rattle.vet_register.proofs.FilesEffects.{peer_before}
use Rattle.vet_register.proofs.FilesPassed.{files_fit, files_know, files_records, files_table}
use Rattle.vet_register.proofs.HeldEffects.{sound_held}
use Rattle.vet_register.proofs.register.Register.replace_files.Goals as goal

pub new_count-requires : goal.new_count-requires
new_count-requires g c =
    let accepted = accepted_files c.args.self.now.state some_day c.args.files.now _ _ c.in-Some.is
    (c.in_ok-comparison.ensures some_day) in
    omega (
      arith,
      files_numbered c.args.self.now.state some_day c.args.files.now c.in-Some.comparison accepted,
      files_new c.args.self.now.state c.args.files.now c.in-Some.comparison accepted.compared,
    )

pub overflow_add-next_entry : goal.overflow_add-next_entry
overflow_add-next_entry g c =
    let state = c.args.self.now.state in
    let files = c.args.files.now in
    let accepted = accepted_files state some_day files _ _ c.in-Some.is (c.in_ok-comparison.ensures some_day) in
    let held = ap (λ (r : RegisterView _). r.state.next_entry) c.self.view_is in
    omega (
      arith,
      held,
      files_numbered state some_day files c.in-Some.comparison accepted,
      files_new state files c.in-Some.comparison accepted.compared,
      c.new_count.ensures,
    )

pub files_held-requires : goal.files_held-requires
files_held-requires g c =
    let state = c.args.self.now.state in
    let files = c.args.files.now in
    let accepted = accepted_files state some_day files _ _ c.in-Some.is (c.in_ok-comparison.ensures some_day) in
    let p = passed state some_day (action.ReplaceFiles files) accepted.told in
    let fits = files_fit state files p.limits in
    let count = files_numbered state some_day files c.in-Some.comparison accepted in
    let held = ap (λ (r : RegisterView _). number_after r.state (action.ReplaceFiles files)) c.self.view_is in
    record {
      defined = files_table files c.is_of_files.ensures fits.criteria (files_know files p.references);
      compared = subst (λ (r : RegisterView _). IsCompared r.state.held.facts files c.in-Some.comparison)
          (sym c.self.view_is) accepted.compared;
      own = c.self.invariant.1.held.facts.entries.numbers_given;
      peers = λ q. (peer_before c.self.inside.held.facts.content.peers c.self.inside.next_entry
          c.self.invariant.1.held.facts.peers q).1;
      numbers = omega (arith, held, count);
      records = omega (arith, fits.records);
    }

pub returns-clause-asked : goal.returns-clause-asked
returns-clause-asked g c day =
    let state = c.args.self.now.state in
    let files = c.args.files.now in
    let asks = action.ReplaceFiles files in
    let sound : IsSound state = subst (λ (r : RegisterView _). IsSound r.state) c.self.view_is c.self.invariant.1 in
    let accepted = accepted_files state day files c.in_ok-comparison.field-0 c.in-Some.comparison c.in-Some.is
    (c.in_ok-comparison.ensures day) in
    let fit = files_fit state files (passed state day asks accepted.told).limits in
    let made = c.in_ok-held.ensures in
    let facts : c.in_ok-held.held.facts.content ≡ facts_after state day asks =
    made.facts ∙ ap (λ (r : RegisterView _). facts_after r.state day asks) c.self.view_is in
    let becomes : edited (edit.Files c.in_ok-held.held) state.held ≡ held_after state day asks =
    (λ i. record {
      facts = facts i;
      policies = made.policies i;
      projects = state.held.projects;
      settings =
          made.settings i;
    }) in
    let held = ap (λ (r : RegisterView _). r.state.next_entry) c.self.view_is in
    let next : c.self.inside.next_entry + c.new_count.result ≡ number_after state asks =
    omega (arith, held, files_new state files c.in-Some.comparison accepted.compared, c.new_count.ensures) in
    let after = sound_held state day asks accepted.told sound c.is_of_files.ensures
    (subst IsTable (ap (λ (f : Facts). f.criteria) facts) made.table)
    (files_records files c.is_of_files.ensures fit.records) in
    let effect : Effect = record {
      edit = edit.Files c.in_ok-held.held;
      touching = touching.Known touched.All;
      desk = None;
      number = None;
      next_entry = c.self.inside.next_entry +
          c.new_count.result;
    } in
    inr (effective _ _ _ _ _ accepted.told
    (held_effect _ day asks state effect refl becomes refl refl refl refl next tt after))
