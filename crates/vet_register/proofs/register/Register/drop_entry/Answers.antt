use Rattle.std.proofs.Common.{arith, ◌≡◌, ◌∙◌, ◌<◌, ap, refl, sym, subst, length, get_or, map, not, filter, []}
use Rattle.std.proofs.Common.{◌∷◌, None, Ok}
use Rattle.std.specs.List.{remove}
use Rattle.vet_entries.specs.Facts.{Fits, edited}
use Rattle.vet_entries.specs.Numbered.{has_number}
use Rattle.vet_register.specs.declared.command.Action.TheVariants as action
use Rattle.vet_register.specs.declared.verdict.Answer.TheVariants.{Accepted}
use Rattle.vet_register.specs.Machine.{number_after}
use Rattle.vet_register.specs.RegisterView.{RegisterView, held_room}
use Rattle.vet_register.specs.Sound.{IsSound}
use Rattle.vet_register.specs.Touches.{held_package, only_at}
use Rattle.vet_register.specs.Verdict.{checked, held_or, judged}
use Rattle.vet_register.proofs.Asking.{facts_effect, effective, known_touched}
use Rattle.vet_register.proofs.Drops.{alone, dropped, passes, place_within}
use Rattle.vet_register.proofs.register.Register.drop_entry.Goals as goal

pub edit_dropping-requires : goal.edit_dropping-requires
edit_dropping-requires g c =
    subst (λ (r : RegisterView _). c.in_ok-place.place < length r.state.held.facts.entries) (sym c.self.view_is)
    (place_within c.args.self.now.state.held.facts.entries c.args.number c.in_ok-place.place
    c.in_ok-place.ensures.place)

pub returns-clause-asked : goal.returns-clause-asked
returns-clause-asked g c day =
    let state = c.args.self.now.state in
    let asks = action.DropEntry c.args.number in
    let sound : IsSound state = subst (λ (r : RegisterView _). IsSound r.state) c.self.view_is c.self.invariant.1 in
    let told : judged state day asks ≡ Ok Accepted = ap (held_or None)
    (passes (checked state day asks) c.in_ok-place.place (c.in_ok-place.ensures.refused day)) in
    let gone : remove state.held.facts.entries c.in_ok-place.place ≡ filter (λ h. not (has_number c.args.number h))
    state.held.facts.entries =
    dropped c.args.number c.in_ok-place.place state.held.facts.entries sound.held.facts.entries.numbers_rise
    c.in_ok-place.ensures.place in
    let edit = subst (λ (r : RegisterView _). edited c.edit_dropping.result r.state.held.facts ≡ record
    r.state.held.facts { entries = remove r.state.held.facts.entries c.in_ok-place.place })
    c.self.view_is c.edit_dropping.ensures.edit in
    let facts = edit ∙ (λ i. record {
      criteria = state.held.facts.criteria;
      entries = gone i;
      peers = state.held.facts.peers;
      publishers =
          state.held.facts.publishers;
      today = state.held.facts.today;
    }) in
    let fits = subst (λ (r : RegisterView _). Fits c.edit_dropping.result (held_room r).facts) c.self.view_is
    c.edit_dropping.ensures.fits in
    let place = c.in_ok-place.place in
    let found = c.index-entries-place.result in
    let at : found ≡ get_or state.held.facts.entries place found = c.index-entries-place.is
    ∙ ap (λ es. get_or es place found)
    (c.entries.ensures.value ∙ ap (λ (r : RegisterView _). r.state.held.facts.entries) c.self.view_is) in
    let alone_there : filter (has_number c.args.number) state.held.facts.entries
    ≡ get_or state.held.facts.entries place found ∷ [] =
    alone c.args.number place state.held.facts.entries found
    sound.held.facts.entries.numbers_rise c.in_ok-place.ensures.place in
    let touches : only_at (held_package found ∷ [])
    ≡ only_at (map held_package (filter (has_number c.args.number) state.held.facts.entries)) =
    ap (λ x. only_at (held_package x ∷ [])) at ∙ ap (λ hs. only_at (map held_package hs)) (sym alone_there) in
    let held = ap (λ (r : RegisterView _). r.state.next_entry) c.self.view_is in
    let next : c.self.inside.next_entry ≡ number_after state asks = omega (arith, held) in
    effective _ _ _ _ _ told
    (facts_effect _ _ asks state c.edit_dropping.result _ _ _ refl sound told tt facts
    (known_touched state day asks c.in_ok-touching.touching _ c.in_ok-touching.ensures.ok touches)
    refl refl refl refl refl next fits sound.held.facts.criteria sound.held.facts.publishers)
