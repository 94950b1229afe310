use Rattle.std.proofs.Common.{rules, sym, ap, ◌∙◌}
use Rattle.std.specs.Ordering.{nat_cmp}
use Rattle.std.proofs.lemmas.Fn.{always_returns_same}
use Rattle.vet_entries.specs.declared.facts.HeldEntry.{HeldEntry}
use Rattle.vet_entries.specs.Numbered.{place_of}
use Rattle.vet_entries.proofs.NumberPlaces.{found_place, no_place}
use Rattle.vet_entries.proofs.by_package.ByPackage.place_of.Goals as goal

pub returns-in-Ok : goal.returns-in-Ok
returns-in-Ok c =
    let n = c.args.number in
    let held = c.deref.ensures.value in
    let at = c.in-Ok.ensures.position (λ (h : HeldEntry). nat_cmp h.number n)
    (always_returns_same _ _ _ (λ a r f k. search rules)) in
    sym (ap (λ es. place_of es n) (sym (held ∙ ap (λ b. b.entries) c.self.view_is)) ∙ found_place c.deref.result.now n
    c.in-Ok.place (rw held c.self.invariant.1) c.in-Ok.ensures.bound at)

pub returns-in-Err : goal.returns-in-Err
returns-in-Err c =
    let held = c.deref.ensures.value in
    let at = c.in-Err.ensures.position (λ (h : HeldEntry). nat_cmp h.number c.args.number)
    (always_returns_same _ _ _ (λ a r f k. search rules)) in
    sym (ap (λ es. place_of es c.args.number) (sym (held ∙ ap (λ b. b.entries) c.self.view_is))
    ∙ no_place c.deref.result.now c.args.number c.in-Err.field-0 (rw held c.self.invariant.1) at)
