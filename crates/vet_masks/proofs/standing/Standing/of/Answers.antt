use Rattle.std.proofs.Common.{Vec, Global, [], option_map, unwrap_or, sym, ap, subst, ◌∙◌}
use Rattle.std.specs.Option.{option_copied}
use Rattle.vet_graph.specs.declared.standing.Stand.{Stand}
use Rattle.vet_masks.specs.Standings.{AreByPackage, AreOfPackage, stands_at}
use Rattle.vet_masks.proofs.Standings.{stands-of_slots, stands-own}
use Rattle.vet_masks.proofs.standing.Standing.of.Goals as goal

pub returns-in-Some-clause-value : goal.returns-in-Some-clause-value
returns-in-Some-clause-value c =
    let name = c.args.«package».now in
    c.as_slice.ensures.value ∙ sym (ap (λ packages. stands_at packages name) (sym c.self.view_is)
    ∙ stands-of_slots c.self.inside.packages.entries name
    ∙ ap (λ o. unwrap_or (option_map (λ (v : Vec Stand Global). v.items) o) [])
    (sym c.get.ensures.value ∙ ap option_copied c.in-Some.is))

pub returns-in-None-clause-value : goal.returns-in-None-clause-value
returns-in-None-clause-value c =
    let name = c.args.«package».now in
    sym (ap (λ packages. stands_at packages name) (sym c.self.view_is)
    ∙ stands-of_slots c.self.inside.packages.entries name
    ∙ ap (λ o. unwrap_or (option_map (λ (v : Vec Stand Global). v.items) o) [])
    (sym c.get.ensures.value ∙ ap option_copied c.in-None.is))

pub returns-in-Some-clause-own : goal.returns-in-Some-clause-own
returns-in-Some-clause-own c =
    let name = c.args.«package».now in
    subst (AreOfPackage name) (sym (returns-in-Some-clause-value c))
    (stands-own c.args.self.now name (subst AreByPackage c.self.view_is c.self.invariant.0))
