use Rattle.std.proofs.Common.{◌≡◌, false, sym, ap, ◌∙◌}
use Rattle.vet_graph.specs.Standing.{counts_of}
use Rattle.vet_masks.specs.Standings.{all_stands, has_slot, stands_at}
use Rattle.vet_masks.proofs.Standings.{has-in_slots, in_slots, made-all, made-at, made-by_package, made-kept, made-slot}
use Rattle.vet_masks.proofs.standing.Standing.reserve.Goals as goal

pub returns-then-contains_key-clause-slot : goal.returns-then-contains_key-clause-slot
returns-then-contains_key-clause-slot c =
    let name = c.args.«package» in
    ap (λ packages. has_slot packages name) (sym c.self.view_is)
    ∙ has-in_slots c.self.inside.packages.entries name ∙ sym c.contains_key.ensures ∙ c.if-contains_key.true

pub invariant_of-self-2 : goal.invariant_of-self-2
invariant_of-self-2 c =
    let old = c.self.inside.packages.entries in
    let new = c.insert.new.self.entries in
    let name = c.args.«package» in
    let none : has_slot (in_slots old) name ≡ false =
    has-in_slots old c.args.«package» ∙ sym c.contains_key.ensures ∙ c.if-contains_key.false in (
      made-by_package old new name c.new.result c.new.ensures.items c.in_ok-insert.ensures.entries none
          c.in_ok-insert.ensures.ordered c.self.invariant.0,
      c.self.invariant.1 ∙ ap counts_of (sym (made-all old new name c.new.result c.new.ensures.items
          c.in_ok-insert.ensures.entries none)),
    )

pub returns-clause-stands : goal.returns-clause-stands
returns-clause-stands c =
    let old = c.self.inside.packages.entries in
    let name = c.args.«package» in
    let none : has_slot (in_slots old) name ≡ false =
    has-in_slots old c.args.«package» ∙ sym c.contains_key.ensures ∙ c.if-contains_key.false in
    made-all old c.insert.new.self.entries name c.new.result c.new.ensures.items c.in_ok-insert.ensures.entries none
    ∙ ap all_stands c.self.view_is

pub returns-clause-at : goal.returns-clause-at
returns-clause-at c m =
    let old = c.self.inside.packages.entries in
    let name = c.args.«package» in
    let none : has_slot (in_slots old) name ≡ false =
    has-in_slots old c.args.«package» ∙ sym c.contains_key.ensures ∙ c.if-contains_key.false in
    made-at old c.insert.new.self.entries name c.new.result c.new.ensures.items c.in_ok-insert.ensures.entries none m
    ∙ ap (λ packages. stands_at packages m) c.self.view_is

pub returns-clause-kept : goal.returns-clause-kept
returns-clause-kept c m h =
    let old = c.self.inside.packages.entries in
    let name = c.args.«package» in
    let none : has_slot (in_slots old) name ≡ false =
    has-in_slots old c.args.«package» ∙ sym c.contains_key.ensures ∙ c.if-contains_key.false in
    made-kept old c.insert.new.self.entries name c.new.result c.new.ensures.items c.in_ok-insert.ensures.entries none m
    (ap (λ packages. has_slot packages m) c.self.view_is ∙ h)

pub returns-clause-slot : goal.returns-clause-slot
returns-clause-slot c =
    let old = c.self.inside.packages.entries in
    let new = c.insert.new.self.entries in
    let name = c.args.«package» in
    let none : has_slot (in_slots old) name ≡ false =
    has-in_slots old c.args.«package» ∙ sym c.contains_key.ensures ∙ c.if-contains_key.false in
    made-slot old new name c.new.result c.new.ensures.items c.in_ok-insert.ensures.entries none
