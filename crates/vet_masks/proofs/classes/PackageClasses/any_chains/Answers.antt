use Rattle.std.proofs.Common.{◌≡◌, ◌<◌, ◌∷◌, [], length, take, refl, sym, ap, subst, ◌∙◌, arith}
use Rattle.std.proofs.lemmas.List.{length-map}
use Rattle.vet_base.specs.declared.limits.TheConstants.{MOST_CRITERIA as most}
use Rattle.vet_masks.specs.declared.index.Ends.{Ends}
use Rattle.vet_masks.specs.Classes.{IsAny, bars_nothing, held_if_any, spent_by, takes_each}
use Rattle.vet_masks.specs.Index.{ends_of}
use Rattle.vet_masks.specs.Masks.{IsReaching, is_open, numbered_by, size}
use Rattle.vet_masks.proofs.Growing.{any-goes_on, none-condemned, reaches-nothing, spent_by-none, spent_by-one}
use Rattle.vet_masks.proofs.Indexing.{ends-at, numbers_in, target-below}
use Rattle.vet_masks.proofs.classes.PackageClasses.any_chains.Goals as goal

pub chains-requires-clause-reaches : goal.chains-requires-clause-reaches
chains-requires-clause-reaches c =
    let steps = c.args.looks.now.steps in
    let shared = c.args.shared.now in
    let p = c.args.self.now in
    let h = c.requires.shared.1 in
    subst (λ held. IsReaching (numbered_by shared.index.now steps) (is_open bars_nothing takes_each) shared.first held)
    (sym c.as_slice.ensures.value)
    (any-goes_on steps c.requires.shared.0 p shared h c.in-Some.any.items
    (subst (IsAny (take shared.first steps) h.found.0 p.index) c.in-Some.is h.found.1.any))

pub returns-in-Some-clause-count : goal.returns-in-Some-clause-count
returns-in-Some-clause-count c =
    let index = c.args.shared.now.index.now in
    let u = size most index.used in
    let front = take c.args.shared.now.first index.ends.items in
    let before : spent_by u (held_if_any c.args.self.now.any) front ≡ spent_by u (c.as_slice.result.now ∷ []) front =
    ap (λ o. spent_by u (held_if_any o) front) c.in-Some.is
    ∙ ap (λ h. spent_by u (h ∷ []) front) (sym c.as_slice.ensures.value) in
    omega (
      arith,
      before,
      spent_by-one u c.as_slice.result.now front,
      spent_by-one u c.in_ok-chains.field-0.items index.ends.items,
      c.in_ok-chains.ensures.count,
    )

pub leads_to_condemned-requires : goal.leads_to_condemned-requires
leads_to_condemned-requires c = rw c.as_slice-2.ensures.value (λ k d l.
    (let steps = c.args.looks.now.steps in
    let index = c.args.shared.now.index.now in
    let h = c.requires.shared.1 in
    let low : k < length steps =
    omega (arith, l, ap length h.index.ends, length-map steps (ends_of (numbers_in index))) in
    omega (
      arith,
      ap (λ (e : Ends). e.target) (ends-at steps index h.index k low d),
      target-below steps index h.index k low,
      h.judged.count,
    )))

pub returns-then-not-leads_to_condemned-clause-any : goal.returns-then-not-leads_to_condemned-clause-any
returns-then-not-leads_to_condemned-clause-any c condemned h =
    none-condemned c.args.looks.now.steps condemned c.args.self.now c.args.shared.now h
    ((rw c.as_slice-2.ensures.value at c.if-not-leads_to_condemned.ensures.none) refl)

pub returns-then-not-leads_to_condemned-clause-count : goal.returns-then-not-leads_to_condemned-clause-count
returns-then-not-leads_to_condemned-clause-count c =
    let index = c.args.shared.now.index.now in
    let u = size most index.used in
    let front = take c.args.shared.now.first index.ends.items in
    omega (
      arith,
      ap (λ o. spent_by u (held_if_any o) front) c.in_default.is ∙ spent_by-none u front,
      spent_by-none u index.ends.items,
    )

pub chains-requires-2-clause-reaches : goal.chains-requires-2-clause-reaches
chains-requires-2-clause-reaches c = reaches-nothing _ _

pub returns-clause-count : goal.returns-clause-count
returns-clause-count c =
    let index = c.args.shared.now.index.now in
    let u = size most index.used in
    let front = take c.args.shared.now.first index.ends.items in
    omega (
      arith,
      ap (λ o. spent_by u (held_if_any o) front) c.in_default.is ∙ spent_by-none u front,
      spent_by-one u c.in_ok-chains-2.field-0.items index.ends.items,
      c.in_ok-chains-2.ensures.count,
    )
