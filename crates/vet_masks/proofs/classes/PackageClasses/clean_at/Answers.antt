use Rattle.std.proofs.Common.{◌≡◌, ◌<◌, ◌∷◌, [], length, map, take, sym, ap, subst, ◌∙◌, arith}
use Rattle.std.proofs.lemmas.Result.{IfOk-weaker}
use Rattle.vet_base.specs.declared.limits.TheConstants.{MOST_CRITERIA as most}
use Rattle.vet_masks.specs.Classes.{held_by, spent_by}
use Rattle.vet_masks.specs.Masks.{IsReaching, numbered_by, open_by, size, spent}
use Rattle.vet_masks.specs.Rules.{rule_of, skips}
use Rattle.vet_masks.proofs.Classing.{held-is}
use Rattle.vet_masks.proofs.Growing.{both-ok, clean-short, comes-to, goes-on, reaches-nothing, spent_by-one}
use Rattle.vet_masks.proofs.classes.PackageClasses.clean_at.Goals as goal

pub reach-requires-clause-held : goal.reach-requires-clause-held
reach-requires-clause-held c =
    let low : c.args.place < length c.args.self.now.clean.items =
    omega (arith, c.if-place-len.true, c.len.ensures, c.args.self.now.clean.ok) in
    let is : held_by c.args.self.now.clean.items c.args.place ≡ c.as_slice-held.result.now =
    held-is c.args.self.now.clean.items c.args.place c.index.result.now low c.index.ensures
    ∙ sym c.as_slice-held.ensures.value in
    omega (
      arith,
      ap length is,
      clean-short c.args.looks.now.steps c.requires.shared.0 c.args.self.now c.args.shared.now c.requires.shared.1
          c.args.place low,
    )

pub reach-requires-clause-reaches : goal.reach-requires-clause-reaches
reach-requires-clause-reaches c =
    let steps = c.args.looks.now.steps in
    let shared = c.args.shared.now in
    let low : c.args.place < length c.args.self.now.clean.items =
    omega (arith, c.if-place-len.true, c.len.ensures, c.args.self.now.clean.ok) in
    let is : held_by c.args.self.now.clean.items c.args.place ≡ c.as_slice-held.result.now =
    held-is c.args.self.now.clean.items c.args.place c.index.result.now low c.index.ensures
    ∙ sym c.as_slice-held.ensures.value in
    subst (λ held. IsReaching (numbered_by shared.index.now steps)
    (open_by shared.index.now (record { bars = shared.condemned; skipped = c.as_slice.result })) shared.first held) is
    (goes-on steps c.requires.shared.0 c.args.self.now shared c.requires.shared.1 c.args.place low
    c.as_slice.result.now (c.as_slice.ensures.value ∙ c.in_ok-skipped.ensures.ok
    ∙ ap (λ r. map (skips r) shared.exempt.now.numbers.items) c.of.ensures))

pub returns-then-place-len-clause-clean : goal.returns-then-place-len-clause-clean
returns-then-place-len-clause-clean c = both-ok c.reach.result _ _ _
    (λ h long r condemned sh. comes-to c.args.looks.now.steps condemned c.args.self.now c.args.shared.now sh
    (rule_of c.args.place) c.as_slice.result.now (c.as_slice.ensures.value ∙ c.in_ok-skipped.ensures.ok
    ∙ ap (λ k. map (skips k) c.args.shared.now.exempt.now.numbers.items) c.of.ensures) h.items long r)
    c.reach.ensures.length c.reach.ensures.reaches

pub returns-then-place-len-clause-goes_on : goal.returns-then-place-len-clause-goes_on
returns-then-place-len-clause-goes_on c low =
    let index = c.args.shared.now.index.now in
    let u = size most index.used in
    let is : held_by c.args.self.now.clean.items c.args.place ≡ c.as_slice-held.result.now =
    held-is c.args.self.now.clean.items c.args.place c.index.result.now low c.index.ensures
    ∙ sym c.as_slice-held.ensures.value in
    let front = take c.args.shared.now.first index.ends.items in
    let before : spent_by u (held_by c.args.self.now.clean.items c.args.place ∷ []) front
    ≡ spent u c.as_slice-held.result.now front =
    spent_by-one u (held_by c.args.self.now.clean.items c.args.place) front ∙ ap (λ h. spent u h front) is in
    IfOk-weaker c.reach.result _ _
    (λ h e. omega (arith, before, spent_by-one u h.items index.ends.items, e)) c.reach.ensures.count

pub reach-requires-2-clause-reaches : goal.reach-requires-2-clause-reaches
reach-requires-2-clause-reaches c = reaches-nothing _ _

pub returns-clause-clean : goal.returns-clause-clean
returns-clause-clean c = both-ok c.reach-2.result _ _ _
    (λ h long r condemned sh. comes-to c.args.looks.now.steps condemned c.args.self.now c.args.shared.now sh
    (rule_of c.args.place) c.as_slice.result.now (c.as_slice.ensures.value ∙ c.in_ok-skipped.ensures.ok
    ∙ ap (λ k. map (skips k) c.args.shared.now.exempt.now.numbers.items) c.of.ensures) h.items long r)
    c.reach-2.ensures.length c.reach-2.ensures.reaches

pub returns-clause-begins : goal.returns-clause-begins
returns-clause-begins c high =
    let index = c.args.shared.now.index.now in
    IfOk-weaker c.reach-2.result _ _
    (λ h e. omega (arith, spent_by-one (size most index.used) h.items index.ends.items, e)) c.reach-2.ensures.count
