use Rattle.std.proofs.Common.{◌≡◌, sym, ap, ◌∙◌}
use Rattle.std.specs.Option.{option_eq}
use Rattle.std.proofs.lemmas.Bool.{false≢true}
use Rattle.vet_base.specs.VersionOrder.{version_eq}
use Rattle.vet_base.specs.VersionOrderLaws.{version_eq-Decides}
use Rattle.vet_entries.specs.declared.step.Step.{Step}
use Rattle.vet_masks.proofs.Same.{flag-same, from_not, not_from, origin-itself, origin-same}
use Rattle.vet_masks.proofs.looks.is_same.Goals as goal

pub returns-then-ne : goal.returns-then-ne
returns-then-ne c =
    let origin = c.args.step.now.origin in
    let differ = not_from _ (sym c.ne.ensures ∙ c.if-ne.true) in (
      λ e. absurd (false≢true e),
      λ same. sym differ ∙ ap (λ (s : Step). option_eq version_eq origin s.origin) (sym same) ∙ origin-itself origin,
    )

pub returns-then-ne-2 : goal.returns-then-ne-2
returns-then-ne-2 c =
    let target = c.args.step.now.target in
    let differ = not_from _ (sym c.ne-2.ensures ∙ c.if-ne-2.true) in (
      λ e. absurd (false≢true e),
      λ same. sym differ ∙ (version_eq-Decides target c.args.other.now.target).1 (ap (λ (s : Step). s.target) same),
    )

pub returns : goal.returns
returns c =
    let a = c.args.step.now in
    let b = c.args.other.now in
    let origin : a.origin ≡ b.origin = origin-same a.origin b.origin (from_not _ (sym c.ne.ensures ∙ c.if-ne.false)) in
    let target : a.target ≡ b.target =
    (version_eq-Decides a.target b.target).0 (from_not _ (sym c.ne-2.ensures ∙ c.if-ne-2.false)) in
    let exempt : a.exempt ≡ b.exempt = flag-same a.exempt b.exempt c.if-step-other.false in (
      λ e. (let criteria = c.is_same_set.ensures.0 e in
          λ i. record { origin = origin i; target = target i; criteria = criteria i; exempt = exempt i }),
      λ same. c.is_same_set.ensures.1 (ap (λ (s : Step). s.criteria) same),
    )
