use Rattle.std.proofs.Common.{not, sym, ap, ◌∙◌, inl, inr}
use Rattle.std.proofs.lemmas.Bool.{cases_Bool, false≢true}
use Rattle.vet_base.specs.CriteriaSet.{has}
use Rattle.vet_base.specs.CriteriaSetLaws.{same_places}
use Rattle.vet_masks.proofs.Same.{both_ways, not_from}
use Rattle.vet_masks.proofs.kept.is_same_set.Goals as goal

pub returns-then-not-exceeds : goal.returns-then-not-exceeds
returns-then-not-exceeds c =
    let set = c.args.set.now in
    let other = c.args.other.now in (
      λ e. same_places set other (λ q. both_ways (has q set) (has q other)
          (c.exceeds.ensures.none c.if-not-exceeds.true q) (c.exceeds-then-not-exceeds.ensures.none (not_from _ e) q)),
      λ same. elim (cases_Bool c.exceeds-then-not-exceeds.result) [
        | inl more ↦ (let at = c.exceeds-then-not-exceeds.ensures.some more in
            absurd (false≢true (sym at.3 ∙ ap (has at.0) same ∙ at.2)))
        | inr none ↦ ap not none
      ],
    )
