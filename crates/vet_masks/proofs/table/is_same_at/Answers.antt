use Rattle.std.proofs.Common.{◌≡◌, Some, sym, ap, ◌∙◌}
use Rattle.std.specs.FinMap as map
use Rattle.std.specs.Option.{option_copied}
use Rattle.vet_base.specs.declared.criterion.Criterion.{Criterion}
use Rattle.vet_masks.proofs.table.is_same_at.Goals as goal

-- what is there of both
there : (a b : Criterion) → Some a ≡ Some b → a ≡ b
there a b e = cc e

pub returns-in-Some-get : goal.returns-in-Some-get
returns-in-Some-get c =
    let one : map.get c.args.table.now c.args.name.now ≡ Some c.in-Some.criterion.now =
    sym c.get.ensures ∙ ap option_copied c.in-Some.is in
    let other : map.get c.args.other.now c.args.name.now ≡ Some c.in-Some-get.held.now =
    sym c.get-2.ensures ∙ ap option_copied c.in-Some-get.is in (
      λ t. one ∙ ap (λ (x : Criterion). Some x) (c.eq.ensures.same.0 t) ∙ sym other,
      λ e. c.eq.ensures.same.1 (there _ _ (sym one ∙ e ∙ other)),
    )
