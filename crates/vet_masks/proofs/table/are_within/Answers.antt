use Rattle.std.proofs.Common.{◌≡◌, ◌++◌, ◌∷◌, [], take, refl, sym, ap, subst, ◌∙◌}
use Rattle.std.specs.FinMap as map
use Rattle.std.specs.List.{All}
use Rattle.std.proofs.lemmas.List.{take_all, take_more}
use Rattle.std.proofs.lemmas.List.Elements.{All-push}
use Rattle.vet_base.specs.Words.{Name}
use Rattle.vet_masks.proofs.table.are_within.Goals as goal

pub names-preserved : goal.names-preserved
names-preserved c =
    let names = c.names-names.result.now in
    let p = c.names.place in
    let name = c.index-names-place.result in
    let IsSame = λ (n : Name). map.get c.args.table.now n ≡ map.get c.args.other.now n in
    subst (All IsSame) (sym (take_more names p name c.names-test.true
    ∙ ap (λ n. take p names ++ n ∷ []) (sym c.index-names-place.is)))
    (All-push IsSame (take p names) name c.names.invariant
    (c.is_same_at.ensures.0 c.if-not-is_same_at.false))

pub returns : goal.returns
returns c = (
  λ _. (let all = rw (take_all c.names.place c.names-names.result.now c.names-test.false) at c.names.invariant in
      subst (All (λ (n : Name). map.get c.args.table.now n ≡ map.get c.args.other.now n)) c.names-names.ensures.names
      all),
  λ _. refl,
)
