use Rattle.std.proofs.Common.{[], ◌∷◌, subst, take}
use Rattle.std.specs.List.{All}
use Rattle.std.proofs.lemmas.List.{take_all}
use Rattle.std.proofs.lemmas.List.Elements.{All-append, All-cons, All-nil}
use Rattle.vet_base.specs.Words.{Name}
use Rattle.vet_item_rows.specs.Values.{IsCriterion, MayBe}
use Rattle.vet_item_rows.proofs.Listed.{one_further}
use Rattle.vet_register.specs.HeldFiles.{further_at}
use Rattle.vet_rows.proofs.held_register.peers.named_are_held.Goals as goal

pub names-preserved : goal.names-preserved
names-preserved c =
    let P : Name → Type 0 = λ n. MayBe IsCriterion (further_at c.args.table.now n) in
    let names = c.args.names.now in
    let name = c.name-item.result in
    subst (All P) (one_further names c.names.name-index name c.names-test.true c.name-item.is)
    (All-append P (take c.names.name-index names) (name ∷ []) c.names.invariant
    (All-cons P name [] c.named_is_held.ensures (All-nil P)))

pub returns : goal.returns
returns c =
    let P : Name → Type 0 = λ n. MayBe IsCriterion (further_at c.args.table.now n) in
    subst (All P) (take_all c.names.name-index c.args.names.now c.names-test.false) c.names.invariant
