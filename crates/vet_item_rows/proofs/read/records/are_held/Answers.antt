use Rattle.std.proofs.Common.{◌≡◌, ◌+◌, ◌++◌, ◌∷◌, ◌∙◌, [], ap, arith, sym, take}
use Rattle.std.proofs.lemmas.List.{take_more}
use Rattle.std.proofs.lemmas.List.Elements.{All-push}
use Rattle.vet_entries.specs.PublisherRecords.{HasAny}
use Rattle.vet_item_rows.proofs.RecordsMade.{total_push}
use Rattle.vet_item_rows.proofs.read.records.are_held.Goals as goal

pub packages-preserved : goal.packages-preserved
packages-preserved c =
    let packages = c.args.packages.now in
    let i = c.packages.held-index in
    let held = c.held-item.result in
    let more : take (i + 1) packages ≡ take i packages ++ held ∷ [] = take_more packages i held c.packages-test.true
    ∙ ap (λ x. take i packages ++ x ∷ []) (sym c.held-item.is) in
    let total = total_push (take i packages) held in
    rw more (
      omega (arith, total, c.len-count.ensures, c.packages.invariant.0),
      (
        omega (arith, c.packages.invariant.1.0, c.if-count-total.false),
        All-push HasAny (take i packages) held c.packages.invariant.1.1 (omega
            (arith, c.len-count.ensures, c.if-count-eq0.false)),
      ),
    )
