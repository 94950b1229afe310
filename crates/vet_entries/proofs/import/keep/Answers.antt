use Rattle.std.proofs.Common.{◌≡◌, true, false, List, [], ◌∷◌, ◌++◌, take, get_or, sym, ap, ◌∙◌}
use Rattle.std.specs.List.{filter}
use Rattle.std.proofs.lemmas.List.{append_assoc, append-nil}
use Rattle.vet_entries.specs.declared.facts.HeldEntry.{HeldEntry}
use Rattle.vet_entries.proofs.ImportMarks.{filter_one, item_at, mark_at, one_more}
use Rattle.vet_entries.proofs.import.keep.Goals as goal
use Rattle.vet_entries.proofs.import.keep.Goals.{then-again-place+in_ok-copied+in_ok-push, else-again-place}

pub held-preserved : goal.held-preserved
held-preserved c keeps h =
    let held = c.args.held.now in
    let i = c.held.place in
    let old = c.args.entries.now.items in
    elim c.if-again-place.branch [
      | then-again-place+in_ok-copied+in_ok-push w ↦
          let x = w.index-held-place.result in
          let kept : keeps x ≡ true = mark_at keeps held i x true c.held-test.true w.index-held-place.is
          (ap (λ marks. get_or marks i false) (sym h) ∙ w.if-again-place.true) in
          ap (λ v. v.items) w.entries-is ∙ w.in_ok-push.ensures.items
          ∙ ap (λ (y : HeldEntry). c.held.entries.items ++ y ∷ []) w.in_ok-copied.ensures
          ∙ ap (λ (ys : List HeldEntry). ys ++ x ∷ []) (c.held.invariant keeps h)
          ∙ append_assoc old (filter keeps (take i held)) (x ∷ [])
          ∙ ap (λ ys. old ++ ys)
          (sym (ap (filter keeps) (one_more held i x c.held-test.true w.index-held-place.is)
          ∙ filter_one keeps (take i held) x true kept))
      | else-again-place w ↦
          let x = item_at held i c.held-test.true in
          let left : keeps x.0 ≡ false = mark_at keeps held i x.0 false c.held-test.true x.1
          (ap (λ marks. get_or marks i false) (sym h) ∙ w.if-again-place.false) in
          ap (λ v. v.items) w.entries-is ∙ c.held.invariant keeps h
          ∙ ap (λ ys. old ++ ys)
          (sym (ap (filter keeps) (one_more held i x.0 c.held-test.true x.1) ∙ filter_one keeps (take i held) x.0
          false left ∙ append-nil (filter keeps (take i held))))
    ]
