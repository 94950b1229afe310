use Rattle.std.proofs.Common.{◌≡◌, ◌+◌, true, false, List, [], ◌∷◌, ◌++◌, length, take, get_or, sym, ap, ◌∙◌, arith}
use Rattle.std.specs.List.{filter}
use Rattle.std.proofs.lemmas.List.{append_assoc, append-nil, take-map}
use Rattle.vet_entries.specs.declared.entry.Entry.{Entry}
use Rattle.vet_entries.specs.declared.facts.HeldEntry.{HeldEntry}
use Rattle.vet_entries.specs.Entry.{of_source}
use Rattle.vet_entries.specs.Numbered.{numbered}
use Rattle.vet_entries.specs.Replaced.{as_of}
use Rattle.vet_entries.proofs.ImportMarks.{count, count_more, count_within, filter_one, item_at, map_more, mark_of}
use Rattle.vet_entries.proofs.ImportMarks.{marks_count}
use Rattle.vet_entries.proofs.Numbers.{numbered_push}
use Rattle.vet_entries.proofs.import.add.Goals as goal
use Rattle.vet_entries.proofs.import.add.Goals.{then-fresh-place+in_ok-entry+in_ok-push, else-fresh-place}

pub overflow_add-number : goal.overflow_add-number
overflow_add-number c =
    let marks = c.args.fresh.now in
    let i = c.entries.place in
    let more = count_more marks i true (omega (arith, c.requires.fresh, c.entries-test.true)) c.if-fresh-place.true in
    let within = count_within marks (i + 1) in
    omega (arith, more, within, c.entries.invariant.0, c.requires.numbers)

pub entries-preserved : goal.entries-preserved
entries-preserved c =
    let marks = c.args.fresh.now in
    let entries = c.args.entries.now in
    let next = c.args.next in
    let old = c.args.held.now.items in
    let i = c.entries.place in
    let theirs = of_source c.args.source.now in
    let so_far = as_of c.args.source.now (take i entries) in
    elim c.if-fresh-place.branch [
      | then-fresh-place+in_ok-entry+in_ok-push w ↦
          let x = w.index-entries-place.result in
          let more = count_more marks i true (omega (arith, c.requires.fresh, c.entries-test.true))
          w.if-fresh-place.true in
          let copied : w.in_ok-entry.entry ≡ theirs x = w.in_ok-entry.ensures in (
            omega (arith, more, w.number-is, c.entries.invariant.0),
            λ is_new h.
                let fresh : is_new (theirs x) ≡ true = mark_of is_new theirs entries i x true c.entries-test.true
                w.index-entries-place.is (ap (λ ms. get_or ms i false) (sym h) ∙ w.if-fresh-place.true) in
                let count_so_far : count (take i marks) ≡ length (filter is_new so_far) =
                ap (λ ms. count (take i ms)) h ∙ ap count (take-map is_new i (as_of c.args.source.now entries))
                ∙ marks_count is_new (take i (as_of c.args.source.now entries))
                ∙ ap (λ es. length (filter is_new es)) (take-map theirs i entries) in
                let kept = filter is_new so_far in
                ap (λ v. v.items) w.held-is ∙ w.in_ok-push.ensures.items
                ∙ ap (λ (e : Entry). c.entries.held.items ++ (record { number = c.entries.number; entry = e }) ∷ [])
                copied
                ∙ ap (λ (hs : List HeldEntry). hs ++ (record { number = c.entries.number; entry = theirs x }) ∷ [])
                (c.entries.invariant.1 is_new h)
                ∙ append_assoc old (numbered next kept) ((record { number = c.entries.number; entry = theirs x }) ∷ [])
                ∙ ap (λ (hs : List HeldEntry). old ++ hs)
                (sym (numbered_push next c.entries.number kept (theirs x)
                (omega (arith, c.entries.invariant.0, count_so_far))))
                ∙ ap (λ es. old ++ numbered next es)
                (sym (ap (filter is_new) (map_more theirs entries i x c.entries-test.true w.index-entries-place.is)
                ∙ filter_one is_new so_far (theirs x) true fresh)),
          )
      | else-fresh-place w ↦
          let x = item_at entries i c.entries-test.true in
          let more = count_more marks i false (omega (arith, c.requires.fresh, c.entries-test.true))
          w.if-fresh-place.false in (
            omega (arith, more, w.number-is, c.entries.invariant.0),
            λ is_new h.
                let old_one : is_new (theirs x.0) ≡ false = mark_of is_new theirs entries i x.0 false
                c.entries-test.true x.1 (ap (λ ms. get_or ms i false) (sym h) ∙ w.if-fresh-place.false) in
                ap (λ v. v.items) w.held-is ∙ c.entries.invariant.1 is_new h
                ∙ ap (λ es. old ++ numbered next es)
                (sym (ap (filter is_new) (map_more theirs entries i x.0 c.entries-test.true x.1)
                ∙ filter_one is_new so_far (theirs x.0) false old_one ∙ append-nil (filter is_new so_far))),
          )
    ]
