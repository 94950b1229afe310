use Rattle.std.proofs.Common.{◌++◌, ◌∷◌, [], not, arith, sym, ap, ◌∙◌}
use Rattle.std.proofs.lemmas.List.{append_assoc, length_push}
use Rattle.vet_entries.proofs.Firsts.{mark_here, distinct-held, distinct-new}
use Rattle.vet_entries.proofs.distinct.distinct.Goals as goal

pub index-is_first-requires : goal.index-is_first-requires
index-is_first-requires c =
    let h = c.entries.invariant in
    let here = mark_here c.entries.yielded c.in_ok-marks.ensures c.as_slice.ensures.value h.2
    c.in-Some.ensures.steps.0 h.3 in
    omega (arith, here.0, c.in_ok-marks.marks.ok)

pub entries-preserved-in-Continue-branch-2 : goal.entries-preserved-in-Continue-branch-2
entries-preserved-in-Continue-branch-2 c =
    let so_far = c.entries.yielded in
    let entry = c.in-Some.entry in
    let h = c.entries.invariant in
    let steps = c.in-Some.ensures.steps.0 in
    let here = mark_here c.entries.yielded c.in_ok-marks.ensures c.as_slice.ensures.value h.2 steps h.3 in
    let new = here.1 _ c.index-is_first.ensures ∙ ap not c.if-is_first.true in (
      tt,
      tt,
      h.2 ∙ ap (λ es. so_far ++ es) steps ∙ sym (append_assoc so_far (entry ∷ []) c.next.new.self.rest.items),
      omega (arith, h.3, length_push so_far entry),
      c.in_ok-push.ensures.items ∙ ap (λ kept. kept ++ entry ∷ []) h.4 ∙ sym (distinct-new so_far entry new),
    )

pub entries-preserved : goal.entries-preserved
entries-preserved c =
    let so_far = c.entries.yielded in
    let entry = c.in-Some.entry in
    let h = c.entries.invariant in
    let steps = c.in-Some.ensures.steps.0 in
    let here = mark_here c.entries.yielded c.in_ok-marks.ensures c.as_slice.ensures.value h.2 steps h.3 in
    let held = here.1 _ c.index-is_first.ensures ∙ ap not c.if-is_first.false in (
      tt,
      tt,
      h.2 ∙ ap (λ es. so_far ++ es) steps ∙ sym (append_assoc so_far (entry ∷ []) c.next.new.self.rest.items),
      omega (arith, h.3, length_push so_far entry),
      h.4 ∙ sym (distinct-held so_far entry held),
    )
