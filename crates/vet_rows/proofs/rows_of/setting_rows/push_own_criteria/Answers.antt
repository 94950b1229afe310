use Rattle.std.proofs.Common.{◌∙◌, ◌++◌, [], ◌∷◌, Some, None, ap, map, sym, take, arith}
use Rattle.std.specs.List.{filter_map}
use Rattle.std.specs.Option.{option_copied}
use Rattle.std.proofs.lemmas.List.{append-nil}
use Rattle.vet_item_rows.specs.Columns.{own_peer}
use Rattle.vet_item_rows.specs.SettingRows.{criterion_row}
use Rattle.vet_item_rows.proofs.Listed.{one_more_row}
use Rattle.vet_register.specs.HeldFiles.{further_at}
use Rattle.vet_register.proofs.FurtherCriteria.{found_further}
use Rattle.vet_rows.proofs.rows_of.setting_rows.push_own_criteria.Goals as goal
use Rattle.vet_rows.proofs.rows_of.setting_rows.push_own_criteria.Goals.{in-Some+in_ok-criterion_row+in_ok-push}
use Rattle.vet_rows.proofs.rows_of.setting_rows.push_own_criteria.Goals.{in_default}

pub names-preserved : goal.names-preserved
names-preserved c =
    let at = further_at c.args.table.now in
    let before = c.args.rows.now.items in
    let found = filter_map at (take c.names.name-index c.args.names.now) in
    let onward = found_further at c.args.names.now c.names.name-index c.name-item.result
    (omega (arith, c.names-test.true)) c.name-item.is in
    elim c.match-further_at.branch [
      | in-Some+in_ok-criterion_row+in_ok-push w ↦ rw w.rows-is
          (w.in_ok-push.ensures.items ∙ (λ i. c.names.invariant i ++ w.in_ok-criterion_row.ensures i ∷ [])
          ∙ one_more_row (criterion_row own_peer) before found w.in-Some.criterion.now
          ∙ ap (λ cs. before ++ map (criterion_row own_peer) cs)
          (onward (Some w.in-Some.criterion.now) (ap option_copied (sym w.in-Some.is) ∙ c.further_at.ensures)))
      | in_default w ↦ rw w.rows-is
          (c.names.invariant ∙ ap (λ cs. before ++ map (criterion_row own_peer) cs)
          (sym (append-nil found) ∙ onward None (ap option_copied (sym w.in_default.is) ∙ c.further_at.ensures)))
    ]
