use Rattle.std.proofs.Common.{◌≡◌, ◌∙◌, ◌++◌, [], ◌∷◌, sym}
use Rattle.vet_entries.specs.Import.{compared}
use Rattle.vet_entries.proofs.ImportMarks.{map_more}
use Rattle.vet_register.specs.Replacing.{compared_peer}
use Rattle.vet_register.proofs.files_comparison.compare_peers.Goals as goal

pub peers-preserved : goal.peers-preserved
peers-preserved c =
    let found = compared_peer c.args.facts.now.content.peers c.args.files.now.contents in
    let p = c.settings-item.result in
    let one : c.in_ok-compare.field-0 ≡ found p =
    c.in_ok-compare.ensures.ok ∙ (λ j. compared p.name (c.held_of-held.ensures j) (c.content_of-content.ensures j)) in
    c.in_ok-push.ensures.items
    ∙ (λ j. c.peers.invariant j ++ one j ∷ [])
    ∙ sym (map_more found c.settings-peers.result.now c.peers.settings-index p c.peers-test.true c.settings-item.is)
