use Rattle.std.proofs.Common.{ap, sym, ◌∙◌}
use Rattle.std.specs.FinSet as set
use Rattle.vet_base.specs.Criteria.{placed}
use Rattle.vet_base.specs.Names.{members}
use Rattle.vet_base.specs.CriteriaSetLaws.{same_places}
use Rattle.vet_entries.specs.LocalCriteria.{mapped_beyond}
use Rattle.vet_entries.proofs.JoinedWords.{of_all, of_more, of_none}
use Rattle.vet_entries.proofs.PeerWords.{has-all_beyond}
use Rattle.vet_entries.proofs.local_criteria.words_beyond.Goals as goal

pub loop-name-preserved : goal.loop-name-preserved
loop-name-preserved c =
    of_more (λ n. placed c.args.criteria.now (mapped_beyond c.args.definitions.now c.args.map.now n))
    c.as_slice-name-items.result.now c.loop-name.name-index c.name-item.result c.loop-name.set c.union-set.result
    c.loop-name-test.true c.name-item.is c.loop-name.invariant
    (c.union-set.ensures ∙ ap (set.union c.loop-name.set) c.word_beyond.ensures)

pub loop-name-init : goal.loop-name-init
loop-name-init c = of_none c.empty-set.result c.empty-set.ensures

pub returns : goal.returns
returns c =
    let table = c.args.criteria.now in
    let defined = c.args.definitions.now in
    let m = c.args.map.now in
    let names = members c.args.names.now in
    same_places _ _ (λ q. of_all (λ n. placed table (mapped_beyond defined m n)) c.as_slice-name-items.result.now names
    c.loop-name.name-index c.loop-name.set
    c.loop-name-test.false c.as_slice-name-items.ensures.members c.loop-name.invariant q
    ∙ sym (has-all_beyond defined m table names q))
