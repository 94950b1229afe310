use Rattle.std.proofs.Common.{◌≡◌, ◌<◌, [], length, get_or, sym, ap, ◌∙◌, arith}
use Rattle.std.specs.FinSet as set
use Rattle.std.proofs.lemmas.List.{get_or_default, length-map, length-set}
use Rattle.vet_base.specs.declared.criterion.Criterion.{Criterion}
use Rattle.vet_base.specs.Criteria.{implied_by, placed}
use Rattle.vet_base.specs.Names.{members}
use Rattle.vet_entries.specs.LocalCriteria.{all_beyond, direct}
use Rattle.vet_entries.specs.Mapped.{mapped_name}
use Rattle.vet_entries.proofs.JoinedWords.{set_below}
use Rattle.vet_entries.proofs.MappedNames.{placed-union}
use Rattle.vet_entries.proofs.local_criteria.direct_words.Goals as goal

pub loop-place-preserved : goal.loop-place-preserved
loop-place-preserved c =
    let table = c.args.criteria.now in
    let defined = c.args.definitions.now in
    let m = c.args.map.now in
    let names = c.names-names.result.now in
    let criteria = c.criteria-defined.result.now in
    let place = c.loop-place.place in
    let k = get_or names place [] in
    let item = c.index-defined-place.result in
    let keys = c.names-names.ensures.names in
    let many : length criteria ≡ length names = sym (length-map criteria (λ (d : Criterion). d.name))
    ∙ ap length c.criteria-defined.ensures.names ∙ sym (ap length keys) in
    let name : c.index-names-place.result ≡ k = c.index-names-place.is
    ∙ get_or_default names place c.index-names-place.result [] c.loop-place-test.true in
    let low : place < length criteria = omega (arith, many, c.loop-place-test.true) in
    let implied : (get_or criteria place item).implies ≡ implied_by defined k =
    sym (ap (λ ns. implied_by defined (get_or ns place [])) keys ∙ c.criteria-defined.ensures.implied place item low) in
    let word = c.word.ensures ∙ ap (λ n. placed table (mapped_name m n)) name in
    let beyond = c.words_beyond-beyond.ensures ∙ ap (λ s. placed table (all_beyond defined m (members s))) implied in
    let within : place < length c.loop-place.words =
    omega (arith, c.loop-place.invariant.long, c.names-names.ensures.few, c.loop-place-test.true) in
    record {
      long = length-set c.loop-place.words place c.union.result ∙ c.loop-place.invariant.long;
      below = set_below c.loop-place.words place c.union.result
          (λ p. placed table (direct defined m (get_or names p []))) within
          (c.union.ensures ∙ (λ i. set.union (word i) (beyond i))
          ∙ sym (placed-union table (mapped_name m k) (all_beyond defined m (members (implied_by defined k)))))
          c.loop-place.invariant.below;
    }
