use Rattle.std.proofs.Common.{◌++◌, ◌∷◌, [], refl, take, sym, ap, subst, ◌∙◌}
use Rattle.std.proofs.lemmas.List.{take_more}
use Rattle.vet_entries.specs.Step.{steps_of}
use Rattle.vet_graph.specs.StandingOf.{condemned_of}
use Rattle.vet_graph.specs.Moves.{moves_between}
use Rattle.vet_masks.specs.Keeper.{AreChanges}
use Rattle.vet_masks.specs.Kept.{stands_by}
use Rattle.vet_masks.specs.declared.packages.KeptChange.{KeptChange}
use Rattle.vet_masks.specs.declared.standing.Changed.{Changed}
use Rattle.vet_masks.proofs.Planning.{changes-more}
use Rattle.vet_masks.proofs.keeper.MaskKeeper.changes.Goals as goal

pub searched-requires-clause-kept : goal.searched-requires-clause-kept
searched-requires-clause-kept c = (c.requires.kept.0, c.requires.kept.1 c.index-names-place.result)

pub searched-requires-clause-local : goal.searched-requires-clause-local
searched-requires-clause-local c = c.names.invariant.local

pub names-preserved : goal.names-preserved
names-preserved c =
    let names = c.args.names.now in
    let p = c.names.place in
    let name = c.index-names-place.result in
    let facts = c.args.facts.now.content in
    let steps = steps_of facts name in
    let condemned = condemned_of facts name in
    let one : Changed = record { «package» = name; stands = c.in_ok-stands.stands } in
    let more : KeptChange = record {
      «package» = name;
      kept = c.in_ok-searched.searched.kept;
      looks = c.in_ok-searched.searched.looks;
    } in
    let longer = sym (take_more names p name c.names-test.true
    ∙ ap (λ n. take p names ++ n ∷ []) (sym c.index-names-place.is)) in
    let stands = c.in_ok-stands.ensures.stands steps condemned c.in_ok-searched.ensures.kept
    ∙ (λ i. stands_by (c.criteria.ensures.value i) steps condemned (c.pairs_of-pairs.ensures.pairs i)) in
    let moves = c.in_ok-add.ensures.moves ∙ ap (λ l. c.names.changes.moves.items ++ moves_between l
    c.in_ok-stands.stands.items) c.of-in-names.ensures.value in
    record {
      local = c.in_ok-searched.ensures.local;
      changes = subst (λ some. AreChanges c.args.self.now facts c.args.demand.now some c.add.new.self) longer
          (changes-more c.args.self.now facts c.args.demand.now (take p names) c.names.changes c.add.new.self one more
          c.names.invariant.changes refl c.in_ok-add.ensures.stands c.in_ok-add.ensures.kept moves
          c.in_ok-add.ensures.looks stands
          c.in_ok-searched.ensures.kept c.in_ok-searched.ensures.spent);
    }
