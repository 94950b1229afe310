use Rattle.std.proofs.Common.{◌++◌, ◌∷◌, [], map, take, refl, sym, ap, ◌∙◌}
use Rattle.std.specs.List.{flat_map}
use Rattle.std.proofs.lemmas.List.{take_all, take_more}
use Rattle.vet_entries.specs.declared.facts.HeldEntry.{HeldEntry}
use Rattle.vet_entries.specs.Step.{taken_from}
use Rattle.vet_masks.specs.Packages.{is_among}
use Rattle.vet_masks.proofs.Naming.{further, none-in, own-none, taken-more, taken-none}
use Rattle.vet_masks.proofs.names.add_entries.Goals as goal

pub peers-init : goal.peers-init
peers-init c = record {
  names = c.in_ok-add_other_packages.ensures.names;
  own = λ name none lacks. own-none name c.args.facts.now.content.entries
      (ap (λ l. is_among name (map (λ (h : HeldEntry). h.entry.«package») l)) (sym c.entries.ensures.value)
      ∙ c.in_ok-add_other_packages.ensures.others name none lacks);
  peers = λ name none lacks. refl;
}

pub peers-preserved : goal.peers-preserved
peers-preserved c =
    let peers = c.peers-peer-items.result.now in
    let i = c.peers.peer-index in
    let inv = c.peers.invariant in
    let old = c.peers.names.items in
    let peer = c.peer-item.result in
    let added = c.in_ok-add_other_packages-2.ensures in
    record {
      names = (_, further _ inv.names.0 _ _ _ inv.names.1 added.names.1);
      own = λ name none lacks.
          inv.own name (none-in name old _ (sym (ap (is_among name) added.names.1) ∙ none)).0 lacks;
      peers = λ name none lacks. (let before =
          (none-in name old _ (sym (ap (is_among name) added.names.1) ∙ none)).0 in
          taken-more name peers i peer (take_more peers i peer c.peers-test.true
          ∙ ap (λ p. take i peers ++ p ∷ []) (sym c.peer-item.is)) (inv.peers name before lacks)
          (taken-none name peer (ap (λ l. is_among name (map (λ (h : HeldEntry). h.entry.«package») l))
          (sym c.entries-in-peers.ensures.value) ∙ added.others name none lacks)));
    }

pub returns-clause-names : goal.returns-clause-names
returns-clause-names c = c.peers.invariant.names

pub returns-clause-entries : goal.returns-clause-entries
returns-clause-entries c name none lacks =
    (λ i. c.peers.invariant.own name none lacks i ++ flat_map (taken_from name) c.args.facts.now.content.peers)
    ∙ ap (flat_map (taken_from name)) (sym c.peers-peer-items.ensures.value)
    ∙ ap (flat_map (taken_from name))
    (sym (take_all c.peers.peer-index c.peers-peer-items.result.now c.peers-test.false))
    ∙ c.peers.invariant.peers name none lacks
