use Rattle.std.proofs.Common.{◌∙◌, [], List, ap, map, refl, subst, sym}
use Rattle.std.proofs.lemmas.Cmp.{nat_list_cmp_total}
use Rattle.vet_base.specs.Keyed.{IsByKey, all_set}
use Rattle.vet_base.proofs.Rising.{R, only_equal}
use Rattle.vet_entries.specs.HeldPeer.{peer_name}
use Rattle.vet_entries.specs.PeerSettings.{settings_name}
use Rattle.vet_entries.proofs.SetInOrder.{set_in_order}
use Rattle.vet_item_rows.specs.Gathered.{gathered, head_key}
use Rattle.vet_item_rows.specs.ReadBack.{EachStandsFor}
use Rattle.vet_item_rows.specs.ReadPeers.{IsGroupOf, PeerGroup}
use Rattle.vet_item_rows.proofs.Gathering.{gathered_by_key}
use Rattle.vet_item_rows.proofs.PeersMade.{groups_stand, settings_are}
use Rattle.vet_item_rows.proofs.Reading.{passed_on}
use Rattle.vet_item_rows.proofs.read.held_peers.peers_of.Goals as goal

pub gather-requires-2 : goal.gather-requires-2
gather-requires-2 c =
    subst (IsByKey R (head_key settings_name)) (sym c.in_ok-groups.ensures)
    (gathered_by_key R nat_list_cmp_total only_equal settings_name c.args.entries.items
    c.into_items-settings.result.items
    (subst (IsByKey R settings_name) (sym c.into_items-settings.ensures.value) c.into_items-settings.ensures.by_key))

pub returns-in_err-peers-clause-back : goal.returns-in_err-peers-clause-back
returns-in_err-peers-clause-back c peers parts =
    let settings = c.into_items-settings.ensures.value ∙ c.in_ok-of.ensures
    ∙ settings_are c.args.settings.items c.args.entries.items c.args.criteria.items peers parts in
    let groups = c.in_ok-groups-2.ensures
    ∙ ap (map (gathered R (head_key settings_name) c.args.criteria.items))
    (c.in_ok-groups.ensures ∙ ap (map (gathered R settings_name c.args.entries.items)) settings) in
    let stand = subst (λ (gs : List PeerGroup). EachStandsFor IsGroupOf gs peers) (sym groups)
    (groups_stand c.args.settings.items c.args.entries.items c.args.criteria.items peers parts) in
    rw (passed_on c.from_residual-in_err-peers.result c.in_err-peers.field-0.0 c.from_residual-in_err-peers.ensures.1
    (c.in_err-peers.ensures peers stand)) refl

pub returns-clause-back : goal.returns-clause-back
returns-clause-back c peers parts =
    let settings = c.into_items-settings.ensures.value ∙ c.in_ok-of.ensures
    ∙ settings_are c.args.settings.items c.args.entries.items c.args.criteria.items peers parts in
    let groups = c.in_ok-groups-2.ensures
    ∙ ap (map (gathered R (head_key settings_name) c.args.criteria.items))
    (c.in_ok-groups.ensures ∙ ap (map (gathered R settings_name c.args.entries.items)) settings) in
    let stand = subst (λ (gs : List PeerGroup). EachStandsFor IsGroupOf gs peers) (sym groups)
    (groups_stand c.args.settings.items c.args.entries.items c.args.criteria.items peers parts) in
    c.into_items.ensures.value ∙ c.in_ok-of-2.ensures
    ∙ ap (all_set R peer_name []) (c.in_ok-peers.ensures peers stand) ∙ set_in_order R peer_name peers parts.by_name
