use Rattle.std.proofs.Common.{◌∙◌, sym}
use Rattle.std.specs.Ordering.{nat_cmp}
use Rattle.std.specs.Cmp.Lexicographic.{slice_cmp}
use Rattle.std.proofs.lemmas.Cmp.{nat_list_cmp_total}
use Rattle.vet_base.proofs.ItemLemmas.{in_all}
use Rattle.vet_base.proofs.Rising.{only_equal}
use Rattle.vet_entries.specs.HeldPeer.{peer_name}
use Rattle.vet_item_rows.specs.Numbers.{PeerFits}
use Rattle.vet_rows.proofs.KeyedExchanges.{found_in}
use Rattle.vet_rows.proofs.row_changes.fact_changes.content_exchanges.Goals as goal

pub entries_of_peer-requires : goal.entries_of_peer-requires
entries_of_peer-requires c = λ p e.
    in_all PeerFits c.args.facts.now.content.peers c.requires.held p
    (found_in (slice_cmp nat_cmp) nat_list_cmp_total only_equal peer_name c.args.facts.now.content.peers
    c.args.name.now p (sym c.peer-held.ensures ∙ e)).0
