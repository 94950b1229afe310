-- A set of entries is as long as the list that it was made of just where no two of these are the same.
use Rattle.std.proofs.Common.{◌≢◌, List, length, nat_eq, eqb-true, eq-eqb, sym, ◌∙◌}
use Rattle.std.specs.Bool.{Decides}
use Rattle.std.specs.BTreeSet.{BTreeSet, IsFromIterResult, btree_set_len}
use Rattle.std.specs.Cmp.{eq_by_cmp_equiv}
use Rattle.std.specs.List.{AllPairs}
use Rattle.std.proofs.lemmas.Map.Made.{AllPairs-from_IsDistinct, IsDistinct-from_AllPairs, IsDistinct-from_count}
use Rattle.std.proofs.lemmas.Map.Made.{distinct_count-from_IsDistinct}
use Rattle.std.proofs.lemmas.Map.Views.{btree_set_len-from_list}
use Rattle.vet_entries.specs.declared.entry.Entry.{Entry}
use Rattle.vet_entries.specs.EntryOrder.{entry_cmp}
use Rattle.vet_entries.specs.EntryOrderLaws.{entry_cmp-Decides, entry_cmp_total}

pub said_once : (es : List Entry) (said : BTreeSet Entry) → IsFromIterResult entry_cmp es said
    → Decides (nat_eq (btree_set_len said) (length es)) (AllPairs (λ a b. a ≢ b) es)
said_once es said h =
    let laws = eq_by_cmp_equiv entry_cmp_total in
    let count = btree_set_len-from_list entry_cmp_total es said h in (
      λ e. AllPairs-from_IsDistinct entry_cmp-Decides es (IsDistinct-from_count laws es (sym count ∙ eqb-true _ _ e)),
      λ a. eq-eqb _ _ (count
          ∙ distinct_count-from_IsDistinct laws es (IsDistinct-from_AllPairs entry_cmp-Decides es a)),
    )
