use Rattle.std.proofs.Common.{◌≡◌, false, IfOk, List, [], Ok, Err, Result, sym, ap, ◌∙◌}
use Rattle.std.specs.BTreeMap.{get}
use Rattle.std.specs.Cmp.Lexicographic.{slice_cmp}
use Rattle.std.specs.Ordering.{nat_cmp}
use Rattle.std.specs.FinSet as set
use Rattle.vet_base.specs.Names.{NameSet}
use Rattle.vet_base.specs.Words.{Name}
use Rattle.vet_base.specs.declared.refusal.Refusal.{Refusal}
use Rattle.vet_demand.specs.declared.pair.Pair.{Pair}
use Rattle.vet_entries.specs.Facts.{Facts}
use Rattle.vet_entries.specs.Step.{entries_of}
use Rattle.vet_graph.specs.Touched.{pairs_at}
use Rattle.vet_masks.specs.declared.keeper.MaskKeeper.{MaskKeeper}
use Rattle.vet_masks.specs.Keeper.{HoldsAt}
use Rattle.vet_masks.specs.Packages.{has_kept_slot}
use Rattle.vet_masks.specs.Standings.{has_slot}
use Rattle.vet_masks.proofs.Naming.{none-kept}
use Rattle.vet_masks.proofs.Touching.{held-nowhere, held-outside}
use Rattle.vet_masks.proofs.keeper.MaskKeeper.names_of.Goals as goal

-- at a package that is among none of those that have something, nothing is held
held-beside : (k : MaskKeeper) (facts : Facts) (demand : List Pair) (names : Result NameSet Refusal)
    → IfOk names (λ s. (name : Name) → set.contains s name ≡ false → has_slot k.standing name ≡ false)
    → IfOk names (λ s. (name : Name) → set.contains s name ≡ false → has_kept_slot k.packages name ≡ false)
    → IfOk names (λ s. (name : Name) → set.contains s name ≡ false → pairs_at name demand ≡ [])
    → IfOk names (λ s. (name : Name) → set.contains s name ≡ false → entries_of facts name ≡ [])
    → IfOk names (λ s. (name : Name) → set.contains s name ≡ false → HoldsAt k facts demand name)
held-beside k facts demand (Ok s) slots kept pairs entries = λ name none.
    held-nowhere k facts demand name (slots name none)
    (none-kept (get (slice_cmp nat_cmp) k.packages.packages name) (kept name none)) (pairs name none)
    (entries name none)
held-beside k facts demand (Err e) slots kept pairs entries = tt

pub returns-in-All-clause-others : goal.returns-in-All-clause-others
returns-in-All-clause-others c = held-beside c.args.self.now c.args.facts.now.content c.args.demand.now
    c.all_names.result c.all_names.ensures.slots c.all_names.ensures.kept c.all_names.ensures.pairs
    c.all_names.ensures.entries

pub returns-in_ok-clone-in-Packages-clause-others : goal.returns-in_ok-clone-in-Packages-clause-others
returns-in_ok-clone-in-Packages-clause-others c name none =
    let same = rw c.in-Packages.is at c.requires.3 in
    held-outside c.args.self.now c.requires.0 c.requires.1 c.args.facts.now.content c.args.demand.now name
    c.is_by_package.ensures c.requires.2 same.criteria
    (same.packages name
    (sym (ap (λ (s : NameSet). set.contains s name) c.in_ok-clone-in-Packages.ensures.cases) ∙ none))
