use Rattle.std.proofs.Common.{rules, tests}
use Rattle.std.specs.BTreeSet.{IsFromIterResult}
use Rattle.std.proofs.lemmas.Iterator.{YieldsList-from_map, YieldsList-from_slice}
use Rattle.std.proofs.lemmas.Iterator.Adapters.{fact_from_collect}
use Rattle.vet_entries.specs.declared.facts.HeldEntry.{HeldEntry}
use Rattle.vet_entries.specs.Entry.{own}
use Rattle.vet_entries.specs.EntryOrder.{entry_cmp}
use Rattle.vet_entries.proofs.distinct.said_by.Goals as goal

pub returns : goal.returns
returns c =
    fact_from_collect (IsFromIterResult entry_cmp) c.collect.result c.collect.ensures.ran
    (YieldsList-from_map _ (λ (h : HeldEntry). own h.entry) (YieldsList-from_slice c.args.held.now cc) (cc)
    (λ x r q k. search (rules, tests)))
