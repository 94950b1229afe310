use Rattle.std.proofs.Common.{rules, tests}
use Rattle.std.proofs.lemmas.Iterator.{YieldsList-from_slice}
use Rattle.std.proofs.lemmas.Iterator.Consumers.{YieldsList-from_filter, count_from_yields_List}
use Rattle.vet_entries.specs.Replaced.{is_dated}
use Rattle.vet_entries.proofs.held_entries.dated_count.Goals as goal

pub returns : goal.returns
returns c =
    count_from_yields_List c.filter.result c.count.result c.count.ensures.ran
    (YieldsList-from_filter _ is_dated (YieldsList-from_slice c.args.entries.now cc) c.filter.ensures.closure
    (λ x b q k. search (rules, tests)))
