use Rattle.std.proofs.Common.{[]}
use Rattle.vet_entries.specs.Facts.{no_facts}
use Rattle.vet_register.proofs.restored.keeper_of.Goals as goal

-- the keeper begins with nothing held, which gives nothing
pub plan-requires-clause-outside : goal.plan-requires-clause-outside
plan-requires-clause-outside g c =
    (no_facts, [], c.in_ok-keeper.ensures.keeps no_facts c.nothing_vets_nothing.ensures.gives, tt)
