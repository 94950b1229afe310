use Rattle.vet_base.proofs.DefinedTables.{defined_few}
use Rattle.vet_base.proofs.definitions.Definitions.of.Goals as goal

pub with_built_in-requires : goal.with_built_in-requires
with_built_in-requires c = record { few = defined_few c.args.criteria.items c.requires.few }
