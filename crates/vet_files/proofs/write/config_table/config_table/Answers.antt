use Rattle.std.proofs.Common.{ap}
use Rattle.toml.specs.View.{members_view}
use Rattle.vet_files.proofs.write.config_table.config_table.Goals as goal

pub fill_config-requires : goal.fill_config-requires
fill_config-requires c = ap members_view c.new-file.ensures.empty
