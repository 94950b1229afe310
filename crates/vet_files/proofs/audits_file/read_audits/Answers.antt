use Rattle.std.specs.Prelude.{codes, []}
use Rattle.toml.specs.View.{table_view}
use Rattle.vet_files.specs.declared.read.whose.Whose.TheVariants.{Ours}
use Rattle.vet_files.proofs.FurtherCriteria.{further-answered}
use Rattle.vet_files.proofs.audits_file.read_audits.Goals as goal

pub returns-clause-further : goal.returns-clause-further
returns-clause-further c = further-answered Ours (codes "top") [] (table_view c.in_ok-file.file)
    c.read_audits_file.result c.read_audits_file.ensures.told
