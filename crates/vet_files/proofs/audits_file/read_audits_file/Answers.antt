use Rattle.toml.specs.View.{table_view}
use Rattle.vet_base.specs.Gives.{Gives}
use Rattle.vet_files.specs.Audits.{audits_file_told}
use Rattle.vet_files.proofs.Stands.{file-answered}
use Rattle.vet_files.proofs.audits_file.read_audits_file.Goals as goal

pub returns-clause-stands : goal.returns-clause-stands
returns-clause-stands c =
    let path = c.args.path.now in
    let ms = table_view c.args.file.now in
    let criteria = c.in_ok-criteria.ensures in
    let audits = c.in_ok-audits.ensures in
    let others = c.read_further_entries.ensures in
    let told : Gives (λ f. f) (audits_file_told c.args.whose path c.args.prefix.now ms) c.read_further_entries.result =
    rw (criteria.told, audits.told) others.told in
    file-answered c.args.whose path c.args.prefix.now ms c.read_further_entries.result criteria.rises audits.rises
    others.rises told
