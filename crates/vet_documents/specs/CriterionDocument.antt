-- The documents of the commands to criteria (ours).
use Rattle.std.specs.Prelude.{[], ◌∷◌, Ok}
use Rattle.toml.specs.Data.{Members}
use Rattle.vet_base.specs.Gives.{Told, ◌>>=◌}
use Rattle.vet_base.specs.declared.criterion.Criterion.{Criterion}
use Rattle.vet_documents.specs.DocumentField.{a_name, names, only}
use Rattle.vet_documents.specs.DocumentKeys.{COMMAND, NAME}
use Rattle.vet_files.specs.Audits.{or_none}
use Rattle.vet_files.specs.Field.{a_text, optional, required}
use Rattle.vet_files.specs.KeyNames.{DESCRIPTION, DESCRIPTION_URL, IMPLIES}
use Rattle.vet_register.specs.declared.command.Action.{Action}
use Rattle.vet_register.specs.declared.command.Action.TheVariants.{RemoveCriterion, SetCriterion}

-- the criterion of a document
abbrev pub criterion_told : Members → Told Criterion
criterion_told ms =
    required a_name COMMAND NAME ms >>= λ name.
    optional a_text COMMAND DESCRIPTION ms >>= λ description.
    optional a_text COMMAND DESCRIPTION_URL ms >>= λ url.
    optional names COMMAND IMPLIES ms >>= λ implies.
    Ok (record { name = name; description = description; url = url; implies = or_none implies })

abbrev pub set_criterion_told : Members → Told Action
set_criterion_told ms =
    criterion_told ms >>= λ criterion.
    only (NAME ∷ DESCRIPTION ∷ DESCRIPTION_URL ∷ IMPLIES ∷ []) ms >>= λ _.
    Ok (SetCriterion criterion)

abbrev pub remove_criterion_told : Members → Told Action
remove_criterion_told ms =
    required a_name COMMAND NAME ms >>= λ name.
    only (NAME ∷ []) ms >>= λ _.
    Ok (RemoveCriterion name)
