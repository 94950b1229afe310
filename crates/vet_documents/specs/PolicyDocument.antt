-- The documents of the commands to policies (The Cargo Vet Book, config file; the order of the keys is ours).
use Rattle.std.specs.Prelude.{List, [], ◌∷◌, Bool, Option, Ok}
use Rattle.toml.specs.Data.{Data, Members}
use Rattle.vet_base.specs.Gives.{Told, found_or, ◌>>=◌}
use Rattle.vet_base.specs.Name.{read_package_name}
use Rattle.vet_base.specs.Names.{NameSet}
use Rattle.vet_base.specs.Words.{Key}
use Rattle.vet_base.specs.declared.refusal.Refusal.TheVariants.{BadName}
use Rattle.vet_demand.specs.DependencyCriteria.{with_criteria}
use Rattle.vet_demand.specs.declared.dependency_criteria.DependencyItem.{DependencyItem}
use Rattle.vet_demand.specs.declared.policy.Policy.{Policy}
use Rattle.vet_documents.specs.DocumentField.{a_policy_key, names, only}
use Rattle.vet_documents.specs.DocumentKeys.{COMMAND}
use Rattle.vet_files.specs.Field.{a_flag, a_text, optional, required}
use Rattle.vet_files.specs.KeyNames.{AUDIT_AS_CRATES_IO, CRITERIA, DEPENDENCY_CRITERIA, DEV_CRITERIA, NOTES, POLICY}
use Rattle.vet_files.specs.Lists.{table_at}
use Rattle.vet_files.specs.Walk.{each_member}
use Rattle.vet_register.specs.declared.command.Action.{Action}
use Rattle.vet_register.specs.declared.command.Action.TheVariants.{DropPolicy, SetPolicy}

-- the list with one more dependency, and its names
abbrev pub next_dependency : List DependencyItem → Key → Data → Told (List DependencyItem)
next_dependency found key d =
    found_or BadName (read_package_name key) >>= λ name.
    names DEPENDENCY_CRITERIA key d >>= λ criteria.
    Ok (with_criteria found name criteria)

-- the criteria for dependencies, by their names; an absent map has no items
abbrev pub dependencies_told : Members → Told (List DependencyItem)
dependencies_told ms = table_at COMMAND DEPENDENCY_CRITERIA ms >>= each_member next_dependency []

-- the policy of a document, given the keys about its own package
abbrev pub dependency_policy_told : Members → Option Bool → Option NameSet → Option NameSet → Told Policy
dependency_policy_told ms published criteria dev =
    dependencies_told ms >>= λ dependencies.
    optional a_text COMMAND NOTES ms >>= λ notes.
    Ok (record {
      audit_as_crates_io = published;
      criteria = criteria;
      dev_criteria = dev;
      dependency_criteria = dependencies;
      notes = notes;
    })

-- the policy of a document
abbrev pub policy_told : Members → Told Policy
policy_told ms =
    optional a_flag COMMAND AUDIT_AS_CRATES_IO ms >>= λ published.
    optional names COMMAND CRITERIA ms >>= λ criteria.
    optional names COMMAND DEV_CRITERIA ms >>= λ dev.
    dependency_policy_told ms published criteria dev

abbrev pub set_policy_told : Members → Told Action
set_policy_told ms =
    required a_policy_key COMMAND POLICY ms >>= λ key.
    policy_told ms >>= λ policy.
    only (POLICY ∷ AUDIT_AS_CRATES_IO ∷ CRITERIA ∷ DEV_CRITERIA ∷ DEPENDENCY_CRITERIA ∷ NOTES ∷ []) ms >>= λ _.
    Ok (SetPolicy (record { key = key; policy = policy }))

abbrev pub drop_policy_told : Members → Told Action
drop_policy_told ms =
    required a_policy_key COMMAND POLICY ms >>= λ key.
    only (POLICY ∷ []) ms >>= λ _.
    Ok (DropPolicy key)
