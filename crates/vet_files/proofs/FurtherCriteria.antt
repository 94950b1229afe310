-- The criteria of an audits file are none of the built-in ones.
use Rattle.std.proofs.Common.{◌≡◌, ◌++◌, List, false, IfOk}
use Rattle.std.specs.Prelude.{ℕ, Ok, Err, Option, codes, if◌then◌else◌}
use Rattle.std.specs.List.{All}
use Rattle.std.specs.Option.{option_to_list}
use Rattle.std.specs.declared.result.Result.{Result}
use Rattle.std.proofs.lemmas.Bool.{cond_both}
use Rattle.std.proofs.lemmas.List.Elements.{All-nil, All-append}
use Rattle.std.proofs.lemmas.Result.{IfOk-at_ok}
use Rattle.toml.specs.Data.{Data, Members, as_table}
use Rattle.vet_base.specs.CriteriaChanges.{is_built_in}
use Rattle.vet_base.specs.Gives.{Gives, found_or, ◌>>=◌}
use Rattle.vet_base.specs.Name.{is_name}
use Rattle.vet_base.specs.declared.criterion.Criterion.{Criterion}
use Rattle.vet_base.specs.declared.refusal.Refusal.{Refusal}
use Rattle.vet_files.specs.declared.audits_file.AuditsContent.{AuditsContent}
use Rattle.vet_files.specs.declared.found.Found.{Found}
use Rattle.vet_files.specs.declared.read.whose.Whose.{Whose}
use Rattle.vet_files.specs.Audits.{audit_told, audits_file_told, built_in_criterion, criteria_of, criterion_told}
use Rattle.vet_files.specs.Audits.{entries_of, further_criterion, next_criterion, room_for_criterion, trusted_told}
use Rattle.vet_files.specs.Audits.{wildcard_told}
use Rattle.vet_files.specs.Field.{fault}
use Rattle.vet_files.specs.Lists.{nothing, path_below, table_at}
use Rattle.vet_files.specs.Walk.{each_member}
use Rattle.vet_files.proofs.Walks.{bind-gives, bind-keeps, each_member-keeps}
use Rattle.vet_files.proofs.PeerLemmas.{IsFurther, IsOneFurther, criterion_told-one}

abbrev AreFurther : Found (List Criterion) → Type 0
AreFurther found = All IsFurther found.content

further_criterion-further : (whose : Whose) (path name : List ℕ) (found : Found (List Criterion))
    (table : Option Members) → is_built_in name ≡ false → AreFurther found
    → IfOk (further_criterion whose path name found table) AreFurther
further_criterion-further whose path name found table own held =
    bind-gives AreFurther (room_for_criterion whose _) _ (λ _.
    bind-keeps IsOneFurther AreFurther (found_or (fault path name) table >>= criterion_told name (path_below path name))
    _
    (bind-gives IsOneFurther (found_or (fault path name) table) (criterion_told name (path_below path name))
    (λ ms. criterion_told-one name (path_below path name) ms own))
    (λ more one. All-append IsFurther found.content (option_to_list more.content) held one.0))

next_criterion-further : (whose : Whose) (path : List ℕ) (found : Found (List Criterion)) (name : List ℕ) (d : Data)
    → AreFurther found → IfOk (next_criterion whose path found name d) AreFurther
next_criterion-further whose path found name d held =
    let passed = built_in_criterion path name found (as_table d) in
    let further = further_criterion whose path name found (as_table d) in
    cond_both (is_name name) (if is_built_in name then passed else further) (Err (fault path name))
    (λ r. IfOk r AreFurther)
    (λ _. cond_both (is_built_in name) passed further (λ r. IfOk r AreFurther)
    (λ _. bind-gives AreFurther (found_or (fault path name) (as_table d)) _ (λ _. held))
    (λ own. further_criterion-further whose path name found (as_table d) own held))
    (λ _. tt)

criteria_of-further : (whose : Whose) (path prefix : List ℕ) (ms : Members)
    → IfOk (criteria_of whose path prefix ms) AreFurther
criteria_of-further whose path prefix ms =
    let step = next_criterion whose (prefix ++ codes "criteria") in
    bind-gives AreFurther (table_at path (codes "criteria") ms) (each_member step nothing)
    (λ table. each_member-keeps AreFurther step (next_criterion-further whose (prefix ++ codes "criteria")) nothing
    table (All-nil IsFurther))

-- no criterion of the file is named as a built-in one
abbrev pub HasFurther : Found AuditsContent → Type 0
HasFurther found = All (λ (c : Criterion). is_built_in c.name ≡ false) found.content.criteria

audits_file-further : (whose : Whose) (path prefix : List ℕ) (ms : Members)
    → IfOk (audits_file_told whose path prefix ms) HasFurther
audits_file-further whose path prefix ms =
    bind-keeps AreFurther HasFurther (criteria_of whose path prefix ms) _ (criteria_of-further whose path prefix ms)
    (λ criteria held.
    bind-gives HasFurther (entries_of (audit_told whose) path prefix (codes "audits") ms) _ (λ audits.
    bind-gives HasFurther (entries_of wildcard_told path prefix (codes "wildcard-audits") ms) _ (λ wildcards.
    bind-gives HasFurther (entries_of (trusted_told whose) path prefix (codes "trusted") ms) _ (λ trusted. held))))

-- what a reader answers that gives this
pub further-answered : (whose : Whose) (path prefix : List ℕ) (ms : Members)
    (answer : Result (Found AuditsContent) Refusal)
    → Gives (λ f. f) (audits_file_told whose path prefix ms) answer → IfOk answer HasFurther
further-answered whose path prefix ms (Ok found) told =
    IfOk-at_ok HasFurther told (audits_file-further whose path prefix ms)
further-answered whose path prefix ms (Err refusal) told = tt
