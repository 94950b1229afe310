-- The criteria that files name and do not define (ours).
use Rattle.std.specs.Prelude.{Bool, not, nat_lt, List, Option, None, Ok, Err, if◌then◌else◌, find, fold}
use Rattle.std.specs.FinMap as map
use Rattle.std.specs.FinSet as set
use Rattle.vet_base.specs.Criteria.{Criteria}
use Rattle.vet_base.specs.Defined.{least_undefined, lesser}
use Rattle.vet_base.specs.Gives.{Told}
use Rattle.vet_base.specs.Names.{NameSet, members}
use Rattle.vet_base.specs.Words.{Name}
use Rattle.vet_base.specs.declared.criterion.Criterion.{Criterion}
use Rattle.vet_base.specs.declared.limits.TheConstants.{MOST_CRITERIA}
use Rattle.vet_base.specs.declared.refusal.Refusal.TheVariants.{TooManyCriteria}
use Rattle.vet_demand.specs.declared.policies.KeyedPolicy.{KeyedPolicy}
use Rattle.vet_demand.specs.PolicyNames.{names_in}
use Rattle.vet_entries.specs.declared.entry.Entry.{Entry}
use Rattle.vet_entries.specs.declared.peer_settings.PeerSettings.{PeerSettings}
use Rattle.vet_entries.specs.PeerWords.{targets}
use Rattle.vet_files.specs.FilesContent.{FilesValue}

-- a table has at most MOST_CRITERIA criteria
abbrev pub counted : Criteria → Told (Unit {0})
counted table = if nat_lt MOST_CRITERIA (map.len table) then Err TooManyCriteria else Ok tt

-- the lesser of a name, if there is one, and the least unknown one of some names
abbrev pub or_unknown : (Name → Bool) → Option Name → NameSet → Option Name
or_unknown known least names = lesser least (find (λ n. not (known n)) (members names))

-- the lesser of a name, if there is one, and the least unknown name among the criteria of some entries
abbrev pub unknown_of_entries : (Name → Bool) → Option Name → List Entry → Option Name
unknown_of_entries known least entries = fold (λ least e. or_unknown known least e.criteria) least entries

-- the same of the names in some policies
abbrev pub unknown_of_policies : (Name → Bool) → Option Name → List KeyedPolicy → Option Name
unknown_of_policies known least policies = fold (λ least k. or_unknown known least (names_in k.policy)) least policies

-- the same of the targets of some peers' maps
abbrev pub unknown_of_targets : (Name → Bool) → Option Name → List PeerSettings → Option Name
unknown_of_targets known least peers = fold (λ least p. or_unknown known least (targets p.map)) least peers

-- the least unknown name among those that criteria imply, those in own entries, exemptions and policies, and the
-- targets of peers' maps
abbrev pub unknown_of_files : (Name → Bool) → FilesValue → Option Name
unknown_of_files known f =
    unknown_of_targets known
    (unknown_of_policies known (unknown_of_entries known (least_undefined known f.criteria) f.entries) f.policies)
    f.settings

-- a criterion that has only its name
abbrev pub named_alone : Criterion → Criterion
named_alone c = record { name = c.name; description = None; url = None; implies = set.empty }
