-- The class of a pair if only one audits file is held, or the first fault (ours).
--
-- class_told checks in this order: the words (pair_told), the size and the content of the file (content_told), and then
-- the criteria (checked). The file is read as "Content of a file" says (audits_told): an unknown key, a skipped entry
-- and a double refuse nothing. 9 applies if there are more than MOST_CRITERIA, including the built-in ones (counted). 6
-- has the least name that is not a criterion (unknown_name), among the criterion asked for, those that the file's
-- criteria imply, and the criteria of its entries of all kinds; a skipped entry does not count. The facts are then the
-- table of the file's criteria and its entries, as own ones, numbered from 1 as they are read, without a register's day
-- (facts_of). The class is that of the pair by these facts (IsClassOfFile). There are no publisher records among them,
-- so no wildcard or trusted entry gives a step. There are no exemptions, so the class is never Partial or Exempted, and
-- no day matters.
use Rattle.std.specs.Prelude.{◌≡◌, Bool, [], Option, Some, None, Ok, if◌then◌else◌}
use Rattle.std.specs.FinMap as map
use Rattle.vet_base.specs.CriteriaChanges.{known}
use Rattle.vet_base.specs.Defined.{defined, least_undefined, lesser}
use Rattle.vet_base.specs.Document.{length_told}
use Rattle.vet_base.specs.Gives.{Told, found_or, ◌>>=◌}
use Rattle.vet_base.specs.Name.{read_name, read_package_name}
use Rattle.vet_base.specs.Version.{read_version}
use Rattle.vet_base.specs.Words.{Bytes, Name, Text}
use Rattle.vet_base.specs.declared.refusal.Refusal.TheVariants.{BadName, BadVersion}
use Rattle.vet_demand.specs.declared.pair.Pair.{Pair}
use Rattle.vet_entries.specs.Facts.{Facts}
use Rattle.vet_entries.specs.Numbered.{numbered}
use Rattle.vet_files.specs.Audits.{audits_told}
use Rattle.vet_files.specs.declared.audits_file.AuditsContent.{AuditsContent}
use Rattle.vet_graph.specs.Class.{IsClassOfPair}
use Rattle.vet_graph.specs.StandingOf.{class_of_pair}
use Rattle.vet_graph.specs.declared.class.Class.{Class}
use Rattle.vet_register.specs.NamesOfFiles.{counted, unknown_of_entries}

-- the name, if it isn't known
abbrev pub unknown_in : (Name → Bool) → Name → Option Name
unknown_in known name = if known name then None else Some name

-- the least unknown name, among a word, the names that a file's criteria imply and its entries' criteria
abbrev pub unknown_name : (Name → Bool) → Name → AuditsContent → Option Name
unknown_name known word content =
    unknown_of_entries known (lesser (unknown_in known word) (least_undefined known content.criteria)) content.entries

-- there are not too many criteria, and each that is named is known
abbrev pub checked : Name → AuditsContent → Told (Unit {0})
checked word content =
    counted (defined content.criteria) >>= λ _.
    known (unknown_name (map.contains_key (defined content.criteria)) word content)

-- the facts that are held, if this is the file's content
abbrev pub facts_of : AuditsContent → Facts
facts_of content = record {
  criteria = defined content.criteria;
  entries = numbered 1 content.entries;
  peers = [];
  publishers = [];
  today = None;
}

-- the class of a pair by a file's content
abbrev pub class_in : AuditsContent → Pair → Told Class
class_in content p = checked p.criterion content >>= λ _. Ok (class_of_pair (facts_of content) p)

-- the content of a file that isn't too long
abbrev pub content_told : Bytes → Told AuditsContent
content_told file =
    length_told file >>= λ _. audits_told file >>= λ found. Ok found.content

-- the pair that three words name
abbrev pub pair_told : Name → Text → Name → Told Pair
pair_told name version criterion =
    found_or BadName (read_package_name name) >>= λ name.
    found_or BadVersion (read_version version) >>= λ version.
    found_or BadName (read_name criterion) >>= λ criterion.
    Ok (record { «package» = name; version = version; criterion = criterion })

-- the words are checked first, then the file, then the criteria
abbrev pub class_told : Bytes → Name → Text → Name → Told Class
class_told file name version criterion =
    pair_told name version criterion >>= λ p. content_told file >>= λ content. class_in content p

-- the words name a pair, the file has a content, and this is the pair's class by the facts that are then held
pub record IsClassOfFile (file : Bytes) (name : Name) (version : Text) (criterion : Name) (class : Class) : Type 0 where
  pub pair : Pair
  pub content : AuditsContent
  pub named : pair_told name version criterion ≡ Ok pair
  pub read : content_told file ≡ Ok content
  pub is : IsClassOfPair (facts_of content) pair class
