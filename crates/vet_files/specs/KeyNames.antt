-- The keys of the three files, as they spell them (The Cargo Vet Book, audits, config and imports files).
use Rattle.std.specs.Prelude.{codes}
use Rattle.vet_base.specs.Words.{Key, Path}

abbrev pub AUDIT_AS_CRATES_IO : Key
AUDIT_AS_CRATES_IO = codes "audit-as-crates-io"

abbrev pub AUDITS : Key
AUDITS = codes "audits"

abbrev pub CARGO_VET : Key
CARGO_VET = codes "cargo-vet"

abbrev pub CRITERIA : Key
CRITERIA = codes "criteria"

abbrev pub CRITERIA_MAP : Key
CRITERIA_MAP = codes "criteria-map"

abbrev pub DEFAULT_CRITERIA : Key
DEFAULT_CRITERIA = codes "default-criteria"

abbrev pub DELTA : Key
DELTA = codes "delta"

abbrev pub DEPENDENCY_CRITERIA : Key
DEPENDENCY_CRITERIA = codes "dependency-criteria"

abbrev pub DESCRIPTION : Key
DESCRIPTION = codes "description"

abbrev pub DESCRIPTION_URL : Key
DESCRIPTION_URL = codes "description-url"

abbrev pub DEV_CRITERIA : Key
DEV_CRITERIA = codes "dev-criteria"

abbrev pub END : Key
END = codes "end"

abbrev pub EXCLUDE : Key
EXCLUDE = codes "exclude"

abbrev pub EXEMPTIONS : Key
EXEMPTIONS = codes "exemptions"

abbrev pub IMPLIES : Key
IMPLIES = codes "implies"

abbrev pub IMPORTABLE : Key
IMPORTABLE = codes "importable"

abbrev pub IMPORTS : Key
IMPORTS = codes "imports"

abbrev pub NOTES : Key
NOTES = codes "notes"

abbrev pub POLICY : Key
POLICY = codes "policy"

abbrev pub PUBLISHER : Key
PUBLISHER = codes "publisher"

abbrev pub RENEW : Key
RENEW = codes "renew"

abbrev pub START : Key
START = codes "start"

abbrev pub SUGGEST : Key
SUGGEST = codes "suggest"

abbrev pub TRUSTED : Key
TRUSTED = codes "trusted"

abbrev pub URL : Key
URL = codes "url"

abbrev pub USER_ID : Key
USER_ID = codes "user-id"

abbrev pub USER_LOGIN : Key
USER_LOGIN = codes "user-login"

abbrev pub USER_NAME : Key
USER_NAME = codes "user-name"

abbrev pub VERSION : Key
VERSION = codes "version"

abbrev pub VIOLATION : Key
VIOLATION = codes "violation"

abbrev pub WHEN : Key
WHEN = codes "when"

abbrev pub WHO : Key
WHO = codes "who"

abbrev pub WILDCARD_AUDITS : Key
WILDCARD_AUDITS = codes "wildcard-audits"

-- the path of a file's top-level table
abbrev pub TOP : Path
TOP = codes "top"
