-- The keys of command documents that the files lack (ours).
use Rattle.std.specs.Prelude.{codes}
use Rattle.vet_base.specs.Words.{Key, Path}

-- the key of the command's word, and the path of the table that a document is
abbrev pub COMMAND : Key
COMMAND = codes "command"

abbrev pub CONFIG : Key
CONFIG = codes "config"

abbrev pub CSV : Key
CSV = codes "csv"

abbrev pub KIND : Key
KIND = codes "kind"

abbrev pub LAST_DAY : Key
LAST_DAY = codes "last-day"

abbrev pub MEMBER : Key
MEMBER = codes "member"

abbrev pub NAME : Key
NAME = codes "name"

abbrev pub NUMBER : Key
NUMBER = codes "number"

abbrev pub PACKAGE : Key
PACKAGE = codes "package"

abbrev pub PEER : Key
PEER = codes "peer"

abbrev pub PROJECT : Key
PROJECT = codes "project"

abbrev pub RECORDS : Key
RECORDS = codes "records"

abbrev pub REVIEW : Key
REVIEW = codes "review"

-- the path of the member who gives a command
abbrev pub HEAD : Path
HEAD = codes "head"

abbrev pub VET_MEMBER : Key
VET_MEMBER = codes "vet-member"
