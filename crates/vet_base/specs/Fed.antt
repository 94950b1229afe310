-- The writes of values to a hasher (ours).
use Rattle.std.specs.Prelude.{[], ◌++◌, unwrap_or}
use Rattle.std.specs.Hash as fed
use Rattle.vet_base.specs.Names.{NameSet, members}
use Rattle.vet_base.specs.Version.{VersionValue}

-- the names of a set, in order
abbrev pub names_fed : NameSet → fed.HashWrites
names_fed names = fed.slice fed.str (members names)

-- the three numbers, the pre-release, the build metadata and the revision's digits
abbrev pub version_fed : VersionValue → fed.HashWrites
version_fed v =
    fed.u64 v.parts.0 ++ fed.u64 v.parts.1 ++ fed.u64 v.parts.2
    ++ fed.str v.parts.3 ++ fed.str v.parts.4 ++ fed.str (unwrap_or v.revision [])
