use Rattle.std.proofs.Common.{refl}
use Rattle.std.specs.Fmt.{digits}
use Rattle.std.specs.Str.{chars, is_utf8}
use Rattle.std.proofs.Math.Utf8.{encode}
use Rattle.csv.specs.Records.{field_at}
use Rattle.csv.proofs.OnLiterals.{csv_on_literals}
use Rattle.semver.proofs.OnLiterals.{semver_on_literals}
use Rattle.vet_demand.proofs.laws.table_by_example.Goals as goal

pub returns-clause-written : goal.returns-clause-written
unfolding digits
returns-clause-written c = refl

pub returns-clause-read : goal.returns-clause-read
unfolding csv_on_literals semver_on_literals field_at is_utf8 chars encode
returns-clause-read c = refl

pub returns-clause-other : goal.returns-clause-other
unfolding csv_on_literals semver_on_literals field_at is_utf8 chars encode
returns-clause-other c = refl
