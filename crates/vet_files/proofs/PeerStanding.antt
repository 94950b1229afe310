-- What a peer's content is, a peer's file can give, and the other way round.
use Rattle.std.proofs.Common.{List}
use Rattle.vet_base.specs.declared.criterion.Criterion.{Criterion}
use Rattle.vet_entries.specs.PeerContent.{IsPeerContent}
use Rattle.vet_entries.specs.declared.entry.Entry.{Entry}
use Rattle.vet_files.specs.SameContent.{CanStand}
use Rattle.vet_files.specs.declared.read.whose.Whose.TheVariants.{Peers}

pub can-stand : (criteria : List Criterion) (entries : List Entry) → IsPeerContent criteria entries
    → CanStand Peers criteria entries
can-stand criteria entries is =
    record { further = is.further; named_once = is.named_once; few = is.few; kinds = is.kinds; once = is.once }

pub is-content : (criteria : List Criterion) (entries : List Entry) → CanStand Peers criteria entries
    → IsPeerContent criteria entries
is-content criteria entries can =
    record { further = can.further; named_once = can.named_once; few = can.few; kinds = can.kinds; once = can.once }
