-- The room is enough for the fields of any head that is so short.
use Rattle.std.proofs.Common.{rules, arith}
use Rattle.vet_requests.proofs.FieldRoom.{has_room}
use Rattle.vet_requests.proofs.head.parse_front.Goals as goal

pub unreachable-requires : goal.unreachable-requires
unreachable-requires c = has_room 8193 c.args.bytes.now (omega arith) (search rules)
