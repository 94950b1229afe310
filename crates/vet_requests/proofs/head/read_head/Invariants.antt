-- What was read so far stands behind the start, and was handed over behind what came before.
use Rattle.std.proofs.Common.{◌≡◌, ◌≤◌, ◌+◌, ◌-◌, drop, length}
use Rattle.vet_requests.specs.Input.{Hands, heard}
use Rattle.vet_requests.specs.declared.field_room.TheConstants.{FIELD_ROOM}
use Rattle.vet_requests.specs.declared.request_limits.TheConstants.{MOST_HEAD_BYTES}
use Rattle.vet_requests.proofs.head.read_head.Given as goal

abbrev pub invariant-reading : goal.invariant-reading
invariant-reading g l = record {
  start : l.start ≤ length l.reader.handed;
  short : length l.reader.handed ≤ l.start + (MOST_HEAD_BYTES + 1);
  room : length l.fields ≡ FIELD_ROOM;
  read : Hands (heard g.R.Read.remaining l.initial.reader) (heard g.R.Read.remaining l.reader)
      (drop l.start l.reader.handed);
}

abbrev pub decreases-reading : goal.decreases-reading
decreases-reading g l = l.start + (MOST_HEAD_BYTES + 1) - length l.reader.handed
