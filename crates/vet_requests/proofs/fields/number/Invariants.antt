-- The number so far.
use Rattle.std.proofs.Common.{◌≡◌, ◌<◌, ◌^◌, take, true}
use Rattle.std.specs.List.{list_all}
use Rattle.std.specs.Char.{is_ascii_digit}
use Rattle.vet_requests.specs.Fields.{number_of}
use Rattle.vet_requests.proofs.fields.number.Given as goal

abbrev pub invariant-digits : goal.invariant-digits
invariant-digits l = record {
  total : l.total ≡ number_of (take l.byte-index l.text);
  short : l.total < 10 ^ l.byte-index;
  digits : list_all is_ascii_digit (take l.byte-index l.text) ≡ true;
}
