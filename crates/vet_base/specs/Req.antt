-- The texts that are version requirements (the Cargo Book: version requirements), and the versions they match.
use Rattle.std.specs.Prelude.{◌≡◌, nat_lt, Bool, false, List, length, map, Option, Some, None, if◌then◌else◌}
use Rattle.std.specs.Prelude.{option_map, Result, Ok, Err}
use Rattle.std.specs.Result.{result_ok}
use Rattle.vet_base.specs.declared.limits.TheConstants.{MOST_REQ_BYTES}
use Rattle.semver.specs.declared.VersionReq.{VersionReq}
use Rattle.semver.specs.declared.error.Error.{Error}
use Rattle.semver.specs.EvalViews.{matches_views}
use Rattle.semver.specs.Identifiers.{comparator_view}
use Rattle.semver.specs.Parse.{Held, Parts, req_of}
use Rattle.vet_base.specs.Words.{Text}

-- the requirement that a text is read as, if it is one: the text itself
abbrev pub read_req : Text → Option Text
read_req text =
    if nat_lt MOST_REQ_BYTES (length text) then None
    else option_map (λ comparators. text) (result_ok (req_of text))

-- the text is a requirement
abbrev pub IsReq : Text → Type 0
IsReq text = read_req text ≡ Some text

-- whether the comparators read from a text match V
abbrev pub read_matches : Result (List Held) Error → Parts → Bool
read_matches (Ok comparators) v = matches_views comparators v
read_matches (Err e) v = false

-- whether a requirement matches V, whatever the revision of the version
abbrev pub req_matches : Text → Parts → Bool
req_matches text v = read_matches (req_of text) v

-- the comparators that the code holds
abbrev pub comparators_of : VersionReq → List Held
comparators_of req = map comparator_view req.comparators.items

-- the comparators that the code holds are those of the text
abbrev pub IsReadAs : Text → VersionReq → Type 0
IsReadAs text req = req_of text ≡ Ok (comparators_of req)
