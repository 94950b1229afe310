use Rattle.std.proofs.Common.{◌∙◌, ap, [], Some}
use Rattle.std.specs.FinMap as map
use Rattle.std.proofs.lemmas.Option.{slice_get-get_or, slice_get_within, get_or_from_slice_get}
use Rattle.vet_base.proofs.Tables.{place_at, at_place}
use Rattle.vet_base.proofs.criteria_table.places_are_of_names.Goals as goal

pub returns : goal.returns
returns c table n p = (
  λ h. (let a = at_place table n p h in slice_get-get_or (map.keys table) p [] a.0 ∙ ap Some a.1),
  λ h. place_at table n p (slice_get_within (map.keys table) p n h) (get_or_from_slice_get (map.keys table) p n [] h),
)
