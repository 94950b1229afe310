use Rattle.std.proofs.Common.{◌≡◌, ap, sym, ◌∙◌, take, [], ◌∷◌, ◌++◌, ◌+◌}
use Rattle.std.specs.FinSet as set
use Rattle.std.proofs.lemmas.Cmp.{nat_list_cmp_total}
use Rattle.std.proofs.lemmas.List.{take_more}
use Rattle.vet_base.specs.Criteria.{placed}
use Rattle.vet_base.proofs.Rising.{R, only_equal}
use Rattle.vet_base.proofs.Tables.{placed-empty, placed-insert_held, placed-insert_missing}
use Rattle.vet_base.proofs.definitions.Definitions.places.Goals as goal
use Rattle.vet_base.proofs.definitions.Definitions.places.Goals.{in-Some, in_default}

pub loop-name-init : goal.loop-name-init
loop-name-init c = c.empty-places.ensures ∙ sym (placed-empty c.args.self.now)

pub loop-name-preserved : goal.loop-name-preserved
loop-name-preserved c =
    let table = c.args.self.now in
    let i = c.loop-name.name-index in
    let x = c.name-item.result in
    let before = set.from_list {R = R} (take i c.args.names.now) in
    let more = take_more c.args.names.now i x c.loop-name-test.true in
    let after : set.from_list {R = R} (take (i + 1) c.args.names.now) ≡ set.insert before x =
    ap set.from_list (more ∙ ap (λ y. take i c.args.names.now ++ y ∷ []) (sym c.name-item.is))
    ∙ set.from_list_push nat_list_cmp_total only_equal (take i c.args.names.now) x in
    let here : c.match-place.places ≡ placed table (set.insert before x) = elim c.match-place.branch [
      | in-Some w ↦ w.places-is ∙ w.with-places.ensures ∙ ap (λ s. set.insert s w.in-Some.place) c.loop-name.invariant
          ∙ sym (placed-insert_held table before x w.in-Some.place (sym c.place.ensures.value ∙ w.in-Some.is))
      | in_default w ↦ w.places-is ∙ c.loop-name.invariant
          ∙ sym (placed-insert_missing table before x (sym c.place.ensures.value ∙ w.in_default.is))
    ] in
    rw after here
