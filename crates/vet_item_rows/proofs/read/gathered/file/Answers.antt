use Rattle.std.proofs.Common.{◌≡◌, ◌∙◌, Err, Ok, ap, get_or, set, subst, sym}
use Rattle.std.proofs.lemmas.List.{get_or_default}
use Rattle.std.proofs.lemmas.Result.{on_ok_weaker}
use Rattle.vet_base.specs.Keyed.{IsPlace}
use Rattle.vet_item_rows.specs.Gathered.{Gathered, head_key}
use Rattle.vet_item_rows.proofs.Gathering.{filed_at, filed_nowhere}
use Rattle.vet_item_rows.proofs.read.gathered.file.Goals as goal

pub returns-in_default : goal.returns-in_default
returns-in_default g c =
    let place = subst (λ xs. IsPlace g.H.Key.Ord.cmp (head_key g.H.HasKey.key_of) xs c.args.filed.key
    (Err c.in_default.field-0))
    c.as_slice.ensures.value c.in_default.ensures in
    filed_nowhere g.H.Key.Ord.cmp g.met.H.Key.Ord.total g.met.H.Key.Exact.only_equal g.H.HasKey.key_of c.args.filed
    c.args.groups.now.items c.in_default.field-0 place

pub returns : goal.returns
returns g c =
    let groups = c.args.groups.now.items in
    let group = c.index_mut-group.result.now in
    let place = subst (λ xs. IsPlace g.H.Key.Ord.cmp (head_key g.H.HasKey.key_of) xs c.args.filed.key
    (Ok c.in-Ok.place))
    c.as_slice.ensures.value c.in-Ok.ensures in
    let at : (d : Gathered g.row.H.Denot g.row.T.Denot) → get_or groups c.in-Ok.place d ≡ group =
    λ d. get_or_default groups c.in-Ok.place d group place.0 ∙ sym c.index_mut-group.ensures.value in
    let same = ap (head_key g.H.HasKey.key_of) (sym (at group)) ∙ place.1 group in
    on_ok_weaker c.push.result
    (λ pushed. ap (set groups c.in-Ok.place) pushed
    ∙ filed_at g.H.Key.Ord.cmp g.met.H.Key.Ord.total g.met.H.Key.Exact.only_equal g.H.HasKey.key_of c.args.filed groups
    c.in-Ok.place group c.requires place.0 at same) c.push.ensures
