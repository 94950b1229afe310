use Rattle.std.proofs.Common.{◌∙◌, ap, map, subst, sym}
use Rattle.vet_base.specs.Keyed.{IsByKey}
use Rattle.vet_item_rows.specs.Gathered.{head_key, with_filed}
use Rattle.vet_item_rows.proofs.Gathering.{gathered_by_key, gathered_more}
use Rattle.vet_item_rows.proofs.read.gathered.gather.Goals as goal

pub file-requires : goal.file-requires
file-requires g c =
    let cmp = g.H.Key.Ord.cmp in
    let key = g.H.HasKey.key_of in
    subst (IsByKey cmp (head_key key)) (sym c.filed.invariant)
    (gathered_by_key cmp g.met.H.Key.Ord.total g.met.H.Key.Exact.only_equal key c.filed.yielded c.args.heads.items
    c.requires)

pub filed-preserved : goal.filed-preserved
filed-preserved g c =
    let cmp = g.H.Key.Ord.cmp in
    let key = g.H.HasKey.key_of in
    c.in_ok-file.ensures ∙ ap (map (with_filed cmp key c.in-Some.item)) c.filed.invariant
    ∙ gathered_more cmp g.met.H.Key.Ord.total g.met.H.Key.Exact.only_equal key c.filed.yielded c.in-Some.item
    c.args.heads.items
