use Rattle.std.proofs.Common.{rules}
use Rattle.std.proofs.lemmas.Fn.{always_returns_same}
use Rattle.vet_base.proofs.KeyedLemmas.{place_found}
use Rattle.vet_item_rows.specs.Gathered.{Gathered, head_key}
use Rattle.vet_item_rows.proofs.read.gathered.place_of.Goals as goal

pub returns : goal.returns
returns g c =
    let cmp = g.H.Key.Ord.cmp in
    let key = c.args.key.now in
    let e = c.binary_search_by.ensures in
    let at = e.position (λ (group : Gathered g.row.H.Denot g.row.T.Denot). cmp (g.H.HasKey.key_of group.head) key)
    (always_returns_same _ _ _ (λ a r f k. search rules)) in
    place_found cmp g.met.H.Key.Ord.total g.met.H.Key.Exact.only_equal (head_key g.H.HasKey.key_of) c.args.groups.now
    key c.binary_search_by.result c.requires e.bound at
