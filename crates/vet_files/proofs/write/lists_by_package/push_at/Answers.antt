use Rattle.std.proofs.Common.{◌∙◌, ap, sym, refl}
use Rattle.std.proofs.lemmas.Result.{on_ok_weaker}
use Rattle.toml.specs.View.{members_view, table_view, view}
use Rattle.toml.specs.declared.value.Value.{Array}
use Rattle.vet_files.specs.Tables.{put_member}
use Rattle.vet_files.proofs.ByName.{list_begun, list_pushed}
use Rattle.vet_files.proofs.write.lists_by_package.push_at.Goals as goal

pub returns-in-Some : goal.returns-in-Some
returns-in-Some c =
    let new = c.push.new.list in
    let found = sym c.get_mut.ensures.value ∙ rw (c.in-Some.is) refl in
    on_ok_weaker c.push.result
    (λ is. ap members_view (c.get_mut.follows.holds new).0 ∙ list_pushed c.args.table.now.entries c.args.key.now
    c.in-Some.list.now new (view c.args.value) c.get_mut.ensures.ordered found is)
    c.push.ensures

pub returns : goal.returns
returns c =
    let none = sym c.get_mut.ensures.value ∙ rw (c.in_default.is) refl in
    let one = rw (c.new-items.ensures.items) at c.in_ok-push.ensures.items in
    on_ok_weaker c.put_value.result
    (λ put. put ∙ ap (λ t. put_member c.args.key.now (view (Array c.push-2.new.self)) (table_view t))
    c.get_mut.follows.holds-at-none
    ∙ list_begun c.args.table.now.entries c.args.key.now c.push-2.new.self c.args.value none one)
    c.put_value.ensures
