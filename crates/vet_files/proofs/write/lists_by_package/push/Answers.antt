use Rattle.std.proofs.Common.{◌∙◌, ap, Some}
use Rattle.toml.proofs.Views.{items_view-push, view-Array}
use Rattle.toml.specs.Data.{array, push_item}
use Rattle.toml.specs.View.{items_view, view}
use Rattle.vet_files.specs.ListAt.{items_in}
use Rattle.vet_files.proofs.write.lists_by_package.push.Goals as goal

pub returns : goal.returns
returns c =
    let items = c.array_of-items.result.items in
    let taken = c.array_of-items.ensures ∙ ap (λ v. items_in (Some (view v))) c.replace.ensures.value in
    view-Array c.push.new.self ∙ ap array (ap items_view c.in_ok-push.ensures.items ∙ items_view-push items c.args.value
    ∙ ap (λ ds. push_item ds (view c.args.value)) taken)
