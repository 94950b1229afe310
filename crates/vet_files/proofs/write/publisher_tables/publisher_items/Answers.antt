use Rattle.std.proofs.Common.{◌≡◌, ◌+◌, ◌++◌, ◌∷◌, [], take, ap, sym, ◌∙◌}
use Rattle.std.proofs.lemmas.List.{take_more}
use Rattle.std.proofs.lemmas.List.Elements.{All-nil, All-cons, All-append}
use Rattle.toml.proofs.Views.{items_view-push, view-Table}
use Rattle.toml.specs.Data.{table}
use Rattle.toml.specs.View.{view}
use Rattle.toml.specs.declared.value.Value.TheVariants.{Table}
use Rattle.vet_files.specs.ImportsTable.{publisher_table}
use Rattle.vet_files.specs.ReadAgain.{ReadsPublisher}
use Rattle.vet_files.proofs.PublishersRead.{publisher_items-push}
use Rattle.vet_files.proofs.write.publisher_tables.publisher_items.Goals as goal

pub records-preserved : goal.records-preserved
records-preserved c =
    let records = c.args.records.now in
    let i = c.records.publisher-index in
    let p = c.publisher-item.result in
    let more : take (i + 1) records ≡ take i records ++ p ∷ [] =
    take_more records i p c.records-test.true ∙ ap (λ last. take i records ++ last ∷ []) (sym c.publisher-item.is) in
    let written = c.in_ok-publisher_table.field-0 in
    let one : view (Table written) ≡ table (publisher_table p) = view-Table written
    ∙ ap table c.in_ok-publisher_table.ensures.table in
    record {
      items = rw (more, c.in_ok-push.ensures.items, items_view-push, one, c.records.invariant.items)
          (publisher_items-push (take i records) p);
      read = rw more (All-append ReadsPublisher (take i records) (p ∷ []) c.records.invariant.read
          (All-cons ReadsPublisher p [] c.in_ok-publisher_table.ensures.read (All-nil ReadsPublisher)));
    }
