-- The listed ones of the first entries stand in the table, and each is read again.
use Rattle.std.proofs.Common.{◌≡◌, All, take}
use Rattle.toml.specs.View.{table_view}
use Rattle.vet_files.specs.EntryTables.{listed_entries, package_lists}
use Rattle.vet_files.specs.ReadAgain.{ReadsEntry}
use Rattle.vet_files.proofs.write.lists_by_package.package_lists.Given as goal

abbrev pub invariant-entries : goal.invariant-entries
invariant-entries l =
    let listed = listed_entries l.which l.exclude (take l.entry-index l.entries) in
    (table_view l.table ≡ package_lists listed) × All ReadsEntry listed
