use Rattle.std.proofs.lemmas.Result.{err_from_is_err_and}
use Rattle.toml.specs.View.{array_view}
use Rattle.vet_files.specs.Field.{a_package}
use Rattle.vet_files.proofs.Gathered.{as_set, items-seen}
use Rattle.vet_files.proofs.Walks.{given-seen, refused-seen}
use Rattle.vet_files.proofs.field.sets.PackageNamesField.read.Goals as goal

pub returns-in_err-names : goal.returns-in_err-names
returns-in_err-names c =
    let passed = err_from_is_err_and c.from_residual.result c.from_residual.ensures.1 in
    rw (passed.1, passed.2, ← c.in-Some.ensures)
    (refused-seen as_set _ _ _ (items-seen (a_package c.args.path.now c.args.key.now) (array_view c.in-Some.items.now))
    c.in_err-names.ensures)

pub returns : goal.returns
returns c =
    rw (← c.in-Some.ensures)
    (given-seen as_set _ _ _ _
    (items-seen (a_package c.args.path.now c.args.key.now) (array_view c.in-Some.items.now)) c.in_ok-names.ensures
    c.in_ok-of.ensures)
