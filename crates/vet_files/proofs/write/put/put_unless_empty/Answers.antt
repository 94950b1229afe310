use Rattle.std.proofs.Common.{◌∙◌, ap, sym, Some}
use Rattle.std.proofs.lemmas.Bool.{false≢true}
use Rattle.toml.proofs.Views.{view-Table}
use Rattle.toml.specs.Data.{Data}
use Rattle.vet_files.proofs.Putting.{kept}
use Rattle.vet_files.proofs.write.put.put_unless_empty.Goals as goal

pub returns : goal.returns
returns c =
    let same = ap (λ (d : Data). Some d) (view-Table c.args.inner)
    ∙ kept c.args.inner.entries (λ none. false≢true (sym c.if-is_empty.false ∙ c.is_empty.ensures.1 none)) in
    rw (← same) c.put_value.ensures
