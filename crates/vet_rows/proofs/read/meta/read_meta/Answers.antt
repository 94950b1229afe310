use Rattle.std.proofs.Common.{◌≡◌, ◌∙◌, ap, inl, refl, sym, ⊎_elim}
use Rattle.std.specs.Option.{option_copied}
use Rattle.vet_item_rows.proofs.Reading.{none_found, some_found}
use Rattle.vet_rows.specs.MetaRow.{row_of_meta}
use Rattle.vet_rows.proofs.FirstRead.{first_in, none_in}
use Rattle.vet_rows.proofs.read.meta.read_meta.Goals as goal

pub returns-in_err-found : goal.returns-in_err-found
returns-in_err-found c m is same =
    let none = none_found c.first.result c.in_err-found.field-0.0 c.in_err-found.ensures in
    absurd (none_in c.args.rows.now (sym c.first.ensures.value ∙ ap option_copied none) (row_of_meta m)
    (same.1 (row_of_meta m) (inl refl)))

pub returns : goal.returns
returns c m is same =
    let some = some_found c.first.result c.in_ok-found.field-0 c.in_ok-found.ensures in
    let among = first_in c.args.rows.now c.in_ok-found.field-0.now (sym c.first.ensures.value ∙ ap option_copied some)
    in
    let row : c.in_ok-found.field-0.now ≡ row_of_meta m = ⊎_elim (λ e. e) (λ none. absurd none)
    (same.0 c.in_ok-found.field-0.now among) in
    c.from_row.ensures m (is, row)
