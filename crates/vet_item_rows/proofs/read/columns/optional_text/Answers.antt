use Rattle.std.proofs.Common.{◌<◌, ◌^◌, ◌∙◌, Global, List, Vec, ap, arith, length, option_map, refl, sym}
use Rattle.std.proofs.lemmas.Option.{same_Some}
use Rattle.vet_base.specs.Words.{Text}
use Rattle.vet_item_rows.specs.ReadBack.{in_list}
use Rattle.vet_item_rows.proofs.ColumnsRead.{option_back}
use Rattle.vet_item_rows.proofs.Reading.{none_found, some_found}
use Rattle.vet_item_rows.proofs.read.columns.optional_text.Goals as goal

abbrev texts_in : Vec Text Global → List Text
texts_in v = v.items

pub returns-in_err-texts : goal.returns-in_err-texts
returns-in_err-texts c text (can, is) =
    let fits : length c.args.bytes.now < 2 ^ 63 = omega arith in
    let back = option_back text can c.args.bytes.now fits is _ c.in_ok-unpack.ensures in
    let none = none_found c.in_ok-unpack.field-0 c.in_err-texts.field-0.0 c.in_err-texts.ensures in
    cc (sym (ap (option_map texts_in) none) ∙ back)

pub returns : goal.returns
returns c text (can, is) =
    let fits : length c.args.bytes.now < 2 ^ 63 = omega arith in
    let back = option_back text can c.args.bytes.now fits is _ c.in_ok-unpack.ensures in
    let some = some_found c.in_ok-unpack.field-0 c.in_ok-texts.texts c.in_ok-texts.ensures in
    rw (c.at_most_one.ensures text (same_Some c.in_ok-texts.texts.items (in_list text)
    (sym (ap (option_map texts_in) some) ∙ back))) refl
