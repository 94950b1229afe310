use Rattle.std.proofs.Common.{◌<◌, ◌^◌, ◌∙◌, ◌++◌, length, sym, refl, arith}
use Rattle.std.specs.Fmt.{decimal}
use Rattle.vet_item_rows.proofs.Packing.{left_is, in_front, item_is_short, numeral, taken_is, written_once}
use Rattle.vet_item_rows.proofs.packed.first_item.Goals as goal

pub returns-in_err-count-clause-none : goal.returns-in_err-count-clause-none
returns-in_err-count-clause-none c _ item rest is =
    let found = c.digits_in_front-end.ensures in
    let short = item_is_short c.args.bytes.now item rest is in
    let fits : length item < 2 ^ 63 = omega (arith, short) in
    let taken = taken_is c.args.bytes.now (decimal (length item)) (item ++ rest) c.digits_in_front-end.result
    (in_front c.args.bytes.now item rest is) (numeral (length item) (omega (arith, fits)))
    found.within found.all found.end in
    c.in_err-count.ensures.none refl (length item) fits (sym taken)

pub returns-clause-none : goal.returns-clause-none
returns-clause-none c none item rest is =
    let found = c.digits_in_front-end.ensures in
    let short = item_is_short c.args.bytes.now item rest is in
    let fits : length item < 2 ^ 63 = omega (arith, short) in
    let front = in_front c.args.bytes.now item rest is in
    let all = numeral (length item) (omega (arith, fits)) in
    let taken = taken_is c.args.bytes.now (decimal (length item)) (item ++ rest) c.digits_in_front-end.result
    front all found.within found.all found.end in
    let left = left_is c.args.bytes.now (decimal (length item)) (item ++ rest) c.digits_in_front-end.result
    front all found.within found.all found.end in
    let count = written_once (length item) c.in_ok-count.count (omega (arith, fits)) (omega arith)
    (sym taken ∙ sym c.in_ok-count.ensures.some) in
    c.item_behind.ensures.none none item rest count left
