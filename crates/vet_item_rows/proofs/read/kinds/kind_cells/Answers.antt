use Rattle.std.proofs.Common.{Ok, rules}
use Rattle.vet_item_rows.specs.EntryRows.{unused, with_kind}
use Rattle.vet_item_rows.proofs.CellsRead.{column, place}
use Rattle.vet_item_rows.proofs.read.kinds.kind_cells.Goals as goal

pub returns-in_err-int_at : goal.returns-in_err-int_at
returns-in_err-int_at c held is =
    cc (c.in_err-int_at.ensures (with_kind held.entry.kind unused).kind (place 3 is))

pub returns-in_err-text_at : goal.returns-in_err-text_at
returns-in_err-text_at c held is =
    absurd (c.in_err-text_at.ensures (with_kind held.entry.kind unused).a (place 4 is))

pub returns-in_err-text_at-2 : goal.returns-in_err-text_at-2
returns-in_err-text_at-2 c held is =
    absurd (c.in_err-text_at-2.ensures (with_kind held.entry.kind unused).b (place 5 is))

pub returns-in_err-int_at-2 : goal.returns-in_err-int_at-2
returns-in_err-int_at-2 c held is =
    cc (c.in_err-int_at-2.ensures (with_kind held.entry.kind unused).user (place 6 is))

pub returns-in_err-int_at-3 : goal.returns-in_err-int_at-3
returns-in_err-int_at-3 c held is =
    cc (c.in_err-int_at-3.ensures (with_kind held.entry.kind unused).day1 (place 7 is))

pub returns-in_err-int_at-4 : goal.returns-in_err-int_at-4
returns-in_err-int_at-4 c held is =
    cc (c.in_err-int_at-4.ensures (with_kind held.entry.kind unused).day2 (place 8 is))

pub returns-in_err-blob_at : goal.returns-in_err-blob_at
returns-in_err-blob_at c held is =
    absurd (c.in_err-blob_at.ensures (with_kind held.entry.kind unused).who (place 10 is))

pub returns-in_err-int_at-5 : goal.returns-in_err-int_at-5
returns-in_err-int_at-5 c held is =
    cc (c.in_err-int_at-5.ensures (with_kind held.entry.kind unused).suggest (place 12 is))

pub returns-in_err-int_at-6 : goal.returns-in_err-int_at-6
returns-in_err-int_at-6 c held is =
    cc (c.in_err-int_at-6.ensures (with_kind held.entry.kind unused).renew (place 13 is))

pub returns-in_err-int_at-7 : goal.returns-in_err-int_at-7
returns-in_err-int_at-7 c held is =
    cc (c.in_err-int_at-7.ensures (with_kind held.entry.kind unused).importable (place 14 is))

pub returns : goal.returns
returns c held is =
    let int3 = column c.in_ok-int_at.field-0 (with_kind held.entry.kind unused).kind (search rules)
    (c.in_ok-int_at.ensures (with_kind held.entry.kind unused).kind (place 3 is)) in
    let text4 = c.in_ok-text_at.ensures (with_kind held.entry.kind unused).a (place 4 is) in
    let text5 = c.in_ok-text_at-2.ensures (with_kind held.entry.kind unused).b (place 5 is) in
    let int6 = column c.in_ok-int_at-2.field-0 (with_kind held.entry.kind unused).user (search rules)
    (c.in_ok-int_at-2.ensures (with_kind held.entry.kind unused).user (place 6 is)) in
    let int7 = column c.in_ok-int_at-3.field-0 (with_kind held.entry.kind unused).day1 (search rules)
    (c.in_ok-int_at-3.ensures (with_kind held.entry.kind unused).day1 (place 7 is)) in
    let int8 = column c.in_ok-int_at-4.field-0 (with_kind held.entry.kind unused).day2 (search rules)
    (c.in_ok-int_at-4.ensures (with_kind held.entry.kind unused).day2 (place 8 is)) in
    let blob10 = c.in_ok-blob_at.ensures (with_kind held.entry.kind unused).who (place 10 is) in
    let int12 = column c.in_ok-int_at-5.field-0 (with_kind held.entry.kind unused).suggest (search rules)
    (c.in_ok-int_at-5.ensures (with_kind held.entry.kind unused).suggest (place 12 is)) in
    let int13 = column c.in_ok-int_at-6.field-0 (with_kind held.entry.kind unused).renew (search rules)
    (c.in_ok-int_at-6.ensures (with_kind held.entry.kind unused).renew (place 13 is)) in
    let int14 = column c.in_ok-int_at-7.field-0 (with_kind held.entry.kind unused).importable (search rules)
    (c.in_ok-int_at-7.ensures (with_kind held.entry.kind unused).importable (place 14 is)) in
    λ i. Ok (record {
      kind = int3 i;
      a = text4 i;
      b = text5 i;
      user = int6 i;
      day1 = int7 i;
      day2 = int8 i;
      who = blob10
          i;
      suggest = int12 i;
      renew = int13 i;
      importable = int14 i;
    })
