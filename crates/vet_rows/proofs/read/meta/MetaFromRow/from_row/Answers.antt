use Rattle.std.proofs.Common.{◌≡◌, refl}
use Rattle.vet_item_rows.proofs.Reading.{passed_on}
use Rattle.vet_rows.proofs.read.meta.MetaFromRow.from_row.Goals as goal

pub returns-in_err-check_key : goal.returns-in_err-check_key
returns-in_err-check_key c m (can, is) =
    cc (c.in_err-check_key.ensures m is)

pub returns-in_err-tables_version : goal.returns-in_err-tables_version
returns-in_err-tables_version c m (can, is) =
    cc (c.in_err-tables_version.ensures m is)

pub returns-in_err-numbers : goal.returns-in_err-numbers
returns-in_err-numbers c m (can, is) =
    cc (c.in_err-numbers.ensures m is)

pub returns-in_err-first_counts : goal.returns-in_err-first_counts
returns-in_err-first_counts c m (can, is) =
    cc (c.in_err-first_counts.ensures m is)

pub returns-in_err-settings : goal.returns-in_err-settings
returns-in_err-settings c m (can, is) =
    rw (passed_on c.from_residual-in_err-settings.result c.in_err-settings.field-0.0
    c.from_residual-in_err-settings.ensures.1 (c.in_err-settings.ensures m can is)) refl

pub returns : goal.returns
returns c m (can, is) =
    let version : c.in_ok-tables_version.field-0 ≡ m.version = cc (c.in_ok-tables_version.ensures m is) in
    let numbers : c.in_ok-numbers.field-0 ≡ m.numbers = cc (c.in_ok-numbers.ensures m is) in
    let first : c.in_ok-first_counts.field-0 ≡ m.first = cc (c.in_ok-first_counts.ensures m is) in
    let settings = c.in_ok-settings.ensures m can is in
    λ i. record { version = version i; numbers = numbers i; first = first i; settings = settings i }
