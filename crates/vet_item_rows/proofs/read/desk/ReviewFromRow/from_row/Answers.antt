use Rattle.std.proofs.Common.{◌≡◌, rules}
use Rattle.vet_item_rows.proofs.read.desk.ReviewFromRow.from_row.Goals as goal

pub returns : goal.returns
returns c x stands =
    let number : c.in_ok-number.number ≡ x.number = search rules in
    let of_package : c.in_ok-package_name.field-0 ≡ x.«package» = search rules in
    let of_version : c.in_ok-version.field-0 ≡ x.version = search rules in
    let criteria : c.in_ok-names.field-0 ≡ x.criteria = search rules in
    let day : c.in_ok-day.day ≡ x.day = search rules in
    let state : c.in_ok-review_state.field-0 ≡ x.state = search rules in
    λ i. record {
      number = number i;
      «package» = of_package i;
      version = of_version i;
      criteria = criteria i;
      day = day i;
      state = state i;
    }
