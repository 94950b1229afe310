use Rattle.std.proofs.Common.{◌≡◌, rules}
use Rattle.vet_item_rows.proofs.read.publishers.publisher.Goals as goal

pub returns-in_err-day : goal.returns-in_err-day
returns-in_err-day c f stands = cc (c.in_err-day.ensures.read f.item.day (search rules) (search rules))

pub returns : goal.returns
returns c f stands =
    let of_version : c.in_ok-version.field-0 ≡ f.item.version = search rules in
    let of_user : c.in_ok-user.user ≡ f.item.user = search rules in
    let of_day : c.in_ok-day.day ≡ f.item.day = search rules in
    let login : c.in_ok-optional_text.field-0 ≡ f.item.login = search rules in
    let name : c.in_ok-optional_text-2.field-0 ≡ f.item.name = search rules in
    λ i. record { version = of_version i; user = of_user i; day = of_day i; login = login i; name = name i }
