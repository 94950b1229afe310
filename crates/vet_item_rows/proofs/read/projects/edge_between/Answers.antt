use Rattle.std.proofs.Common.{◌≡◌, ◌∙◌, Ok, ap, sym}
use Rattle.std.proofs.lemmas.Option.{same_Some}
use Rattle.vet_item_rows.specs.declared.read.projects.EdgeEnds.{EdgeEnds}
use Rattle.vet_item_rows.proofs.Reading.{none_found, some_found}
use Rattle.vet_item_rows.proofs.read.projects.edge_between.Goals as goal

pub returns-in_err-found : goal.returns-in_err-found
returns-in_err-found c e up (within, ends) =
    let from = c.place_of.ensures up e.from within.0 (ap (λ (x : EdgeEnds). x.from) ends) in
    cc (sym (none_found c.place_of.result c.in_err-found.field-0.0 c.in_err-found.ensures) ∙ from)

pub returns-in_err-found-2 : goal.returns-in_err-found-2
returns-in_err-found-2 c e up (within, ends) =
    let to = c.place_of-2.ensures up e.to within.1 (ap (λ (x : EdgeEnds). x.to) ends) in
    cc (sym (none_found c.place_of-2.result c.in_err-found-2.field-0.0 c.in_err-found-2.ensures) ∙ to)

pub returns : goal.returns
returns c e up (within, ends) =
    let from : c.in_ok-found.field-0 ≡ e.from = same_Some c.in_ok-found.field-0 e.from
    (sym (some_found c.place_of.result c.in_ok-found.field-0 c.in_ok-found.ensures)
    ∙ c.place_of.ensures up e.from within.0 (ap (λ (x : EdgeEnds). x.from) ends)) in
    let to : c.in_ok-found-2.field-0 ≡ e.to = same_Some c.in_ok-found-2.field-0 e.to
    (sym (some_found c.place_of-2.result c.in_ok-found-2.field-0 c.in_ok-found-2.ensures)
    ∙ c.place_of-2.ensures up e.to within.1 (ap (λ (x : EdgeEnds). x.to) ends)) in
    let kind = ap (λ (x : EdgeEnds). x.kind) ends in
    λ i. Ok (record { from = from i; to = to i; kind = kind i })
