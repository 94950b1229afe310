-- What the router finds of a text is what the table of paths says.
use Rattle.std.proofs.Common.{◌∙◌, ◌<◌, subst, sym}
use Rattle.std.proofs.lemmas.List.{get_or_default}
use Rattle.vet_requests.proofs.Routed.{routed}
use Rattle.vet_requests.proofs.route.Routes.find.Goals as goal

pub returns : goal.returns
returns c =
    c.routed.ensures
    ∙ routed c.args.target.now (λ k d within.
    subst (λ b. b < 256) (sym (get_or_default c.args.target.now k d 0 within)) (c.type_inv.target k).fits)
