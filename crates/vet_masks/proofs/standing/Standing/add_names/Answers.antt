use Rattle.std.proofs.Common.{◌≡◌, ◌++◌, OnOk, map, sym, ap, subst, ◌∙◌}
use Rattle.vet_masks.specs.Standings.{PackageStands}
use Rattle.vet_masks.proofs.Standings.{packages-in}
use Rattle.vet_masks.proofs.standing.Standing.add_names.Goals as goal

pub returns-clause-names : goal.returns-clause-names
returns-clause-names c =
    let is = sym (packages-in c.self.inside.packages.entries)
    ∙ ap (map (λ (p : PackageStands). p.«package»)) c.self.view_is in
    subst (λ l. OnOk c.add_keys.result (c.add_keys.new.names.items ≡ c.args.names.now.items ++ l)) is
    c.add_keys.ensures.names
