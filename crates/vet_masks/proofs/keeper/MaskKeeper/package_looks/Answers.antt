use Rattle.std.proofs.Common.{◌+◌, ◌*◌, ◌≤◌, IfSome, length, sym, ap, subst, ◌∙◌, arith}
use Rattle.vet_base.specs.declared.limits.TheConstants.{MOST_CRITERIA as most}
use Rattle.std.specs.Option.{option_copied}
use Rattle.vet_entries.specs.Step.{steps_of}
use Rattle.vet_graph.specs.StandingOf.{condemned_of}
use Rattle.vet_masks.specs.declared.kept.KeptPackage.{KeptPackage}
use Rattle.vet_masks.specs.Packages.{IsKeptOf}
use Rattle.vet_masks.specs.Reached.{used_below}
use Rattle.vet_masks.proofs.Spending.{looks-few}
use Rattle.vet_masks.proofs.keeper.MaskKeeper.package_looks.Goals as goal

pub returns-in-Some-clause-bound : goal.returns-in-Some-clause-bound
returns-in-Some-clause-bound c facts demand h =
    let name = c.args.«package».now in
    let k = c.in-Some.kept.now in
    let steps = steps_of facts name in
    let is = sym (sym (ap option_copied c.in-Some.is) ∙ c.of.ensures) in
    let own : IsKeptOf facts name k = subst (λ o. IfSome o (IsKeptOf facts name)) is (h.kept name) in
    subst (λ o. IfSome o (λ (j : KeptPackage). c.count.result ≤ (j.classes.exempt.count + 3)
    * (length steps * (used_below most steps + 1)))) (sym is)
    (omega (arith, c.count.ensures, looks-few steps (condemned_of facts name) k.classes own.classes))
