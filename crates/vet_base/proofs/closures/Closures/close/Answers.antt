use Rattle.std.proofs.Common.{ap, sym, ◌∙◌}
use Rattle.std.specs.FinMap as map
use Rattle.vet_base.specs.CriteriaSet.{has}
use Rattle.vet_base.proofs.Closed.{lone_in, reach_joined}
use Rattle.vet_base.proofs.closures.Closures.close.Goals as goal

pub returns : goal.returns
returns c = record {
  closure = λ table names are set. reach_joined table (map.entries table) names (lone_in table 0) c.joined.result
      (λ q. (
        λ h. (let at = (c.joined.ensures q).0 h in
            (at.0, ap (has at.0) (sym set) ∙ at.1, ap (has q) (sym (are at.0)) ∙ at.2)),
        λ h. (c.joined.ensures q).1 (h.0, ap (has h.0) set ∙ h.1, ap (has q) (are h.0) ∙ h.2),
      ));
}
