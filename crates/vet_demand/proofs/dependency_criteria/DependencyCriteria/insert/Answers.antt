use Rattle.std.proofs.Common.{is_some, sym, ap, ◌∙◌}
use Rattle.std.specs.Ordering.{nat_cmp}
use Rattle.std.specs.Cmp.Lexicographic.{slice_cmp}
use Rattle.vet_base.specs.Keyed.{item_of}
use Rattle.vet_base.proofs.ListLemmas.{is_some-option_map}
use Rattle.vet_demand.specs.DependencyCriteria.{item_name}
use Rattle.vet_demand.proofs.dependency_criteria.DependencyCriteria.insert.Goals as goal

pub returns-clause-held : goal.returns-clause-held
returns-clause-held c held =
    c.insert.ensures.held (ap (λ items. is_some (item_of (slice_cmp nat_cmp) item_name items c.args.name))
    c.self.view_is ∙ sym (is_some-option_map (λ i. i.criteria) _) ∙ held)
