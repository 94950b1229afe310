use Rattle.std.proofs.Common.{ap, ◌∙◌}
use Rattle.std.specs.FinMap as map
use Rattle.vet_base.specs.Definitions.{by_name}
use Rattle.vet_base.proofs.Rising.{R}
use Rattle.vet_base.proofs.BuiltIn.{built_in_is_kept, is_built_in}
use Rattle.vet_base.proofs.definitions.Definitions.new.Goals as goal

pub invariant_of-result : goal.invariant_of-result
invariant_of-result c = rw (c.in_ok-list_names.ensures.ok, c.in_ok-list_built_in.ensures.ok) built_in_is_kept

pub returns-clause-ok : goal.returns-clause-ok
returns-clause-ok c = ap (λ cs. map.from_sorted {R = R} (by_name cs)) c.in_ok-list_built_in.ensures.ok ∙ is_built_in
