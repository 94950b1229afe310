use Rattle.std.proofs.Common.{sym, ◌∙◌, inl, inr}
use Rattle.vet_base.specs.Version.{read_version}
use Rattle.vet_base.proofs.DeltaLemmas.{lacks_one, none_told}
use Rattle.vet_base.proofs.delta.Delta.read.Goals as goal

pub returns-in_default-read-clause-ok : goal.returns-in_default-read-clause-ok
returns-in_default-read-clause-ok c =
    let ends = rw c.in-Some.is at c.ends_of.ensures in
    rw (← ends) (none_told c.without_memory.result (read_version c.in-Some.from.now) (read_version c.in-Some.to.now)
    c.without_memory.ensures.ok)

pub returns-in_default-read-clause-no_delta : goal.returns-in_default-read-clause-no_delta
returns-in_default-read-clause-no_delta c none =
    let ends = rw c.in-Some.is at c.ends_of.ensures in
    elim (lacks_one (read_version c.in-Some.from.now) (read_version c.in-Some.to.now) (rw (← ends) at none)) [
      | inl from ↦ cc (c.in_default-read.ensures.no_version from)
      | inr to ↦ c.without_memory.ensures.no_version to
    ]

pub returns-in_err-to-clause-no_delta : goal.returns-in_err-to-clause-no_delta
returns-in_err-to-clause-no_delta c none =
    let ends = rw c.in-Some.is at c.ends_of.ensures in
    elim (lacks_one (read_version c.in-Some.from.now) (read_version c.in-Some.to.now) (rw (← ends) at none)) [
      | inl from ↦ cc (sym c.in-Some-from.is ∙ c.in-Ok.ensures.ok ∙ from)
      | inr to ↦ cc (c.in_err-to.ensures.no_version to)
    ]
