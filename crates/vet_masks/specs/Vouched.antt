-- Which criteria chains vouch for at a version (ours; in outline The Cargo Vet Book, on audit entries).
use Rattle.std.specs.Prelude.{◌≡◌, ℕ, Bool, true, ◌&&◌, List}
use Rattle.std.specs.List.{All, list_any}
use Rattle.vet_base.specs.CriteriaSet.{has}
use Rattle.vet_base.specs.Version.{VersionValue}
use Rattle.vet_base.specs.VersionOrder.{version_eq}
use Rattle.vet_entries.specs.declared.step.Step.{Step}
use Rattle.vet_graph.specs.Chain.{Condemned, HasCleanChain}
use Rattle.vet_masks.specs.declared.search.Barred.{Barred}

-- the versions that are barred for each criterion
abbrev pub barred_by : List Barred → Condemned
barred_by barred c v = list_any (λ b. version_eq b.version v && has c b.criteria) barred

-- a chain for c leads to v, through no version that is barred for c, by steps that are taken
abbrev pub IsVouched : List Step → Condemned → (Step → Bool) → ℕ → VersionValue → Type 0
IsVouched steps bar taken c v = HasCleanChain steps bar c v (λ chain. All (λ s. taken s ≡ true) chain)
