use Rattle.std.proofs.Common.{◌≡◌, Some, sym, ◌∙◌, subst}
use Rattle.std.proofs.lemmas.Option.{same_Some}
use Rattle.vet_base.specs.Version.{read_version, version_text}
use Rattle.vet_demand.proofs.KeyText.{key_back}
use Rattle.vet_demand.proofs.policy_key.key_text_reads_back.Goals as goal

pub returns-in-Some : goal.returns-in-Some
returns-in-Some c =
    key_back c.args.key.now c.as_str.ensures.name
    (λ v e. (let same = same_Some _ _ (sym c.in-Some.is ∙ e) in
    subst (λ w. read_version (version_text w) ≡ Some w) same c.version_text_reads_back.ensures))

pub returns-in_default : goal.returns-in_default
returns-in_default c = key_back c.args.key.now c.as_str.ensures.name (λ v e. cc (sym c.in_default.is ∙ e))
