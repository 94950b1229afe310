-- Settings for the tool are equal only to themselves (ours).
use Rattle.std.specs.Prelude.{◌≡◌}
use Rattle.std.specs.Bool.{Decides}
use Rattle.std.specs.Cmp.Lexicographic.{bytes_decides}
use Rattle.std.proofs.Common.{ap}
use Rattle.std.proofs.lemmas.Bool.Decides.{Decides-and, Decides-like}
use Rattle.vet_base.specs.NamesLaws.{same_names-Decides}
use Rattle.vet_base.specs.OptionLaws.{options_decide}
use Rattle.vet_register.specs.declared.tool_settings.ToolSettings.{ToolSettings}
use Rattle.vet_register.specs.ToolSettings.{tool_eq}

-- settings are equal only to themselves
pub tool_eq-Decides : (a b : ToolSettings) → Decides (tool_eq a b) (a ≡ b)
tool_eq-Decides a b =
    Decides-like (tool_eq a b)
    (λ h. (let v : a.vet_version ≡ b.vet_version = h.0 in
    let d : a.default_criteria ≡ b.default_criteria = h.1 in
    λ i. record { vet_version = v i; default_criteria = d i }))
    (λ e. (ap (λ (s : ToolSettings). s.vet_version) e, ap (λ (s : ToolSettings). s.default_criteria) e))
    (Decides-and _ _
    (options_decide bytes_decides a.vet_version b.vet_version)
    (options_decide same_names-Decides a.default_criteria b.default_criteria))
