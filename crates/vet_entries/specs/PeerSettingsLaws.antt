-- The function that compares settings decides whether they are the same (ours).
use Rattle.std.specs.Prelude.{◌≡◌}
use Rattle.std.specs.Bool.{Decides}
use Rattle.std.specs.Cmp.Lexicographic.{bytes_decides}
use Rattle.std.proofs.Common.{ap}
use Rattle.std.proofs.lemmas.Bool.Decides.{Decides-and, Decides-like}
use Rattle.vet_base.specs.NamesLaws.{same_names-Decides}
use Rattle.vet_entries.specs.declared.peer_settings.PeerSettings.{PeerSettings}
use Rattle.vet_entries.specs.CriteriaMapLaws.{map_eq-Decides}
use Rattle.vet_entries.specs.PeerSettings.{settings_eq}

pub settings_eq-Decides : (a b : PeerSettings) → Decides (settings_eq a b) (a ≡ b)
settings_eq-Decides a b =
    Decides-like _ (λ h. λ i. record { name = h.0 i; url = h.1.0 i; exclude = h.1.1.0 i; map = h.1.1.1 i })
    (λ e. (ap (λ s. s.name) e, (ap (λ s. s.url) e, (ap (λ s. s.exclude) e, ap (λ s. s.map) e))))
    (Decides-and _ _ (bytes_decides a.name b.name) (Decides-and _ _ (same_names-Decides a.url b.url)
    (Decides-and _ _ (same_names-Decides a.exclude b.exclude) (map_eq-Decides a.map b.map))))
