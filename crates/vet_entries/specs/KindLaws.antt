-- The functions that compare kinds decide whether they are the same (ours).
use Rattle.std.specs.Prelude.{◌≡◌, Option}
use Rattle.std.specs.Bool.{Decides}
use Rattle.std.specs.Cmp.{booleans_Decides}
use Rattle.std.specs.Cmp.Lexicographic.{bytes_decides}
use Rattle.std.proofs.Common.{ap}
use Rattle.std.proofs.lemmas.Bool.Decides.{Decides-and, Decides-eqb, Decides-like}
use Rattle.vet_base.specs.Day.{DayValue}
use Rattle.vet_base.specs.DayLaws.{same_day-Decides}
use Rattle.vet_base.specs.DeltaLaws.{delta_eq-Decides}
use Rattle.vet_base.specs.NamesLaws.{same_names-Decides}
use Rattle.vet_base.specs.OptionLaws.{options_decide}
use Rattle.vet_base.specs.VersionOrderLaws.{version_eq-Decides}
use Rattle.vet_entries.specs.declared.kind.Audit.{Audit}
use Rattle.vet_entries.specs.declared.kind.Grant.{Grant}
use Rattle.vet_entries.specs.declared.kind.Kind.{Kind}
use Rattle.vet_entries.specs.declared.kind.Kind.TheVariants.{Full, Delta, Violation, Wildcard, Trusted, Exemption}
use Rattle.vet_entries.specs.declared.kind.Window.{Window}
use Rattle.vet_entries.specs.Kind.{audit_eq, grant_eq, window_eq, kind_eq, same_last_day}

-- ---- each of these functions decides whether two are the same

pub audit_eq-Decides : (a b : Audit) → Decides (audit_eq a b) (a ≡ b)
audit_eq-Decides a b =
    Decides-like _ (λ h. λ i. record { who = h.0 i; importable = h.1 i })
    (λ e. (ap (λ x. x.who) e, ap (λ x. x.importable) e))
    (Decides-and _ _ (same_names-Decides a.who b.who) (options_decide booleans_Decides a.importable b.importable))

pub grant_eq-Decides : (a b : Grant) → Decides (grant_eq a b) (a ≡ b)
grant_eq-Decides a b =
    Decides-like _ (λ h. λ i. record { who = h.0 i; renew = h.1 i }) (λ e. (ap (λ x. x.who) e, ap (λ x. x.renew) e))
    (Decides-and _ _ (same_names-Decides a.who b.who) (options_decide booleans_Decides a.renew b.renew))

pub window_eq-Decides : (a b : Window) → Decides (window_eq a b) (a ≡ b)
window_eq-Decides a b =
    Decides-like _ (λ h. λ i. record { user = h.0 i; first = h.1.0 i; last = h.1.1 i })
    (λ e. (ap (λ x. x.user) e, (ap (λ x. x.first) e, ap (λ x. x.last) e)))
    (Decides-and _ _ (Decides-eqb a.user b.user)
    (Decides-and _ _ (same_day-Decides a.first b.first) (same_day-Decides a.last b.last)))

pub same_last_day-Decides : (a b : Option DayValue) → Decides (same_last_day a b) (a ≡ b)
same_last_day-Decides = options_decide same_day-Decides

pub kind_eq-Decides : (a b : Kind) → Decides (kind_eq a b) (a ≡ b)
kind_eq-Decides (Full v a) (Full w b) =
    Decides-like _ (λ h. λ i. Full (h.0 i) (h.1 i)) (λ e. (cc e, cc e))
    (Decides-and _ _ (version_eq-Decides v w) (audit_eq-Decides a b))
kind_eq-Decides (Delta c a) (Delta d b) =
    Decides-like _ (λ h. λ i. Delta (h.0 i) (h.1 i)) (λ e. (cc e, cc e))
    (Decides-and _ _ (delta_eq-Decides c d) (audit_eq-Decides a b))
kind_eq-Decides (Violation q a) (Violation r b) =
    Decides-like _ (λ h. λ i. Violation (h.0 i) (h.1 i)) (λ e. (cc e, cc e))
    (Decides-and _ _ (bytes_decides q r) (audit_eq-Decides a b))
kind_eq-Decides (Wildcard v a) (Wildcard w b) =
    Decides-like _ (λ h. λ i. Wildcard (h.0 i) (h.1 i)) (λ e. (cc e, cc e))
    (Decides-and _ _ (window_eq-Decides v w) (grant_eq-Decides a b))
kind_eq-Decides (Trusted v) (Trusted w) = Decides-like _ (λ h. ap Trusted h) (λ e. cc e) (window_eq-Decides v w)
kind_eq-Decides (Exemption v a l) (Exemption w b m) =
    Decides-like _ (λ h. λ i. Exemption (h.0 i) (h.1.0 i) (h.1.1 i)) (λ e. (cc e, (cc e, cc e)))
    (Decides-and _ _ (version_eq-Decides v w)
    (Decides-and _ _ (options_decide booleans_Decides a b) (same_last_day-Decides l m)))
kind_eq-Decides (Full v a) (Delta w b) = (λ h. cc h, λ e. cc e)
kind_eq-Decides (Full v a) (Violation w b) = (λ h. cc h, λ e. cc e)
kind_eq-Decides (Full v a) (Wildcard w b) = (λ h. cc h, λ e. cc e)
kind_eq-Decides (Full v a) (Trusted w) = (λ h. cc h, λ e. cc e)
kind_eq-Decides (Full v a) (Exemption w b m) = (λ h. cc h, λ e. cc e)
kind_eq-Decides (Delta v a) (Full w b) = (λ h. cc h, λ e. cc e)
kind_eq-Decides (Delta v a) (Violation w b) = (λ h. cc h, λ e. cc e)
kind_eq-Decides (Delta v a) (Wildcard w b) = (λ h. cc h, λ e. cc e)
kind_eq-Decides (Delta v a) (Trusted w) = (λ h. cc h, λ e. cc e)
kind_eq-Decides (Delta v a) (Exemption w b m) = (λ h. cc h, λ e. cc e)
kind_eq-Decides (Violation v a) (Full w b) = (λ h. cc h, λ e. cc e)
kind_eq-Decides (Violation v a) (Delta w b) = (λ h. cc h, λ e. cc e)
kind_eq-Decides (Violation v a) (Wildcard w b) = (λ h. cc h, λ e. cc e)
kind_eq-Decides (Violation v a) (Trusted w) = (λ h. cc h, λ e. cc e)
kind_eq-Decides (Violation v a) (Exemption w b m) = (λ h. cc h, λ e. cc e)
kind_eq-Decides (Wildcard v a) (Full w b) = (λ h. cc h, λ e. cc e)
kind_eq-Decides (Wildcard v a) (Delta w b) = (λ h. cc h, λ e. cc e)
kind_eq-Decides (Wildcard v a) (Violation w b) = (λ h. cc h, λ e. cc e)
kind_eq-Decides (Wildcard v a) (Trusted w) = (λ h. cc h, λ e. cc e)
kind_eq-Decides (Wildcard v a) (Exemption w b m) = (λ h. cc h, λ e. cc e)
kind_eq-Decides (Trusted v) (Full w b) = (λ h. cc h, λ e. cc e)
kind_eq-Decides (Trusted v) (Delta w b) = (λ h. cc h, λ e. cc e)
kind_eq-Decides (Trusted v) (Violation w b) = (λ h. cc h, λ e. cc e)
kind_eq-Decides (Trusted v) (Wildcard w b) = (λ h. cc h, λ e. cc e)
kind_eq-Decides (Trusted v) (Exemption w b m) = (λ h. cc h, λ e. cc e)
kind_eq-Decides (Exemption v a l) (Full w b) = (λ h. cc h, λ e. cc e)
kind_eq-Decides (Exemption v a l) (Delta w b) = (λ h. cc h, λ e. cc e)
kind_eq-Decides (Exemption v a l) (Violation w b) = (λ h. cc h, λ e. cc e)
kind_eq-Decides (Exemption v a l) (Wildcard w b) = (λ h. cc h, λ e. cc e)
kind_eq-Decides (Exemption v a l) (Trusted w) = (λ h. cc h, λ e. cc e)
