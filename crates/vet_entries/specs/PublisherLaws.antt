-- The order of publisher records is total, and only equal ones tie in it (ours).
use Rattle.std.specs.Prelude.{◌≡◌, Option, Some, None}
use Rattle.std.specs.Bool.{Decides}
use Rattle.std.specs.Ordering.{nat_cmp, is_eq}
use Rattle.std.specs.Cmp.{IsTotalOrder, nat_cmp_total, then_total, on_total, tied_itself, Equal-is}
use Rattle.std.specs.Cmp.Lexicographic.{nat_list_cmp_total, options_total}
use Rattle.std.specs.FinMap.{nat_cmp-IsAntisymmetric, slice_cmp-IsAntisymmetric}
use Rattle.std.specs.declared.cmp.Ordering.TheVariants.{Equal}
use Rattle.std.proofs.Common.{refl, ap, ◌∙◌}
use Rattle.vet_base.specs.Day.{DayValue, day_cmp}
use Rattle.vet_base.specs.DayLaws.{day_total}
use Rattle.vet_base.specs.OrderLaws.{then_first, then_second}
use Rattle.vet_base.specs.VersionOrder.{version_cmp}
use Rattle.vet_base.specs.VersionOrderLaws.{version_total, version_cmp-IsAntisymmetric}
use Rattle.vet_base.specs.Words.{Text}
use Rattle.vet_entries.specs.declared.publisher.Publisher.{Publisher}
use Rattle.vet_entries.specs.Publisher.{parts_cmp, calendar_cmp, text_cmp, publisher_cmp, publisher_eq}

pub parts_total : IsTotalOrder parts_cmp
parts_total = then_total (on_total (λ (d : DayValue). d.year) nat_cmp_total)
    (then_total (on_total (λ (d : DayValue). d.month) nat_cmp_total) (on_total (λ (d : DayValue). d.day) nat_cmp_total))

pub calendar_total : IsTotalOrder calendar_cmp
calendar_total = then_total day_total parts_total

pub publisher_total : IsTotalOrder publisher_cmp
publisher_total = then_total (on_total (λ (p : Publisher). p.version) version_total)
    (then_total (on_total (λ (p : Publisher). p.day) calendar_total)
    (then_total (on_total (λ (p : Publisher). p.user) nat_cmp_total)
    (then_total (on_total (λ (p : Publisher). p.login) (options_total nat_list_cmp_total))
    (on_total (λ (p : Publisher). p.name) (options_total nat_list_cmp_total)))))

same_day : (a b : DayValue) → a.year ≡ b.year → a.month ≡ b.month → a.day ≡ b.day → a ≡ b
same_day a b y m d = λ i. record { year = y i; month = m i; day = d i }

-- a day ties only with itself
pub calendar_cmp-IsAntisymmetric : (a b : DayValue) → calendar_cmp a b ≡ Equal → a ≡ b
calendar_cmp-IsAntisymmetric a b e =
    let parts : parts_cmp a b ≡ Equal = then_second (day_cmp a b) _ e in
    let more = then_second (nat_cmp a.year b.year) _ parts in
    same_day a b (nat_cmp-IsAntisymmetric _ _ (then_first _ _ parts))
    (nat_cmp-IsAntisymmetric _ _ (then_first _ _ more))
    (nat_cmp-IsAntisymmetric _ _ (then_second (nat_cmp a.month b.month) _ more))

text_tied : (a b : Option Text) → text_cmp a b ≡ Equal → a ≡ b
text_tied None None e = refl
text_tied None (Some y) e = cc e
text_tied (Some x) None e = cc e
text_tied (Some x) (Some y) e = ap (λ (t : Text). Some t) (slice_cmp-IsAntisymmetric nat_cmp-IsAntisymmetric x y e)

same_publisher : (p q : Publisher) → p.version ≡ q.version → p.user ≡ q.user → p.day ≡ q.day → p.login ≡ q.login
    → p.name ≡ q.name → p ≡ q
same_publisher p q v u d l n = λ i. record { version = v i; user = u i; day = d i; login = l i; name = n i }

-- a record ties only with itself
pub publisher_cmp-IsAntisymmetric : (p q : Publisher) → publisher_cmp p q ≡ Equal → p ≡ q
publisher_cmp-IsAntisymmetric p q e =
    let days = then_second (version_cmp p.version q.version) _ e in
    let users = then_second (calendar_cmp p.day q.day) _ days in
    let logins = then_second (nat_cmp p.user q.user) _ users in
    same_publisher p q
    (version_cmp-IsAntisymmetric _ _ (then_first _ _ e)) (nat_cmp-IsAntisymmetric _ _ (then_first _ _ users))
    (calendar_cmp-IsAntisymmetric _ _ (then_first _ _ days)) (text_tied _ _ (then_first _ _ logins))
    (text_tied _ _ (then_second (text_cmp p.login q.login) _ logins))

-- two records tie exactly if they are the same
pub publisher_eq-Decides : (p q : Publisher) → Decides (publisher_eq p q) (p ≡ q)
publisher_eq-Decides p q = (
  λ tied. publisher_cmp-IsAntisymmetric p q ((Equal-is (publisher_cmp p q)).0 tied),
  λ same. ap (λ r. is_eq (publisher_cmp r q)) same ∙ ap is_eq (tied_itself publisher_total q),
)
