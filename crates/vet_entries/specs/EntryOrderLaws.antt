-- The order of entries is total, and only equal ones tie in it (ours).
use Rattle.std.specs.Prelude.{ℕ, ◌≡◌, Bool, true, false, List, Option, Some, None}
use Rattle.std.specs.Bool.{Decides, one_answer}
use Rattle.std.specs.Option.{option_cmp}
use Rattle.std.specs.Ordering.{bool_cmp, nat_cmp, on, ordering_then, then_cmp, is_eq, eq_by_cmp}
use Rattle.std.specs.Cmp.{IsTotalOrder, bool_cmp_total, nat_cmp_total, then_total, on_total, tied_itself, Equal-is}
use Rattle.std.specs.Cmp.Lexicographic.{slice_cmp, lists_total, nat_list_cmp_total, options_total}
use Rattle.std.specs.FinMap.{nat_cmp-IsAntisymmetric, slice_cmp-IsAntisymmetric}
use Rattle.std.specs.declared.cmp.Ordering.{Ordering}
use Rattle.std.specs.declared.cmp.Ordering.TheVariants.{Less, Equal, Greater}
use Rattle.std.proofs.Common.{refl, sym, ap, subst, ◌∙◌}
use Rattle.std.proofs.lemmas.Option.{same_Some}
use Rattle.vet_base.specs.Day.{DayValue}
use Rattle.vet_base.specs.Names.{NameSet, members}
use Rattle.vet_base.specs.NamesLaws.{same_members}
use Rattle.vet_base.specs.OrderLaws.{then_first, then_second}
use Rattle.vet_base.specs.Version.{VersionValue}
use Rattle.vet_base.specs.VersionOrder.{version_cmp}
use Rattle.vet_base.specs.VersionOrderLaws.{version_total, version_cmp-IsAntisymmetric}
use Rattle.vet_base.specs.Words.{Text}
use Rattle.vet_entries.specs.declared.entry.Entry.{Entry}
use Rattle.vet_entries.specs.declared.entry.Source.{Source}
use Rattle.vet_entries.specs.declared.entry.Source.TheVariants.{Own, Peer}
use Rattle.vet_entries.specs.declared.kind.Kind.{Kind}
use Rattle.vet_entries.specs.declared.kind.Kind.TheVariants.{Full, Delta, Violation, Wildcard, Trusted, Exemption}
use Rattle.vet_entries.specs.declared.kind.Window.{Window}
use Rattle.vet_entries.specs.Entry.{entry_eq}
use Rattle.vet_entries.specs.EntryLaws.{entry_eq-Decides}
use Rattle.vet_entries.specs.EntryOrder.{names_cmp, flag_cmp, window_cmp, last_day_cmp, kind_rank, kind_cmp, source_cmp}
use Rattle.vet_entries.specs.EntryOrder.{said_cmp, entry_cmp}
use Rattle.vet_entries.specs.Publisher.{calendar_cmp}
use Rattle.vet_entries.specs.PublisherLaws.{calendar_total, calendar_cmp-IsAntisymmetric}

-- ---- parts

texts_tied : (a b : List ℕ) → slice_cmp nat_cmp a b ≡ Equal → a ≡ b
texts_tied = slice_cmp-IsAntisymmetric nat_cmp-IsAntisymmetric

options_tied : {X : Type 0} {R : X → X → Ordering} → ((a b : X) → R a b ≡ Equal → a ≡ b) → (a b : Option X)
    → option_cmp R a b ≡ Equal → a ≡ b
options_tied tied None None e = refl
options_tied tied None (Some y) e = cc e
options_tied tied (Some x) None e = cc e
options_tied {X} tied (Some x) (Some y) e = ap (λ (z : X). Some z) (tied x y e)

flags_tied : (a b : Bool) → bool_cmp a b ≡ Equal → a ≡ b
flags_tied true true e = refl
flags_tied true false e = cc e
flags_tied false true e = cc e
flags_tied false false e = refl

names_total : IsTotalOrder names_cmp
names_total = on_total members (lists_total nat_list_cmp_total)

names_tied : (s t : NameSet) → names_cmp s t ≡ Equal → s ≡ t
names_tied s t e = same_members s t (slice_cmp-IsAntisymmetric texts_tied (members s) (members t) e)

window_total : IsTotalOrder window_cmp
window_total = then_total (on_total (λ (w : Window). w.user) nat_cmp_total)
    (then_total (on_total (λ (w : Window). w.first) calendar_total) (on_total (λ (w : Window). w.last) calendar_total))

window_tied : (v w : Window) → window_cmp v w ≡ Equal → v ≡ w
window_tied v w e =
    let days = then_second (nat_cmp v.user w.user) _ e in
    let user = nat_cmp-IsAntisymmetric _ _ (then_first _ _ e) in
    let first = calendar_cmp-IsAntisymmetric _ _ (then_first _ _ days) in
    let last = calendar_cmp-IsAntisymmetric _ _ (then_second (calendar_cmp v.first w.first) _ days) in
    λ i. record { user = user i; first = first i; last = last i }

-- ---- kinds, taken apart

abbrev first_of : Kind → Option VersionValue
first_of (Full v a) = Some v
first_of (Delta d a) = Some d.from
first_of (Exemption v s l) = Some v
first_of _ = None

abbrev second_of : Kind → Option VersionValue
second_of (Delta d a) = Some d.to
second_of _ = None

abbrev requirement_of : Kind → Option Text
requirement_of (Violation r a) = Some r
requirement_of _ = None

abbrev window_of : Kind → Option Window
window_of (Wildcard w g) = Some w
window_of (Trusted w) = Some w
window_of _ = None

abbrev who_of : Kind → Option NameSet
who_of (Full v a) = Some a.who
who_of (Delta d a) = Some a.who
who_of (Violation r a) = Some a.who
who_of (Wildcard w g) = Some g.who
who_of _ = None

abbrev suggest_of : Kind → Option Bool
suggest_of (Exemption v s l) = s
suggest_of _ = None

abbrev last_of : Kind → Option DayValue
last_of (Exemption v s l) = l
last_of _ = None

abbrev flag_of : Kind → Option Bool
flag_of (Full v a) = a.importable
flag_of (Delta d a) = a.importable
flag_of (Violation r a) = a.importable
flag_of (Wildcard w g) = g.renew
flag_of _ = None

-- the kind that has these parts
kind_of : Option VersionValue → Option VersionValue → Option Text → Option Window → Option NameSet → Option Bool
    → Option DayValue → Option Bool → Option Kind
kind_of (Some v) None None None (Some who) s l flag = Some (Full v (record { who = who; importable = flag }))
kind_of (Some v) (Some w) None None (Some who) s l flag =
    Some (Delta (record { from = v; to = w }) (record { who = who; importable = flag }))
kind_of None None (Some r) None (Some who) s l flag = Some (Violation r (record { who = who; importable = flag }))
kind_of None None None (Some w) (Some who) s l flag = Some (Wildcard w (record { who = who; renew = flag }))
kind_of None None None (Some w) None s l flag = Some (Trusted w)
kind_of (Some v) None None None None s l flag = Some (Exemption v s l)
kind_of _ _ _ _ _ _ _ _ = None

put_together : (k : Kind)
    → kind_of (first_of k) (second_of k) (requirement_of k) (window_of k) (who_of k) (suggest_of k) (last_of k)
    (flag_of k) ≡ Some k
unfolding kind_of
put_together (Full v a) = refl
put_together (Delta d a) = refl
put_together (Violation r a) = refl
put_together (Wildcard w g) = refl
put_together (Trusted w) = refl
put_together (Exemption v s l) = refl

abbrev parts_cmp : Kind → Kind → Ordering
parts_cmp = then_cmp (on kind_rank nat_cmp) (then_cmp (on first_of (option_cmp version_cmp))
    (then_cmp (on second_of (option_cmp version_cmp)) (then_cmp (on requirement_of (option_cmp (slice_cmp nat_cmp)))
    (then_cmp (on window_of (option_cmp window_cmp)) (then_cmp (on who_of (option_cmp names_cmp))
    (then_cmp (on suggest_of flag_cmp) (then_cmp (on last_of last_day_cmp) (on flag_of flag_cmp))))))))

parts_total : IsTotalOrder parts_cmp
parts_total = then_total (on_total kind_rank nat_cmp_total)
    (then_total (on_total first_of (options_total version_total))
    (then_total (on_total second_of (options_total version_total))
    (then_total (on_total requirement_of (options_total nat_list_cmp_total))
    (then_total (on_total window_of (options_total window_total))
    (then_total (on_total who_of (options_total names_total))
    (then_total (on_total suggest_of (options_total bool_cmp_total))
    (then_total (on_total last_of (options_total calendar_total))
    (on_total flag_of (options_total bool_cmp_total)))))))))

-- only kinds of the same parts tie
parts_tied : (a b : Kind) → parts_cmp a b ≡ Equal → a ≡ b
parts_tied a b e =
    let e1 = then_second (nat_cmp (kind_rank a) (kind_rank b)) _ e in
    let e2 = then_second (option_cmp version_cmp (first_of a) (first_of b)) _ e1 in
    let e3 = then_second (option_cmp version_cmp (second_of a) (second_of b)) _ e2 in
    let e4 = then_second (option_cmp (slice_cmp nat_cmp) (requirement_of a) (requirement_of b)) _ e3 in
    let e5 = then_second (option_cmp window_cmp (window_of a) (window_of b)) _ e4 in
    let first = options_tied version_cmp-IsAntisymmetric (first_of a) (first_of b) (then_first _ _ e1) in
    let second = options_tied version_cmp-IsAntisymmetric (second_of a) (second_of b) (then_first _ _ e2) in
    let requirement = options_tied texts_tied (requirement_of a) (requirement_of b) (then_first _ _ e3) in
    let window = options_tied window_tied (window_of a) (window_of b) (then_first _ _ e4) in
    let e6 = then_second (option_cmp names_cmp (who_of a) (who_of b)) _ e5 in
    let e7 = then_second (flag_cmp (suggest_of a) (suggest_of b)) _ e6 in
    let who = options_tied names_tied (who_of a) (who_of b) (then_first _ _ e5) in
    let suggest = options_tied flags_tied (suggest_of a) (suggest_of b) (then_first _ _ e6) in
    let last = options_tied calendar_cmp-IsAntisymmetric (last_of a) (last_of b) (then_first _ _ e7) in
    let flag = options_tied flags_tied (flag_of a) (flag_of b)
    (then_second (last_day_cmp (last_of a) (last_of b)) _ e7) in
    same_Some a b (sym (put_together a)
    ∙ (λ i. kind_of (first i) (second i) (requirement i) (window i) (who i) (suggest i) (last i) (flag i))
    ∙ put_together b)

then_then : (r s t : Ordering) → ordering_then r (ordering_then s t) ≡ ordering_then (ordering_then r s) t
then_then Less s t = refl
then_then Equal s t = refl
then_then Greater s t = refl

then_nothing : (r : Ordering) → ordering_then r Equal ≡ r
then_nothing Less = refl
then_nothing Equal = refl
then_nothing Greater = refl

-- kinds are ordered by their parts
by_parts : (a b : Kind) → parts_cmp a b ≡ kind_cmp a b
by_parts (Full v a) (Full w b) = refl
by_parts (Delta c a) (Delta d b) = then_then (version_cmp c.from d.from) (version_cmp c.to d.to) _
by_parts (Violation q a) (Violation r b) = refl
by_parts (Wildcard v a) (Wildcard w b) = refl
by_parts (Trusted v) (Trusted w) = then_nothing (window_cmp v w)
by_parts (Exemption v a l) (Exemption w b m) =
    ap (λ r. ordering_then (version_cmp v w) (ordering_then (flag_cmp a b) r)) (then_nothing (last_day_cmp l m))
by_parts (Full v a) (Delta w b) = refl
by_parts (Full v a) (Violation w b) = refl
by_parts (Full v a) (Wildcard w b) = refl
by_parts (Full v a) (Trusted w) = refl
by_parts (Full v a) (Exemption w b m) = refl
by_parts (Delta v a) (Full w b) = refl
by_parts (Delta v a) (Violation w b) = refl
by_parts (Delta v a) (Wildcard w b) = refl
by_parts (Delta v a) (Trusted w) = refl
by_parts (Delta v a) (Exemption w b m) = refl
by_parts (Violation v a) (Full w b) = refl
by_parts (Violation v a) (Delta w b) = refl
by_parts (Violation v a) (Wildcard w b) = refl
by_parts (Violation v a) (Trusted w) = refl
by_parts (Violation v a) (Exemption w b m) = refl
by_parts (Wildcard v a) (Full w b) = refl
by_parts (Wildcard v a) (Delta w b) = refl
by_parts (Wildcard v a) (Violation w b) = refl
by_parts (Wildcard v a) (Trusted w) = refl
by_parts (Wildcard v a) (Exemption w b m) = refl
by_parts (Trusted v) (Full w b) = refl
by_parts (Trusted v) (Delta w b) = refl
by_parts (Trusted v) (Violation w b) = refl
by_parts (Trusted v) (Wildcard w b) = refl
by_parts (Trusted v) (Exemption w b m) = refl
by_parts (Exemption v a l) (Full w b) = refl
by_parts (Exemption v a l) (Delta w b) = refl
by_parts (Exemption v a l) (Violation w b) = refl
by_parts (Exemption v a l) (Wildcard w b) = refl
by_parts (Exemption v a l) (Trusted w) = refl

pub kind_cmp_total : IsTotalOrder kind_cmp
kind_cmp_total = subst IsTotalOrder (λ i a b. by_parts a b i) parts_total

kind_tied : (a b : Kind) → kind_cmp a b ≡ Equal → a ≡ b
kind_tied a b e = parts_tied a b (by_parts a b ∙ e)

-- ---- entries

-- the name of a peer, if the source is one
abbrev peer_of : Source → Option Text
peer_of Own = None
peer_of (Peer name) = Some name

by_peer : (a b : Source) → option_cmp (slice_cmp nat_cmp) (peer_of a) (peer_of b) ≡ source_cmp a b
by_peer Own Own = refl
by_peer Own (Peer b) = refl
by_peer (Peer a) Own = refl
by_peer (Peer a) (Peer b) = refl

source_total : IsTotalOrder source_cmp
source_total = subst IsTotalOrder (λ i a b. by_peer a b i) (on_total peer_of (options_total nat_list_cmp_total))

source_tied : (a b : Source) → source_cmp a b ≡ Equal → a ≡ b
source_tied Own Own e = refl
source_tied Own (Peer b) e = cc e
source_tied (Peer a) Own e = cc e
source_tied (Peer a) (Peer b) e = ap Peer (texts_tied a b e)

said_total : IsTotalOrder said_cmp
said_total = then_total (on_total (λ (e : Entry). e.«package») nat_list_cmp_total)
    (then_total (on_total (λ (e : Entry). e.kind) kind_cmp_total)
    (then_total (on_total (λ (e : Entry). e.criteria) names_total)
    (on_total (λ (e : Entry). e.notes) (options_total nat_list_cmp_total))))

-- the order of entries is total
pub entry_cmp_total : IsTotalOrder entry_cmp
entry_cmp_total = then_total (on_total (λ (e : Entry). e.source) source_total) said_total

entry_tied : (a b : Entry) → entry_cmp a b ≡ Equal → a ≡ b
entry_tied a b e =
    let said = then_second (source_cmp a.source b.source) _ e in
    let kinds = then_second (slice_cmp nat_cmp a.«package» b.«package») _ said in
    let sets = then_second (kind_cmp a.kind b.kind) _ kinds in
    let source = source_tied a.source b.source (then_first _ _ e) in
    let name = texts_tied a.«package» b.«package» (then_first _ _ said) in
    let kind = kind_tied a.kind b.kind (then_first _ _ kinds) in
    let criteria = names_tied a.criteria b.criteria (then_first _ _ sets) in
    let notes = options_tied texts_tied a.notes b.notes (then_second (names_cmp a.criteria b.criteria) _ sets) in
    λ i. record { source = source i; «package» = name i; kind = kind i; criteria = criteria i; notes = notes i }

-- an entry ties only with itself
pub entry_cmp-Decides : (a b : Entry) → Decides (eq_by_cmp entry_cmp a b) (a ≡ b)
entry_cmp-Decides a b = (
  λ tied. entry_tied a b ((Equal-is (entry_cmp a b)).0 tied),
  λ same. ap (λ e. is_eq (entry_cmp e b)) same ∙ ap is_eq (tied_itself entry_cmp_total b),
)

-- two entries tie exactly if they are the same in every field
pub entries_tie : (a b : Entry) → entry_eq a b ≡ eq_by_cmp entry_cmp a b
entries_tie a b = one_answer (entry_eq a b) (eq_by_cmp entry_cmp a b) (entry_eq-Decides a b) (entry_cmp-Decides a b)
