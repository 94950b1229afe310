use Rattle.std.proofs.Common.{◌≡◌, ℕ, ◌<◌, ◌+◌, ◌-◌, ◌∷◌, [], length, get_or, drop, ap, sym, ◌∙◌, arith, inl, inr}
use Rattle.std.proofs.Common.{nat_lt}
use Rattle.std.specs.FinSet as set
use Rattle.std.specs.Ordering.{nat_cmp}
use Rattle.std.proofs.lemmas.Bool.{cases_lt, cond-false, le-ltb}
use Rattle.std.specs.FinMap as map
use Rattle.std.proofs.lemmas.List.{drop_all, drop_more, get_or-map, length-map}
use Rattle.vet_base.specs.declared.criterion.Criterion.{Criterion}
use Rattle.vet_base.specs.Closures.{apart_at, closed_at, led_on}
use Rattle.vet_base.specs.Criteria.{placed, reached_by}
use Rattle.vet_base.specs.CriteriaSet.{has}
use Rattle.vet_base.specs.Definitions.{by_name}
use Rattle.vet_base.proofs.Closed.{lone_in, reach_at, none_reached, reach_joined, reach_more}
use Rattle.vet_base.proofs.Tables.{entries_kept, few_kept, keys_is, length_kept}
use Rattle.vet_base.proofs.definitions.Definitions.closures.Goals as goal

pub apart-closures-requires : goal.apart-closures-requires
apart-closures-requires c =
    let names = c.self.inside.names.items in
    let criteria = c.self.inside.criteria.items in
    omega (
      arith,
      few_kept names criteria c.self.invariant,
      length_kept names criteria c.self.invariant,
      c.len-count.ensures,
    )

pub places-init : goal.places-init
places-init c =
    let names = c.self.inside.names.items in
    let criteria = c.self.inside.criteria.items in
    let table = c.args.self.now in
    let entries : map.entries table ≡ by_name criteria =
    ap map.entries (sym c.self.view_is) ∙ entries_kept names criteria c.self.invariant in
    let many : length (map.entries table) ≡ length criteria =
    ap length entries ∙ length-map criteria (λ (d : Criterion). (d.name, d)) in
    let place : c.len-count.result ≡ length (map.keys table) =
    omega (
      arith,
      c.len-count.ensures,
      length_kept names criteria c.self.invariant,
      ap length
          (keys_is names criteria c.self.invariant table c.self.view_is),
    ) in
    record {
      within = omega (arith, c.len-count.ensures);
      rest = λ p high. c.apart-closures.ensures p ∙ cond-false (nat_lt p c.len-count.result) (set.insert set.empty p)
          set.empty (le-ltb p c.len-count.result high);
      found = λ p. c.apart-closures.ensures p ∙ ap (λ n. apart_at n p) place ∙ none_reached table p
          ∙ ap (λ es. reach_at table es p)
          (sym (drop_all c.len-count.result (map.entries table) (omega (arith, many, c.len-count.ensures))));
    }

pub places-preserved : goal.places-preserved
places-preserved c =
    let names = c.self.inside.names.items in
    let criteria = c.self.inside.criteria.items in
    let kept = c.self.invariant in
    let table = c.args.self.now in
    let is = c.self.view_is in
    let k = c.places.place - 1 in
    let d = c.index.result.now in
    let low : k < length criteria = omega (arith, c.places.invariant.within, c.places-test.true) in
    let here : get_or criteria k d ≡ d = sym c.index.ensures in
    let entries : map.entries table ≡ by_name criteria = ap map.entries (sym is) ∙ entries_kept names criteria kept in
    let many : length (map.entries table) ≡ length criteria =
    ap length entries ∙ length-map criteria (λ (x : Criterion). (x.name, x)) in
    let keys : map.keys table ≡ names = keys_is names criteria kept table is in
    let under : k < length (map.keys table) = omega (arith, low, length_kept names criteria kept, ap length keys) in
    let name : d.name ≡ get_or (map.keys table) k [] =
    ap (λ (x : Criterion). x.name) (sym here) ∙ sym (get_or-map (λ (x : Criterion). x.name) criteria k d [] low)
    ∙ ap (λ ns. get_or ns k []) (kept.named ∙ sym keys) in
    let rest = drop c.places.place (map.entries table) in
    let all : drop k (map.entries table) ≡ (get_or (map.keys table) k [], d) ∷ rest =
    drop_more (map.entries table) k (d.name, d) (omega (arith, low, many))
    ∙ ap (λ e. e ∷ drop (k + 1) (map.entries table))
    (ap (λ es. get_or es k (d.name, d)) entries
    ∙ get_or-map (λ (x : Criterion). (x.name, x)) criteria k d (d.name, d) low
    ∙ ap (λ (x : Criterion). (x.name, x)) here ∙ (λ i. (name i, d)))
    ∙ ap (λ n. (get_or (map.keys table) k [], d) ∷ drop n (map.entries table)) (omega (arith, c.places-test.true)) in
    let reached : c.joined-reached.result ≡ placed table (reached_by rest d.implies) =
    reach_joined table rest d.implies (lone_in table c.places.place) c.joined-reached.result (λ q. (
      λ h. (let at = (c.joined-reached.ensures q).0 h in (
        at.0,
        ap (has at.0) (sym c.set_of-implied.ensures) ∙ at.1,
        ap (has q) (sym (c.places.invariant.found at.0))
            ∙ at.2,
      )),
      λ h. (c.joined-reached.ensures q).1
          (h.0, ap (has h.0) c.set_of-implied.ensures ∙ h.1, ap (has q) (c.places.invariant.found h.0) ∙ h.2),
    )) in
    let led : (p : ℕ)
    → closed_at c.lead_on.new.self p ≡ led_on k c.joined-reached.result (closed_at c.places.closures p) =
    λ p. elim (cases_lt p c.len-count.result) [
      | inl first ↦ c.lead_on.ensures.first p first
      | inr beyond ↦ (let was = c.places.invariant.rest p beyond in
          c.lead_on.ensures.rest p beyond ∙ was ∙ sym (ap (led_on k c.joined-reached.result) was
          ∙ cond-false (has k set.empty) (set.union set.empty c.joined-reached.result) set.empty
          (set.contains-empty nat_cmp k)))
    ] in
    record {
      within = omega (arith, c.places.invariant.within);
      rest = λ p beyond. c.lead_on.ensures.rest p beyond ∙ c.places.invariant.rest p beyond;
      found = λ p. led p ∙ ap (λ more. led_on k more (closed_at c.places.closures p)) reached
          ∙ ap (led_on k (placed table (reached_by rest d.implies))) (c.places.invariant.found p)
          ∙ reach_more table k under d rest p ∙ ap (λ es. reach_at table es p) (sym all);
    }
