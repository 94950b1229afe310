use Rattle.std.proofs.Common.{rules, ◌≡◌, ◌||◌, ℕ, cond, length, Some, sym, ap, ◌∙◌}
use Rattle.std.specs.BTreeMap.{get}
use Rattle.std.specs.Cmp.{nat_cmp_total}
use Rattle.std.specs.Cmp.Lexicographic.{slice_cmp}
use Rattle.std.specs.FinSet as set
use Rattle.std.specs.Ordering.{nat_cmp, eq_by_cmp}
use Rattle.std.proofs.lemmas.List.{get_or_default}
use Rattle.vet_base.specs.CriteriaSet.{has}
use Rattle.vet_entries.specs.declared.condemned.Violation.{Violation}
use Rattle.vet_entries.proofs.Judging.{placed_more, set_condemns}
use Rattle.vet_entries.proofs.judge.merge.Goals as goal

pub returns-in-Some-clause-condemns : goal.returns-in-Some-clause-condemns
returns-in-Some-clause-condemns c =
    let xs = c.args.merged.now.items in
    let p = c.in-Some.place in
    let r = c.args.violation.now.requirement in
    let more = c.args.violation.now.criteria in
    let found = sym c.get.ensures.value ∙ sym c.copied.ensures ∙ c.in-Some.is in
    let placed = c.requires r p found in
    let y : Violation = record { requirement = c.index_mut.result.now.requirement; criteria = c.union.result } in
    set_condemns xs p y r more placed.0 (placed.1 y)
    (ap (λ (w : Violation). w.requirement) c.index_mut.ensures.value ∙ placed.1 c.index_mut.result.now)
    (λ k. ap (has k) c.union.ensures ∙ set.contains-union nat_cmp_total c.index.result.now.criteria more k
    ∙ ap (λ (w : Violation). has k w.criteria || has k more)
    (c.index.ensures ∙ get_or_default xs p c.index.result.now y placed.0))

pub returns-clause-placed : goal.returns-clause-placed
returns-clause-placed c =
    let first = c.in_ok-clone.ensures.cases in
    let second = c.in_ok-clone-2.ensures.cases in
    let count : c.len.result ≡ length c.args.merged.now.items = search rules in
    let updates = c.in_ok-insert.ensures.updates.0 in
    rw c.in_ok-push.ensures.items
    (placed_more c.args.merged.now.items (get (slice_cmp nat_cmp) c.args.places.now)
    (get (slice_cmp nat_cmp) c.insert.new.self) c.in_ok-clone.field-0 _ c.requires
    (λ q. updates q ∙ ap (λ (n : ℕ). cond (eq_by_cmp (slice_cmp nat_cmp) c.in_ok-clone.field-0 q) (Some n)
    (get (slice_cmp nat_cmp) c.args.places.now q)) count)
    (second ∙ sym first))
