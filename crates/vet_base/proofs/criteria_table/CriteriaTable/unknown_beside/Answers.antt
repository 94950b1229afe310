use Rattle.std.proofs.Common.{◌≡◌, ◌||◌, [], true, false, ap, sym, ◌∙◌, get_or, below_more}
use Rattle.std.specs.FinMap as map
use Rattle.std.specs.Ordering.{eq_by_cmp}
use Rattle.std.specs.Cmp.Lexicographic.{texts_ties}
use Rattle.std.proofs.lemmas.Bool.{or_left, or_right, or_from, not-false, not-true}
use Rattle.vet_base.specs.Names.{members}
use Rattle.vet_base.proofs.Rising.{R}
use Rattle.vet_base.proofs.Changes.{key-insert}
use Rattle.vet_base.proofs.Walks.{first_lacked, none_lacked, walked}
use Rattle.vet_base.proofs.criteria_table.CriteriaTable.unknown_beside.Goals as goal
use Rattle.vet_base.proofs.criteria_table.CriteriaTable.unknown_beside.Goals.{else-ne-via-then-ne+else-not-has}
use Rattle.vet_base.proofs.criteria_table.CriteriaTable.unknown_beside.Goals.{else-ne-via-else-ne}

pub returns-then-not-has : goal.returns-then-not-has
returns-then-not-has c =
    let table = c.args.self.now in
    let own = c.args.criterion.now in
    let x = c.name-item.result in
    let other : eq_by_cmp R x own.name ≡ false =
    sym (texts_ties x own.name) ∙ not-true _ (sym c.ne.ensures ∙ c.if-ne.true) in
    let none : map.contains_key (map.insert table own.name own) x ≡ false =
    key-insert table own x ∙ or_from _ _ other (sym c.has.ensures ∙ c.if-not-has.true) in
    sym (first_lacked (map.contains_key (map.insert table own.name own)) _ _ _ _ c.as_slice-name-items.ensures.members
    c.loop-name-test.true c.name-item.is c.loop-name.invariant none)

pub loop-name-preserved : goal.loop-name-preserved
loop-name-preserved c =
    let table = c.args.self.now in
    let own = c.args.criterion.now in
    let x = c.name-item.result in
    let i = c.loop-name.name-index in
    let at = walked (members own.implies) _ i x c.as_slice-name-items.ensures.members c.loop-name-test.true
    c.name-item.is in
    let held : (eq_by_cmp R x own.name || map.contains_key table x) ≡ true = elim c.else-ne.branch [
      | else-ne-via-then-ne+else-not-has w ↦
          or_right (eq_by_cmp R x own.name) (map.contains_key table x) (sym w.has.ensures ∙ w.if-not-has.false)
      | else-ne-via-else-ne w ↦
          or_left (eq_by_cmp R x own.name) (map.contains_key table x)
          (sym (texts_ties x own.name) ∙ not-false _ (sym c.ne.ensures ∙ w.if-ne.false))
    ] in
    let here : map.contains_key (map.insert table own.name own) (get_or (members own.implies) i []) ≡ true =
    ap (map.contains_key (map.insert table own.name own)) at.1 ∙ key-insert table own x ∙ held in
    below_more (λ k. map.contains_key (map.insert table own.name own) (get_or (members own.implies) k []) ≡ true) i
    c.loop-name.invariant here

pub returns : goal.returns
returns c =
    let own = c.args.criterion.now in
    sym (none_lacked (map.contains_key (map.insert c.args.self.now own.name own)) _ _ _
    c.as_slice-name-items.ensures.members c.loop-name-test.false c.loop-name.invariant)
