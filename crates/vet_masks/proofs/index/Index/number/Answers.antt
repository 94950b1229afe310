use Rattle.std.proofs.Common.{rules, ◌≡◌, ◌+◌, Some, None, cond, length, sym, ap, ◌∙◌, subst, arith}
use Rattle.std.proofs.lemmas.List.{length_push}
use Rattle.std.specs.BTreeMap.{get, is_at}
use Rattle.vet_base.specs.VersionOrder.{version_cmp}
use Rattle.vet_graph.specs.Links.{Knows}
use Rattle.vet_masks.specs.Index.{IsNumbering}
use Rattle.vet_masks.proofs.Indexing.{Keeps-next, IsNumbering-next}
use Rattle.vet_masks.proofs.index.Index.number.Goals as goal

pub returns-clause-keeps : goal.returns-clause-keeps
returns-clause-keeps c =
    let v = c.args.version.now in
    let n = c.len-number.result in
    let old = get version_cmp c.args.self.now.numbers in
    let none : old v ≡ None = sym c.get.ensures.value ∙ sym c.copied.ensures ∙ c.in_default.is in
    let key : c.in_ok-clone.field-0 ≡ v = search rules in
    let knows : Knows v n old (get version_cmp c.insert.new.self) = λ w. c.in_ok-insert.ensures.updates.0 w
    ∙ ap (λ k. cond (is_at (version_cmp k) w) (Some n) (old w)) key in
    Keeps-next old (get version_cmp c.insert.new.self) v n none knows

pub returns-clause-numbering : goal.returns-clause-numbering
returns-clause-numbering c =
    let v = c.args.version.now in
    let n = c.len-number.result in
    let old = get version_cmp c.args.self.now.numbers in
    let none : old v ≡ None = sym c.get.ensures.value ∙ sym c.copied.ensures ∙ c.in_default.is in
    let key : c.in_ok-clone.field-0 ≡ v = search rules in
    let knows : Knows v n old (get version_cmp c.insert.new.self) = λ w. c.in_ok-insert.ensures.updates.0 w
    ∙ ap (λ k. cond (is_at (version_cmp k) w) (Some n) (old w)) key in
    let many : length c.args.self.now.after.items ≡ n = omega (arith, c.len-number.ensures, c.args.self.now.after.ok) in
    let more : n + 1 ≡ length c.push.new.self.items = omega (
      arith,
      many,
      ap length c.in_ok-push.ensures.items,
      length_push c.args.self.now.after.items c.new.result,
    ) in
    subst (IsNumbering (get version_cmp c.insert.new.self)) more
    (IsNumbering-next old (get version_cmp c.insert.new.self) v n none knows (subst (IsNumbering old) many c.requires))
