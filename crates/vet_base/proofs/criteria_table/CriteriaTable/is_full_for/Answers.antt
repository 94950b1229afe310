use Rattle.std.proofs.Common.{◌≡◌, ◌&&◌, not, true, nat_le, length, sym, ap, ◌∙◌}
use Rattle.std.specs.FinMap as map
use Rattle.vet_base.specs.declared.limits.TheConstants.{MOST_CRITERIA}
use Rattle.vet_base.proofs.Tables.{len-keys}
use Rattle.vet_base.proofs.criteria_table.CriteriaTable.is_full_for.Goals as goal

pub returns-then-not-has : goal.returns-then-not-has
returns-then-not-has c =
    let table = c.args.self.now in
    let count : length c.names.result.now ≡ map.len table = ap length c.names.ensures.names ∙ sym (len-keys table) in
    let new : not (map.contains_key table c.args.name.now) ≡ true = ap not (sym c.has.ensures ∙ c.if-not-has.true) in
    ap (nat_le MOST_CRITERIA) count ∙ sym (ap (λ b. b && nat_le MOST_CRITERIA (map.len table)) new)
