use Rattle.std.proofs.Common.{rules, ◌≡◌, ◌||◌, true, cond, Some, is_some, option_map, sym, ap, ◌∙◌}
use Rattle.std.specs.BTreeMap.{get}
use Rattle.vet_entries.specs.Entry.{entry_eq}
use Rattle.vet_entries.specs.EntryOrder.{entry_cmp}
use Rattle.vet_entries.specs.EntryOrderLaws.{entries_tie}
use Rattle.vet_entries.specs.EntryLaws.{entry_eq-Decides}
use Rattle.vet_entries.proofs.ImportMarks.{mark_put, mark_none}
use Rattle.vet_entries.proofs.import.see_one.Goals as goal

pub returns-in-Some-clause-seen : goal.returns-in-Some-clause-seen
returns-in-Some-clause-seen c q =
    let said = c.of.result in
    let found : is_some (get entry_cmp c.args.seen.now said) ≡ true = ap is_some (sym c.in-Some.ensures.value) in
    ((c.get_mut.follows.holds true).3 (search rules)).0 q
    ∙ ap (λ b. cond b (Some true) (get entry_cmp c.args.seen.now q)) (sym (entries_tie said q))
    ∙ mark_put (entry_eq said q) (get entry_cmp c.args.seen.now q)
    (λ same. ap (λ e. is_some (get entry_cmp c.args.seen.now e)) (sym ((entry_eq-Decides said q).0 same)) ∙ found)
    ∙ ap (λ e. option_map (λ before. before || entry_eq e q) (get entry_cmp c.args.seen.now q)) c.of.ensures

pub returns-in-None-clause-seen : goal.returns-in-None-clause-seen
returns-in-None-clause-seen c q =
    let said = c.of.result in
    ap (λ m. get entry_cmp m q) c.get_mut.follows.holds-at-none
    ∙ mark_none (entry_eq said q) (get entry_cmp c.args.seen.now q)
    (λ same. ap (λ e. get entry_cmp c.args.seen.now e) (sym ((entry_eq-Decides said q).0 same))
    ∙ sym c.in-None.ensures.value)
    ∙ ap (λ e. option_map (λ before. before || entry_eq e q) (get entry_cmp c.args.seen.now q)) c.of.ensures
