use Rattle.std.proofs.Common.{◌∙◌, ap, map, subst, sym}
use Rattle.vet_entries.specs.Numbered.{AreByNumber}
use Rattle.vet_item_rows.specs.DayRows.{entry_of_group}
use Rattle.vet_item_rows.proofs.DaysRead.{all_back, dated, dated_by_number, dated_each}
use Rattle.vet_item_rows.proofs.PeersMade.{by_key}
use Rattle.vet_item_rows.proofs.read.days.with_last_days.Goals as goal

pub gather-requires : goal.gather-requires
gather-requires c = by_key c.args.entries.items c.requires

pub returns-clause-by_number : goal.returns-clause-by_number
returns-clause-by_number c =
    subst AreByNumber
    (sym (c.in_ok-dated.ensures ∙ ap (map entry_of_group) c.in_ok-groups.ensures
    ∙ dated_each c.args.days.items c.args.entries.items))
    (dated_by_number c.args.days.items c.args.entries.items c.requires)

pub returns-clause-back : goal.returns-clause-back
returns-clause-back c held up is same =
    c.in_ok-dated.ensures ∙ ap (map entry_of_group) c.in_ok-groups.ensures
    ∙ dated_each c.args.days.items c.args.entries.items ∙ ap (map (dated c.args.days.items)) is
    ∙ all_back held up c.args.days.items same
