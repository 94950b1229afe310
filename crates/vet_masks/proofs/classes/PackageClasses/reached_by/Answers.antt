use Rattle.std.proofs.Common.{◌≡◌, ◌&&◌, None, false, get_or, sym, ap, ◌∙◌}
use Rattle.std.specs.FinSet as set
use Rattle.std.specs.Ordering.{nat_cmp}
use Rattle.std.proofs.lemmas.List.{get_or_default}
use Rattle.vet_base.specs.CriteriaSet.{has}
use Rattle.vet_masks.specs.Classes.{held_at, is_wanted}
use Rattle.vet_masks.specs.Rules.{rule_of}
use Rattle.vet_masks.proofs.classes.PackageClasses.reached_by.Goals as goal

pub returns : goal.returns
returns c q =
    let p = c.args.self.now in
    let numbers = p.exempt.numbers.items in
    let n = c.args.number in
    let exempt : get_or numbers n None ≡ c.index-exempt.result.now =
    get_or_default numbers n None c.index-exempt.result.now c.requires.exempt ∙ sym c.index-exempt.ensures in
    let unwanted : is_wanted c.args.ends_reviewed (rule_of c.args.place) (get_or numbers n None) ≡ false =
    (λ i. is_wanted c.args.ends_reviewed ((sym c.of.ensures) i) (exempt i)) ∙ sym c.is_wanted.ensures
    ∙ c.if-is_wanted.false in
    ap (has q) c.empty.ensures ∙ set.contains-empty nat_cmp q
    ∙ sym (ap (λ b. b && has q (held_at p.clean.items c.args.place n)) unwanted)
