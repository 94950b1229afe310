use Rattle.std.proofs.Common.{sym, ap, subst, ◌∙◌, true, ◌≡◌}
use Rattle.std.specs.Fmt.{decimal}
use Rattle.vet_item_rows.specs.Packed.{is_length}
use Rattle.vet_item_rows.proofs.Packing.{written_again, written_is_length}
use Rattle.vet_item_rows.proofs.packed.read_length.Goals as goal

pub returns-then-is_length-clause-some : goal.returns-then-is_length-clause-some
returns-then-is_length-clause-some c =
    ap decimal c.value_of.ensures
    ∙ written_again c.args.digits.now c.requires (sym c.is_length.ensures ∙ c.if-is_length.true)

pub returns-else-is_length-clause-none : goal.returns-else-is_length-clause-none
returns-else-is_length-clause-none c _ n small e =
    let is : is_length c.args.digits.now ≡ true = subst (λ ds. is_length ds ≡ true) e (written_is_length n small) in
    cc (is, c.is_length.ensures, c.if-is_length.false)
