use Rattle.std.proofs.Common.{◌≡◌, ◌==◌, ◌++◌, ◌∷◌, ◌∙◌, ◌<◌, ◌^◌, Bool, Bor, List, ℕ, [], length, map, sym, ap, subst}
use Rattle.std.proofs.Common.{refl, false, arith}
use Rattle.std.proofs.lemmas.Bool.Decides.{nat_tests}
use Rattle.std.proofs.lemmas.List.{map-append}
use Rattle.vet_base.specs.Words.{Bytes}
use Rattle.vet_item_rows.specs.Packed.{packed}
use Rattle.vet_item_rows.proofs.PackedLists.{no_list, one_more}
use Rattle.vet_item_rows.proofs.packed.read_items.Goals as goal

abbrev here : Bor (List ℕ) → Bytes
here item = item.now

some : (b : Bool) (n : ℕ) → b ≡ (n == 0) → b ≡ false → 0 < n
some b n is off = grind (arith, nat_tests)

pub items-preserved : goal.items-preserved
items-preserved c =
    subst (λ (items : List Bytes). c.args.bytes.now ≡ packed items ++ c.in-Some.front.rest.now)
    (sym (ap (map here) c.in_ok-push.ensures.items ∙ map-append here c.items.items.items (c.in-Some.front.item ∷ [])))
    (one_more c.args.bytes.now c.items.rest.now c.in-Some.front.item.now c.in-Some.front.rest.now
    (map here c.items.items.items) c.items.invariant c.in-Some.ensures.some)

pub returns-then-not-is_empty : goal.returns-then-not-is_empty
returns-then-not-is_empty c others same =
    let fits : length c.args.bytes.now < 2 ^ 63 = omega arith in
    no_list (map here c.items.items.items) others c.items.rest.now
    (subst (λ (bs : Bytes). length bs < 2 ^ 63) c.items.invariant fits)
    (c.in_default.ensures.none refl)
    (some c.is_empty.result (length c.items.rest.now) c.is_empty.ensures c.if-not-is_empty.true)
    (sym c.items.invariant ∙ same)
