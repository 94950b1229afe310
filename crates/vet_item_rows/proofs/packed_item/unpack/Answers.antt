use Rattle.std.proofs.Common.{◌≡◌, ◌<◌, ◌^◌, Bor, Global, List, Option, Vec, ℕ, length, map, option_map, sym, subst}
use Rattle.std.proofs.Common.{arith}
use Rattle.std.proofs.lemmas.Result.{IfOk-weaker}
use Rattle.vet_base.specs.Words.{Bytes}
use Rattle.vet_item_rows.specs.Packed.{IsUnpacked, packed}
use Rattle.vet_item_rows.proofs.ReadAs.{read_as}
use Rattle.vet_item_rows.proofs.packed_item.unpack.Goals as goal

abbrev here : Bor (List ℕ) → Bytes
here item = item.now

pub returns-in-Some : goal.returns-in-Some
returns-in-Some g c =
    let fits : length c.args.bytes.now < 2 ^ 63 = omega arith in
    let found : c.args.bytes.now ≡ packed (map here c.in-Some.items.items) =
    subst (λ (o : Option (Vec (Bor (List ℕ)) Global)).
    IsUnpacked c.args.bytes.now (option_map (λ found. map here found.items) o)) c.in-Some.is
    c.in_ok-items.ensures in
    let items = subst (λ xs. c.args.bytes.now ≡ packed (map here xs)) (sym c.as_slice.ensures.value) found in
    IfOk-weaker c.read_all.result _ _
    (λ values is. read_as g.T.PackedItem.read_bytes c.args.bytes.now (map here c.as_slice.result.now) fits items _ is)
    c.read_all.ensures
