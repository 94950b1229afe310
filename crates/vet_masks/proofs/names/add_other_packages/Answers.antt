use Rattle.std.proofs.Common.{◌++◌, ◌∷◌, [], map, take, sym, ap, ◌∙◌}
use Rattle.std.proofs.lemmas.List.{map-append, take_more}
use Rattle.vet_masks.specs.Packages.{has_kept_slot, is_among}
use Rattle.vet_masks.proofs.Naming.{further, none-in, none-more}
use Rattle.vet_masks.proofs.names.add_other_packages.Goals as goal

pub items-preserved : goal.items-preserved
items-preserved g c =
    let of = g.T.OfPackage.package_of in
    let items = c.args.items.now in
    let i = c.items.item-index in
    let item = c.item-item.result in
    let inv = c.items.invariant in
    let more = c.in_ok-add_other.ensures.names in
    let all = c.add_other.new.names.items in
    record {
      names = (_, further _ inv.names.0 _ _ _ inv.names.1 more.1);
      others = λ name none lacks. (let before = (none-in name c.items.names.items more.0
          (sym (ap (is_among name) more.1) ∙ none)).0 in
          ap (λ xs. is_among name (map of xs)) (take_more items i item c.items-test.true
          ∙ ap (λ x. take i items ++ x ∷ []) (sym c.item-item.is))
          ∙ ap (is_among name) (map-append of (take i items) (item ∷ []))
          ∙ none-more name (of item) (map of (take i items)) all (inv.others name before lacks) none
          (λ same. ap (λ n. is_among n all) (sym c.package.ensures)
          ∙ c.in_ok-add_other.ensures.there (ap (has_kept_slot c.args.kept.now) (c.package.ensures ∙ sym same)
          ∙ lacks)));
    }
