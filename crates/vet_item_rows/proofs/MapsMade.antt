-- Criteria-maps, made of the items of their columns.
use Rattle.std.proofs.Common.{◌≡◌, List, [], ◌∷◌, ◌∙◌, Less, map, refl, sym, ap}
use Rattle.std.specs.FinMap as table
use Rattle.std.specs.List.{All}
use Rattle.std.proofs.lemmas.List.Elements.{All-cons, All-head, All-nil, All-tail}
use Rattle.std.proofs.lemmas.List.Kept.{AllPairs-cons}
use Rattle.vet_base.specs.Keyed.{IsByKey, all_set}
use Rattle.vet_base.specs.Name.{read_name}
use Rattle.vet_base.specs.Names.{IsRising, NameSet}
use Rattle.vet_base.specs.Words.{Bytes, Name}
use Rattle.vet_base.proofs.ItemLemmas.{pairs_head, pairs_none, pairs_tail}
use Rattle.vet_base.proofs.Rising.{R, rising_entries}
use Rattle.vet_entries.specs.CriteriaMap.{NamesByName, by_name, mapped_name}
use Rattle.vet_entries.specs.declared.criteria_map.MappedCriterion.{MappedCriterion}
use Rattle.vet_entries.proofs.SetInOrder.{set_in_order}
use Rattle.vet_item_rows.specs.Columns.{packed_map}
use Rattle.vet_item_rows.specs.PackedItems.{as_text}
use Rattle.vet_item_rows.specs.ReadFacts.{IsCriteriaMap, IsMapped, criteria_map_column, mapped_criterion}
use Rattle.vet_item_rows.specs.ReadMaps.{AreMapItems, IsMapItem, map_column, map_item}
use Rattle.vet_item_rows.specs.declared.read.gathered.WithKey.{WithKey}

abbrev here : Name → Bytes
here n = n

abbrev filed : Name × NameSet → WithKey Name NameSet
filed e = record { key = e.0; item = e.1 }

-- the items of a map, as they are filed in its column
abbrev pub filed_map : NamesByName → List (WithKey Name NameSet)
filed_map m = map filed (table.entries m)

items_are : (es : List (Name × NameSet)) → map (map_item here) (map filed es) ≡ es
items_are [] = refl
items_are (e ∷ es) = ap (λ rest. e ∷ rest) (items_are es)

pub map_column_is : (m : NamesByName) → criteria_map_column m ≡ map_column here (filed_map m)
map_column_is m = ap packed_map (sym (items_are (table.entries m)))

each_can : (es : List (Name × NameSet)) → All IsMapped es
    → All (IsMapItem here (as_text read_name)) (map filed es)
each_can [] h = All-nil (IsMapItem here (as_text read_name))
each_can (e ∷ es) h =
    All-cons (IsMapItem here (as_text read_name)) (filed e) (map filed es) (All-head IsMapped e es h)
    (each_can es (All-tail IsMapped e es h))

pub map_items_can : (m : NamesByName) → IsCriteriaMap m → AreMapItems here (as_text read_name) (filed_map m)
map_items_can m can = each_can (table.entries m) can

-- ---- the map of them

named : (es : List (Name × NameSet)) → by_name (map mapped_criterion (map filed es)) ≡ es
named [] = refl
named (e ∷ es) = ap (λ rest. e ∷ rest) (named es)

below : (n : Name) (es : List (Name × NameSet)) → All (λ k. R n k ≡ Less) (map (λ (e : Name × NameSet). e.0) es)
    → All (λ (x : MappedCriterion). R n x.name ≡ Less) (map mapped_criterion (map filed es))
below n [] h = All-nil (λ (x : MappedCriterion). R n x.name ≡ Less)
below n (e ∷ es) h =
    All-cons (λ (x : MappedCriterion). R n x.name ≡ Less) (mapped_criterion (filed e))
    (map mapped_criterion (map filed es))
    (All-head (λ k. R n k ≡ Less) e.0 (map (λ (d : Name × NameSet). d.0) es) h)
    (below n es (All-tail (λ k. R n k ≡ Less) e.0 (map (λ (d : Name × NameSet). d.0) es) h))

rises : (es : List (Name × NameSet)) → IsRising (map (λ (e : Name × NameSet). e.0) es)
    → IsByKey R mapped_name (map mapped_criterion (map filed es))
rises [] up = pairs_none (λ (a b : MappedCriterion). R a.name b.name ≡ Less)
rises (e ∷ es) up =
    AllPairs-cons (λ (a b : MappedCriterion). R a.name b.name ≡ Less) (mapped_criterion (filed e))
    (map mapped_criterion (map filed es))
    (below e.0 es (pairs_head (λ a b. R a b ≡ Less) e.0 (map (λ (d : Name × NameSet). d.0) es) up))
    (rises es (pairs_tail (λ a b. R a b ≡ Less) e.0 (map (λ (d : Name × NameSet). d.0) es) up))

pub map_is : (m : NamesByName) (items : List (WithKey Name NameSet)) (criteria : List MappedCriterion)
    → items ≡ filed_map m → criteria ≡ map mapped_criterion items
    → table.from_sorted {R = R} (by_name (all_set R mapped_name [] criteria)) ≡ m
map_is m items criteria same made =
    let es = table.entries m in
    let are : criteria ≡ map mapped_criterion (map filed es) = made ∙ ap (map mapped_criterion) same in
    let sorted = set_in_order R mapped_name (map mapped_criterion (map filed es))
    (rises es (rising_entries es (table.entries_sorted m))) in
    let all : by_name (all_set R mapped_name [] criteria) ≡ es =
    ap (λ xs. by_name (all_set R mapped_name [] xs)) are ∙ ap by_name sorted ∙ named es in
    ap (λ (ds : List (Name × NameSet)). table.from_sorted {R = R} ds) all
    ∙ table.same_entries_map (table.from_sorted {R = R} es) m (table.entries-from_sorted R es (table.entries_sorted m))
