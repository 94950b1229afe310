-- The order of packages, and what an edit leaves of it.
use Rattle.std.proofs.Common.{◌≡◌, ℕ, ◌+◌, ◌-◌, ◌<◌, ◌≤◌, Bool, true, false, cond, List, ◌∷◌, ◌++◌, map, length, get_or}
use Rattle.std.proofs.Common.{ltb, ltb-true, ltb-false, lt-ltb, le-ltb, take, drop, refl, sym, ap, subst, ◌∙◌, arith}
use Rattle.std.specs.List.{All, between, filter, insert, range_with_len}
use Rattle.std.specs.List.Sorted.{IsNonDecreasingBy, IsPartitionPoint}
use Rattle.std.specs.Ordering.{is_eq, ordering_index}
use Rattle.std.proofs.lemmas.List.{get_or-map, get_or-take, get_or-drop, length-drop, length-map, length-take}
use Rattle.std.proofs.lemmas.List.{map-append, take-map, drop-map, take-append-le, drop-append-le, take-append-drop}
use Rattle.std.proofs.lemmas.List.{length-take-le}
use Rattle.std.proofs.Math.Seq.{take-append-add, drop-append-add}
use Rattle.std.proofs.lemmas.List.Elements.{All-append, All-cons, All-take, All-drop, All-map, All-same, All-filter}
use Rattle.std.proofs.lemmas.List.Elements.{filter-append}
use Rattle.std.proofs.lemmas.List.FromFn.{length-range_with_len, get_or-range_with_len}
use Rattle.std.proofs.lemmas.List.Kept.{IsNonDecreasingBy-filter}
use Rattle.std.proofs.lemmas.List.Edits.{split_between, length-insert, length-between}
use Rattle.std.proofs.lemmas.List.Sorted.{IsNonDecreasingBy-insert}
use Rattle.vet_entries.specs.declared.facts.HeldEntry.{HeldEntry}
use Rattle.vet_entries.specs.ByPackage.{IsByPackage, IsRange, IsSlot, stand, is_at, places_of, up}
use Rattle.vet_base.proofs.ListLemmas.{filter_drops, filter_keeps}
use Rattle.vet_entries.proofs.Places.{cut_alike, filter-map, filter_front, in_range, map_range, range_around, range_cut}
use Rattle.vet_entries.proofs.Places.{up_above, up_below, up_within}
use Rattle.vet_entries.proofs.Standing.{R, same_name, stand_up, stand_new, stands_to_new}

-- ---- a package's range

front_lacks : (entries : List HeldEntry) (name : List ℕ) (order : List ℕ) (low high : ℕ)
    → IsRange entries name order low high → All (λ place. is_at entries name place ≡ false) (take low order)
front_lacks entries name order low high r k d l = ap is_eq (r.lower k d l)

back_lacks : (entries : List HeldEntry) (name : List ℕ) (order : List ℕ) (low high : ℕ)
    → IsRange entries name order low high → All (λ place. is_at entries name place ≡ false) (drop high order)
back_lacks entries name order low high r k d l = ap is_eq (r.upper k d l)

range_has : (entries : List HeldEntry) (name : List ℕ) (order : List ℕ) (low high : ℕ)
    → IsRange entries name order low high → All (λ place. is_at entries name place ≡ true) (between low high order)
range_has entries name order low high r k d l = ap is_eq (r.here k d l)

-- a package's range has its places
pub range_is_places : (entries : List HeldEntry) (name : List ℕ) (order : List ℕ) (low high : ℕ)
    → IsByPackage entries order → IsRange entries name order low high → between low high order ≡ places_of entries name
range_is_places entries name order low high b r =
    let p = is_at entries name in
    let here = between low high order in
    sym (filter_front p here (drop high order) (range_has entries name order low high r)
    (back_lacks entries name order low high r))
    ∙ sym (ap (λ zs. zs ++ filter p (here ++ drop high order))
    (filter_drops p (take low order) (front_lacks entries name order low high r)))
    ∙ sym (filter-append p (take low order) (here ++ drop high order))
    ∙ ap (filter p) (sym (split_between order low high r.ordered))
    ∙ b.same name

-- ---- where a place belongs

-- the first places or the others, up to one of the range
at_range : {B : Type 0} (part : ℕ → List ℕ → B) (order : List ℕ) (low high j : ℕ) → low ≤ high → high ≤ length order
    → part (low + j) order
    ≡ part (length (take low order) + j) (take low order ++ (between low high order ++ drop high order))
at_range part order low high j le l =
    let front : length (take low order) ≡ low = length-take-le low order (omega (arith, le, l)) in
    ap (part (low + j)) (split_between order low high le)
    ∙ ap (λ n. part (n + j) (take low order ++ (between low high order ++ drop high order))) (sym front)

cut_front : (order : List ℕ) (low high j : ℕ) → low ≤ high → high ≤ length order → j ≤ length (between low high order)
    → take (low + j) order ≡ take low order ++ take j (between low high order)
cut_front order low high j le l m =
    let here = between low high order in
    at_range take order low high j le l
    ∙ take-append-add (take low order) (here ++ drop high order) j
    ∙ ap (λ zs. take low order ++ zs) (take-append-le j here (drop high order) m)

cut_back : (order : List ℕ) (low high j : ℕ) → low ≤ high → high ≤ length order → j ≤ length (between low high order)
    → drop (low + j) order ≡ drop j (between low high order) ++ drop high order
cut_back order low high j le l m =
    let here = between low high order in
    at_range drop order low high j le l
    ∙ drop-append-add (take low order) (here ++ drop high order) j
    ∙ drop-append-le j here (drop high order) m

-- behind the lower places of the range
pub slot_is : (entries : List HeldEntry) (name : List ℕ) (place : ℕ) (order : List ℕ) (low high j : ℕ)
    → IsRange entries name order low high → j ≤ length (between low high order)
    → IsPartitionPoint (λ other. ltb other place ≡ true) (λ other. ltb other place ≡ false) (between low high order) j
    → IsSlot entries name place order (low + j)
slot_is entries name place order low high j r m point =
    let here = between low high order in
    let p = is_at entries name in
    let front = cut_front order low high j r.ordered r.inside m in
    let back = cut_back order low high j r.ordered r.inside m in
    let long = length-between order low high r.inside in
    let has = range_has entries name order low high r in
    let first : filter p (take (low + j) order) ≡ take j here =
    ap (filter p) front ∙ filter-append p (take low order) (take j here)
    ∙ ap (λ zs. zs ++ filter p (take j here))
    (filter_drops p (take low order) (front_lacks entries name order low high r))
    ∙ filter_keeps p (take j here) (All-take (λ other. p other ≡ true) j here has) in
    let second : filter p (drop (low + j) order) ≡ drop j here =
    ap (filter p) back
    ∙ filter_front p (drop j here) (drop high order) (All-drop (λ other. p other ≡ true) j here has)
    (back_lacks entries name order low high r) in
    record {
      inside = omega (arith, m, long, r.inside, r.ordered);
      front = All-same (λ other. ordering_index (stand entries name other) ≤ 1) _ _ front
          (All-append (λ other. ordering_index (stand entries name other) ≤ 1) (take low order) (take j here)
          (λ k d l. at_most_one _ 0 (ap ordering_index (r.lower k d l)) (omega arith))
          (All-take (λ other. ordering_index (stand entries name other) ≤ 1) j here
          (λ k d l. at_most_one _ 1 (ap ordering_index (r.here k d l)) (omega arith))));
      back = All-same (λ other. 1 ≤ ordering_index (stand entries name other)) _ _ back
          (All-append (λ other. 1 ≤ ordering_index (stand entries name other)) (drop j here) (drop high order)
          (All-drop (λ other. 1 ≤ ordering_index (stand entries name other)) j here
          (λ k d l. at_least_one _ 1 (ap ordering_index (r.here k d l)) (omega arith)))
          (λ k d l. at_least_one _ 2 (ap ordering_index (r.upper k d l)) (omega arith)));
      below = All-same (λ other. other < place) _ _ first
          (λ k d l. (let within : k < j = omega (arith, l, length-take j here) in rw (get_or-take j here k d within)
          (ltb-true _ place (point.0 k d (omega arith) within))));
      above = All-same (λ other. place ≤ other) _ _ second
          (λ k d l. (let within : j + k < length here = omega (arith, l, length-drop j here)
          in rw (get_or-drop j here k d) (ltb-false _ place (point.1 (j + k) d (omega arith) within))));
    }
  where
    at_most_one : (n m : ℕ) → n ≡ m → m ≤ 1 → n ≤ 1
    at_most_one n m e l = omega (arith, e, l)

    at_least_one : (n m : ℕ) → n ≡ m → 1 ≤ m → 1 ≤ n
    at_least_one n m e l = omega (arith, e, l)

-- ---- an entry put in

-- what a package's places become, around the new one
around : (entries : List HeldEntry) (at : ℕ) (held : HeldEntry) (name xs ys : List ℕ) → at ≤ length entries
    → filter (is_at (insert entries at held) name) (map (up at) xs ++ at ∷ map (up at) ys)
    ≡ map (up at) (filter (is_at entries name) xs) ++ cond (is_eq (R held.entry.«package» name))
    (at ∷ map (up at) (filter (is_at entries name) ys)) (map (up at) (filter (is_at entries name) ys))
around entries at held name xs ys le =
    let p = is_at (insert entries at held) name in
    let moved : (zs : List ℕ) → filter p (map (up at) zs) ≡ map (up at) (filter (is_at entries name) zs) =
    λ zs. filter-map p (is_at entries name) (up at) zs
    (λ k d l. ap is_eq (stand_up entries at held name (get_or zs k d) le)) in
    filter-append p (map (up at) xs) (at ∷ map (up at) ys)
    ∙ ap (λ zs. zs ++ filter p (at ∷ map (up at) ys)) (moved xs)
    ∙ ap (λ b. map (up at) (filter (is_at entries name) xs) ++ cond b (at ∷ filter p (map (up at) ys))
    (filter p (map (up at) ys))) (ap is_eq (stand_new entries at held name le))
    ∙ ap (λ zs. map (up at) (filter (is_at entries name) xs) ++ cond (is_eq (R held.entry.«package» name)) (at ∷ zs) zs)
    (moved ys)

-- the places after an entry was put in
range_up : (at n : ℕ) → at ≤ n → range_with_len 0 (n + 1) ≡ map (up at) (range_with_len 0 at) ++ at ∷ map (up at)
    (range_with_len at (n - at))
range_up at n le =
    range_around at (n - at) (n + 1) (omega (arith, le))
    ∙ ap (λ zs. zs ++ at ∷ range_with_len (at + 1) (n - at))
    (sym (map_range (up at) 0 0 at (λ k l. up_below at (0 + k) (omega (arith, l)))))
    ∙ ap (λ zs. map (up at) (range_with_len 0 at) ++ at ∷ zs)
    (sym (map_range (up at) at (at + 1) (n - at)
    (λ k l. up_above at (at + k) (omega arith) ∙ (let e : at + k + 1 ≡ at + 1 + k = omega arith in e))))

-- in front of a slot stand the package's lower places, and behind it the others
slot_cuts : (entries : List HeldEntry) (order : List ℕ) (name : List ℕ) (at slot : ℕ) → at ≤ length entries
    → IsByPackage entries order → IsSlot entries name at order slot
    → (filter (is_at entries name) (take slot order) ≡ filter (is_at entries name) (range_with_len 0 at))
    × (filter (is_at entries name) (drop slot order)
    ≡ filter (is_at entries name) (range_with_len at (length entries - at)))
slot_cuts entries order name at slot le b s =
    let p = is_at entries name in
    let t : ℕ → Bool = λ other. ltb other at in
    cut_alike t (filter p (take slot order)) (filter p (drop slot order)) (filter p (range_with_len 0 at))
    (filter p (range_with_len at (length entries - at)))
    (λ k d l. lt-ltb _ at (s.below k d l))
    (λ k d l. le-ltb _ at (s.above k d l))
    (All-filter p (λ other. t other ≡ true) (range_with_len 0 at)
    (λ k d l. (let within = in_range 0 at k d l in lt-ltb _ at (omega (arith, within.1)))))
    (All-filter p (λ other. t other ≡ false) (range_with_len at (length entries - at))
    (λ k d l. le-ltb _ at (in_range at (length entries - at) k d l).0))
    (sym (filter-append p (take slot order) (drop slot order)) ∙ ap (filter p) (take-append-drop slot order)
    ∙ b.same name
    ∙ ap (filter p) (range_cut at (length entries) le) ∙ filter-append p (range_with_len 0 at)
    (range_with_len at (length entries - at)))

-- where the package is another, what stands in front and behind together has not changed
same_places : (entries : List HeldEntry) (order : List ℕ) (held : HeldEntry) (name : List ℕ) (at slot : ℕ) (b : Bool)
    → at ≤ length entries → IsByPackage entries order → IsSlot entries held.entry.«package» at order slot
    → is_eq (R held.entry.«package» name) ≡ b
    → map (up at) (filter (is_at entries name) (take slot order)) ++ cond b
    (at ∷ map (up at) (filter (is_at entries name) (drop slot order)))
    (map (up at) (filter (is_at entries name) (drop slot order)))
    ≡ map (up at) (filter (is_at entries name) (range_with_len 0 at)) ++ cond b
    (at ∷ map (up at) (filter (is_at entries name) (range_with_len at (length entries - at))))
    (map (up at) (filter (is_at entries name) (range_with_len at (length entries - at))))
same_places entries order held name at slot true le b s e =
    let own : held.entry.«package» ≡ name = same_name held.entry.«package» name e in
    let cuts = slot_cuts entries order name at slot le b (subst (λ n. IsSlot entries n at order slot) own s) in
    λ i. map (up at) (cuts.0 i) ++ at ∷ map (up at) (cuts.1 i)
same_places entries order held name at slot false le b s e =
    let p = is_at entries name in
    sym (map-append (up at) (filter p (take slot order)) (filter p (drop slot order)))
    ∙ ap (map (up at)) (sym (filter-append p (take slot order) (drop slot order))
    ∙ ap (filter p) (take-append-drop slot order) ∙ b.same name
    ∙ ap (filter p) (range_cut at (length entries) le) ∙ filter-append p (range_with_len 0 at)
    (range_with_len at (length entries - at)))
    ∙ map-append (up at) (filter p (range_with_len 0 at)) (filter p (range_with_len at (length entries - at)))

insert_up : (order : List ℕ) (slot at : ℕ) → insert (map (up at) order) slot at ≡ map (up at) (take slot order) ++ at ∷
    map (up at) (drop slot order)
insert_up order slot at = λ i. take-map (up at) slot order i ++ at ∷ drop-map (up at) slot order i

rises : (entries : List HeldEntry) (order : List ℕ) (held : HeldEntry) (at slot : ℕ) → at ≤ length entries
    → IsByPackage entries order → IsSlot entries held.entry.«package» at order slot → (name : List ℕ)
    → IsNonDecreasingBy (λ place. ordering_index (stand (insert entries at held) name place))
    (insert (map (up at) order) slot at)
rises entries order held at slot le b s name =
    let n : ℕ → ℕ = λ place. ordering_index (stand (insert entries at held) name place) in
    let moved : (k d : ℕ) → k < length order
    → n (get_or (map (up at) order) k d) ≡ ordering_index (stand entries name (get_or order k 0)) =
    λ k d l. ap n (get_or-map (up at) order k 0 d l)
    ∙ ap ordering_index (stand_up entries at held name (get_or order k 0) le) in
    let new : n at ≡ ordering_index (R held.entry.«package» name) =
    ap ordering_index (stand_new entries at held name le) in
    let long = length-map order (up at) in
    IsNonDecreasingBy-insert n (map (up at) order) slot at
    (λ i j d ij l. omega (
      arith,
      moved i d (omega (arith, ij, l, long)),
      moved j d (omega (arith, l, long)),
      b.rising name i j 0 ij (omega (arith, l, long)),
    ))
    (omega (arith, s.inside, long))
    (λ k d l. (let within : k < length order = omega (arith, l, s.inside) in
    let front = rw (get_or-take slot order k 0 l) at (s.front k 0 (omega (arith, l, length-take slot order, s.inside)))
    in
    omega (arith, new, moved k d within, (stands_to_new entries held.entry.«package» name (get_or order k 0)).0 front)))
    (λ k d l m. (let within : k < length order = omega (arith, m, long) in
    let step : slot + (k - slot) ≡ k = omega (arith, l) in
    let back = rw (get_or-drop slot order (k - slot) 0, step) at
    (s.back (k - slot) 0 (omega (arith, l, within, length-drop slot order))) in
    omega (arith, new, moved k d within, (stands_to_new entries held.entry.«package» name (get_or order k 0)).1 back)))

-- the order after an entry was put in
pub inserted : (entries : List HeldEntry) (order : List ℕ) (held : HeldEntry) (at slot : ℕ) → at ≤ length entries
    → IsByPackage entries order → IsSlot entries held.entry.«package» at order slot
    → IsByPackage (insert entries at held) (insert (map (up at) order) slot at)
inserted entries order held at slot le b s =
    let more = length-insert entries at held le in
    let long = length-map order (up at) in
    record {
      rising = rises entries order held at slot le b s;
      same = λ name. ap (filter (is_at (insert entries at held) name)) (insert_up order slot at)
          ∙ around entries at held name (take slot order) (drop slot order) le
          ∙ same_places entries order held name at slot _ le b s refl
          ∙ sym (around entries at held name (range_with_len 0 at) (range_with_len at (length entries - at)) le)
          ∙ ap (filter (is_at (insert entries at held) name))
          (sym (range_up at (length entries) le) ∙ ap (range_with_len 0) (sym more));
      within = All-same (λ place. place < length (insert entries at held)) _ _ (insert_up order slot at)
          (All-append (λ place. place < length (insert entries at held)) (map (up at) (take slot order))
          (at ∷ map (up at) (drop slot order))
          (All-map (λ place. place < length (insert entries at held)) (up at) (take slot order)
          (λ k d l. (let in' = All-take (λ place. place < length entries) slot order b.within k d l
          in omega (arith, more, up_within at _ (length entries) in'))))
          (All-cons (λ place. place < length (insert entries at held)) at (map (up at) (drop slot order))
          (omega (arith, more, le))
          (All-map (λ place. place < length (insert entries at held)) (up at) (drop slot order)
          (λ k d l. (let in' = All-drop (λ place. place < length entries) slot order b.within k d l
          in omega (arith, more, up_within at _ (length entries) in'))))));
      long = length-insert (map (up at) order) slot at (omega (arith, s.inside, long))
          ∙ (let e : length (map (up at) order) + 1 ≡ length (insert entries at held) =
          omega (arith, long, more, b.long) in e);
    }

pub places_rise : (entries : List HeldEntry) (name : List ℕ)
    → IsNonDecreasingBy (λ place. place) (places_of entries name)
places_rise entries name =
    IsNonDecreasingBy-filter (λ place. place) (is_at entries name) (range_with_len 0 (length entries))
    (λ i j d le l. (let n = length-range_with_len 0 (length entries) in
    let first = get_or-range_with_len 0 (length entries) i d (omega (arith, le, l, n)) in
    let second = get_or-range_with_len 0 (length entries) j d (omega (arith, l, n)) in
    omega (arith, first, second, le)))
