use Rattle.std.proofs.Common.{◌≡◌, ◌<◌, ◌∷◌, ◌++◌, [], ℕ, ◌+◌, Bool, true, false, cond, not, List, length, map}
use Rattle.std.proofs.Common.{Option, Some, None, option_map, filter, take, get_or, rules, refl, ap, subst, sym, ◌∙◌}
use Rattle.std.specs.Bool.{beq}
use Rattle.std.proofs.lemmas.List.{append_assoc, append-nil, get_or-map, length-map, map-append, take_more}
use Rattle.std.proofs.lemmas.List.Elements.{filter-append}
use Rattle.vet_entries.specs.ByPackage.{held_last_number}
use Rattle.vet_base.specs.Day.{DayValue, day_number}
use Rattle.vet_entries.specs.Kind.{is_over, last_day_of}
use Rattle.vet_entries.specs.declared.facts.HeldEntry.{HeldEntry}
use Rattle.vet_register.specs.Touches.{held_package, is_past, lapses_between}
use Rattle.vet_register.proofs.touching.push_of_lapsing.Goals.{then-is_past+in_ok-clone+in_ok-push, else-is_past}
use Rattle.vet_register.proofs.touching.push_of_lapsing.Goals as goal

-- the packages of those that are kept, with one more entry that is kept or not
packages_more : (p : HeldEntry → Bool) (xs : List HeldEntry) (i : ℕ) (x : HeldEntry) (b : Bool)
    → i < length xs → x ≡ get_or xs i x → p x ≡ b
    → map held_package (filter p (take (i + 1) xs))
    ≡ map held_package (filter p (take i xs)) ++ map held_package (cond b (x ∷ []) [])
packages_more p xs i x b within at is =
    let more : take (i + 1) xs ≡ take i xs ++ x ∷ [] =
    take_more xs i x within ∙ ap (λ y. take i xs ++ y ∷ []) (sym at) in
    ap (λ ys. map held_package (filter p ys)) more
    ∙ ap (map held_package) (filter-append p (take i xs) (x ∷ []))
    ∙ map-append held_package (filter p (take i xs)) (filter p (x ∷ []))
    ∙ ap (λ c. map held_package (filter p (take i xs)) ++ map held_package (cond c (x ∷ []) [])) is

within : (c : goal.Joined-is_past) → c.loop-place.place < length c.args.entries.now
within c =
    subst (λ n. c.loop-place.place < n) (ap length c.requires ∙ length-map c.args.entries.now held_last_number)
    c.loop-place-test.true

-- a last day is over if its number is past
over_is_past : (last day : Option DayValue)
    → is_over last day ≡ is_past (option_map day_number last) (option_map day_number day)
over_is_past None day = refl
over_is_past (Some last) None = refl
over_is_past (Some last) (Some day) = refl

-- the entry here lapses as the number of its last day does
judged : (c : goal.Joined-is_past) (b : Bool) → not (beq c.is_past.result c.is_past-in-loop-place.result) ≡ b
    → lapses_between c.args.before c.args.after c.index-entries-place.result ≡ b
judged c b is =
    let held = c.index-entries-place.result in
    let last = last_day_of held.entry.kind in
    let number = get_or c.args.last_days.now c.loop-place.place None in
    let same : number ≡ option_map day_number last =
    ap (λ days. get_or days c.loop-place.place None) c.requires
    ∙ get_or-map held_last_number c.args.entries.now c.loop-place.place held None (within c)
    ∙ ap held_last_number (sym c.index-entries-place.is) in
    let before : is_over last c.args.before ≡ c.is_past.result =
    over_is_past last c.args.before ∙ ap (λ n. is_past n (option_map day_number c.args.before)) (sym same)
    ∙ ap (is_past number) (sym c.number_of-first.ensures) ∙ sym c.is_past.ensures in
    let after : is_over last c.args.after ≡ c.is_past-in-loop-place.result =
    over_is_past last c.args.after ∙ ap (λ n. is_past n (option_map day_number c.args.after)) (sym same)
    ∙ ap (is_past number) (sym c.number_of-second.ensures) ∙ sym c.is_past-in-loop-place.ensures in
    ap (λ over. not (beq over (is_over last c.args.after))) before
    ∙ ap (λ over. not (beq c.is_past.result over)) after ∙ is

pub loop-place-preserved : goal.loop-place-preserved
loop-place-preserved c =
    let entries = c.args.entries.now in
    let names = c.args.names.now.items in
    let i = c.loop-place.place in
    let held = c.index-entries-place.result in
    let lapses = lapses_between c.args.before c.args.after in
    elim c.if-is_past.branch [
      | then-is_past+in_ok-clone+in_ok-push w ↦
          let before = map held_package (filter lapses (take i entries)) in
          let same : w.in_ok-clone.field-0 ≡ held_package held = search rules in
          ap (λ v. v.items) w.names-is ∙ w.in_ok-push.ensures.items
          ∙ ap (λ ys. ys ++ w.in_ok-clone.field-0 ∷ []) c.loop-place.invariant
          ∙ append_assoc names before (w.in_ok-clone.field-0 ∷ [])
          ∙ ap (λ name. names ++ (before ++ name ∷ [])) same
          ∙ ap (λ ys. names ++ ys) (sym (packages_more lapses entries i held true (within c) c.index-entries-place.is
          (judged c true w.if-is_past.true)))
      | else-is_past w ↦
          ap (λ v. v.items) w.names-is ∙ c.loop-place.invariant
          ∙ ap (λ ys. names ++ ys) (sym (packages_more lapses entries i held false (within c) c.index-entries-place.is
          (judged c false w.if-is_past.false)
          ∙ append-nil (map held_package (filter lapses (take i entries)))))
    ]
