-- How a changed table is kept, and what its verdicts say.
use Rattle.std.proofs.Common.{◌≡◌, ℕ, zero, suc, ◌+◌, ◌<◌, Bool, true, false, ◌&&◌, not, nat_le, List, [], ◌∷◌, length}
use Rattle.std.proofs.Common.{get_or, set as setn, IfErr, Result, Ok, Err, OnOk, OnErr, Less, refl, sym, ap, ◌∙◌, arith}
use Rattle.std.proofs.Common.{inl, inr}
use Rattle.std.specs.List.{insert, remove}
use Rattle.std.specs.FinMap as map
use Rattle.std.proofs.lemmas.Bool.{leb-false, false≢true}
use Rattle.std.proofs.lemmas.List.Edits.{length-remove}
use Rattle.std.proofs.lemmas.List.Quantifiers.{all_pairs_remove}
use Rattle.vet_base.specs.declared.limits.TheConstants.{MOST_CRITERIA}
use Rattle.vet_base.specs.declared.criterion.Criterion.{Criterion}
use Rattle.vet_base.specs.declared.refusal.Refusal.{Refusal}
use Rattle.vet_base.specs.declared.refusal.Refusal.TheVariants.{BuiltInCriterion, UnknownCriterion, CriterionInUse}
use Rattle.vet_base.specs.declared.refusal.Refusal.TheVariants.{TooManyCriteria}
use Rattle.vet_base.specs.Names.{IsRising}
use Rattle.vet_base.specs.Criteria.{Criteria}
use Rattle.vet_base.specs.CriteriaChanges.{is_built_in, is_full_for, is_implied, remove_verdict, set_limits}
use Rattle.vet_base.specs.CriteriaChanges.{set_references, set_rules, set_verdict, unknown_beside}
use Rattle.vet_base.specs.Definitions.{by_name, IsKept}
use Rattle.vet_base.proofs.Rising.{R, Lacks, IsRising-insert}
use Rattle.vet_base.specs.Gives.{Answers, Refuses, Told, refuse_if, ◌>>=◌}
use Rattle.vet_base.proofs.Tables.{keys_is, len-keys, length_kept, not_held}
use Rattle.vet_base.proofs.Telling.{all_known, not_refused, then_told}
use Rattle.vet_base.proofs.Changes.{names_of, find-set, find-insert, find-remove, names-set, names-insert, names-remove}
use Rattle.vet_base.proofs.Changes.{view_insert, view_remove, MaySet}

longer : (xs : List (List ℕ)) (i : ℕ) (x : List ℕ) → length (insert xs i x) ≡ length xs + 1
longer xs zero x = omega arith
longer [] (suc i) x = refl
longer (y ∷ ys) (suc i) x = omega (arith, longer ys i x)

module _ (names : List (List ℕ)) (cs : List Criterion) (kept : IsKept names cs) (table : Criteria)
    (is : map.from_sorted {R = R} (by_name cs) ≡ table) where
  rising : IsRising (names_of cs)
  rising = rw kept.named kept.rising

  module _ (i : ℕ) (c : Criterion) (l : i < length names) (at : get_or names i [] ≡ c.name) where
    at_names : get_or (names_of cs) i [] ≡ c.name
    at_names = ap (λ ns. get_or ns i []) kept.named ∙ at

    same_names : names_of (setn cs i c) ≡ names
    same_names = names-set cs i c at_names ∙ kept.named

    pub view_after_set : map.from_sorted {R = R} (by_name (setn cs i c)) ≡ map.insert table c.name c
    view_after_set = view_insert cs (setn cs i c) table is rising (rw same_names kept.rising) c
        (λ q. find-set cs i c q rising (omega (arith, l, length_kept names cs kept)) at_names)

    pub kept_after_set : IsKept names (setn cs i c)
    kept_after_set = record { named = same_names; rising = kept.rising; few = kept.few }

  module _ (i : ℕ) (c : Criterion) (lacks : Lacks names c.name i) where
    more_names : names_of (insert cs i c) ≡ insert names i c.name
    more_names = names-insert cs i c ∙ ap (λ ns. insert ns i c.name) kept.named

    more_rising : IsRising (insert names i c.name)
    more_rising = IsRising-insert names i c.name lacks.low lacks.high kept.rising

    pub view_after_insert : map.from_sorted {R = R} (by_name (insert cs i c)) ≡ map.insert table c.name c
    view_after_insert =
        view_insert cs (insert cs i c) table is rising (rw more_names more_rising) c
        (λ q. find-insert cs i c q (rw kept.named lacks.low))

    pub kept_after_insert : (map.contains_key table c.name ≡ false → map.len table < MOST_CRITERIA)
        → IsKept (insert names i c.name) (insert cs i c)
    kept_after_insert room =
        let free : map.len table < MOST_CRITERIA = room (not_held names cs kept table c.name i is lacks) in
        let many : map.len table ≡ length names = len-keys table ∙ ap length (keys_is names cs kept table is) in
        record { named = more_names; rising = more_rising; few = omega (arith, free, many, longer names i c.name) }

  module _ (i : ℕ) (n : List ℕ) (l : i < length names) (at : get_or names i [] ≡ n) where
    fewer_names : names_of (remove cs i) ≡ remove names i
    fewer_names = names-remove cs i ∙ ap (λ ns. remove ns i) kept.named

    fewer_rising : IsRising (remove names i)
    fewer_rising = all_pairs_remove (λ a b. R a b ≡ Less) names i l kept.rising

    pub view_after_remove : map.from_sorted {R = R} (by_name (remove cs i)) ≡ map.remove table n
    view_after_remove =
        view_remove cs (remove cs i) table is rising (rw fewer_names fewer_rising) n
        (λ q. find-remove cs i n q rising (omega (arith, l, length_kept names cs kept))
        (ap (λ ns. get_or ns i []) kept.named ∙ at))

    pub kept_after_remove : IsKept (remove names i) (remove cs i)
    kept_after_remove =
        record { named = fewer_names; rising = fewer_rising; few = omega (arith, kept.few, length-remove names i l) }

-- ---- verdicts

-- a refusal is no answer of a call that is done
refuses_no_done : (e : Refusal) → Refuses {A = Unit {0}} e (Ok tt) → ⊥
refuses_no_done (UnknownCriterion n) (inl h) = cc h
refuses_no_done (UnknownCriterion n) (inr h) = cc h
refuses_no_done e h = cc h

-- where nothing refuses, none is told
pub no_verdict : (v : Told (Unit {0})) → Answers v (Ok tt) → v ≡ Ok tt
no_verdict (Ok u) h = refl
no_verdict (Err e) h = absurd (refuses_no_done e h)

-- an answer tells the verdict
pub told_verdict : (v : Told (Unit {0})) (r : Result (Unit {0}) Refusal) → Answers v r → IfErr v (λ e. Refuses e r)
told_verdict (Ok u) r h = tt
told_verdict (Err e) r h = h

room_for : (key full : Bool) → (not key && full) ≡ false → key ≡ false → full ≡ false
room_for true full h e = absurd (false≢true (sym e))
room_for false full h e = h

pub may_set : (table : Criteria) (c : Criterion) → set_verdict table c ≡ Ok tt → MaySet table c
may_set table c h =
    let limited = then_told (set_limits table c.name) (λ _. set_references table c >>= λ _. set_rules c.name) tt h in
    let referred = then_told (set_references table c) (λ _. set_rules c.name) tt limited.1 in
    let free = not_refused (is_full_for table c.name) TooManyCriteria limited.0 in
    record {
      room = λ new. leb-false MOST_CRITERIA (map.len table)
          (room_for (map.contains_key table c.name) (nat_le MOST_CRITERIA (map.len table)) free new);
      known = all_known (unknown_beside table c) referred.0;
      own = not_refused (is_built_in c.name) BuiltInCriterion referred.1;
    }

-- the verdict of each answer of a removal
module _ (table : Criteria) (n : List ℕ) where
  pub verdict_unknown : map.contains_key table n ≡ false → remove_verdict table n ≡ Err (UnknownCriterion n)
  verdict_unknown lacks = rw lacks refl

  pub verdict_used : map.contains_key table n ≡ true → is_built_in n ≡ false → is_implied table n ≡ true
      → remove_verdict table n ≡ Err CriterionInUse
  verdict_used held own used = rw (held, own, used) refl

  pub verdict_free : map.contains_key table n ≡ true → is_built_in n ≡ false → is_implied table n ≡ false
      → remove_verdict table n ≡ Ok tt
  verdict_free held own free = rw (held, own, free) refl

-- the verdict where there is room, and where there is none
pub verdict_full : (table : Criteria) (c : Criterion) → is_full_for table c.name ≡ true → set_verdict table c
    ≡ Err TooManyCriteria
verdict_full table c h =
    ap (λ b. refuse_if b TooManyCriteria >>= λ _. set_references table c >>= λ _. set_rules c.name) h

pub verdict_room : (table : Criteria) (c : Criterion) → is_full_for table c.name ≡ false → set_verdict table c
    ≡ (set_references table c >>= λ _. set_rules c.name)
verdict_room table c h =
    ap (λ b. refuse_if b TooManyCriteria >>= λ _. set_references table c >>= λ _. set_rules c.name) h

-- what follows from either end of a call
pub either_end : (r : Result (Unit {0}) Refusal) {A B C D P : Type 0} → OnOk r A → OnOk r B → OnErr r C → OnErr r D
    → (A → B → P) → (C → D → P) → P
either_end (Ok u) a b c d f g = f a b
either_end (Err e) a b c d f g = g c d
