-- The entries that are kept, one more at a time.
use Rattle.std.proofs.Common.{◌≡◌, ℕ, ◌<◌, arith, get_or, length, Bool, true, false, cond, not, ◌||◌}
use Rattle.std.proofs.Common.{List, [], ◌∷◌, ◌++◌, refl, sym, ap, ◌∙◌}
use Rattle.std.specs.List.{list_any}
use Rattle.std.specs.Cmp.{decided}
use Rattle.std.proofs.lemmas.Bool.{false≢true}
use Rattle.std.proofs.lemmas.List.Folds.{list_any-append}
use Rattle.vet_entries.specs.declared.entry.Entry.{Entry}
use Rattle.vet_entries.specs.Entry.{entry_eq}
use Rattle.vet_entries.specs.EntryLaws.{entry_eq-Decides}
use Rattle.vet_entries.specs.Distinct.{are_firsts, firsts, distinct}

abbrev pub has : Entry → List Entry → Bool
has e es = list_any (entry_eq e) es

-- one more entry, where it is not seen yet
abbrev pub one_unless : Bool → Entry → List Entry
one_unless true e = []
one_unless false e = e ∷ []

or_seen : (same seen rest : Bool) → (same ≡ true → seen ≡ true) → (seen || rest) ≡ (seen || (same || rest))
or_seen true true rest h = refl
or_seen true false rest h = absurd (false≢true (h refl))
or_seen false seen rest h = refl

or_later : (same seen rest : Bool) → ((same || seen) || rest) ≡ (seen || (same || rest))
or_later true true rest = refl
or_later true false rest = refl
or_later false seen rest = refl

or_false : (b : Bool) → (b || false) ≡ b
or_false true = refl
or_false false = refl

-- what is equal to one that is there is there
pub has-same : (e x : Entry) (es : List Entry) → has x es ≡ true → entry_eq e x ≡ true → has e es ≡ true
has-same e x es h same = ap (λ y. has y es) ((entry_eq-Decides e x).0 same) ∙ h

firsts-push : (seen es : List Entry) (e : Entry)
    → firsts seen (es ++ e ∷ []) ≡ firsts seen es ++ one_unless (has e seen || has e es) e
firsts-push seen [] e = last (has e seen)
  where
    last : (b : Bool) → cond b [] (e ∷ []) ≡ one_unless (b || false) e
    last true = refl
    last false = refl
firsts-push seen (x ∷ es) e = step (firsts-push seen es e) (firsts-push (x ∷ seen) es e) (has x seen) refl
  where
    step : firsts seen (es ++ e ∷ []) ≡ firsts seen es ++ one_unless (has e seen || has e es) e
        → firsts (x ∷ seen) (es ++ e ∷ []) ≡ firsts (x ∷ seen) es ++ one_unless (has e (x ∷ seen) || has e es) e
        → (b : Bool) → has x seen ≡ b → cond b (firsts seen (es ++ e ∷ [])) (x ∷ firsts (x ∷ seen) (es ++ e ∷ []))
        ≡ cond b (firsts seen es) (x ∷ firsts (x ∷ seen) es) ++ one_unless
        (has e seen || (entry_eq e x || has e es)) e
    step old new true h = old ∙ ap (λ b. firsts seen es ++ one_unless b e)
        (or_seen (entry_eq e x) (has e seen) (has e es) (has-same e x seen h))
    step old new false h = ap (λ (t : List Entry). x ∷ t)
        (new ∙ ap (λ b. firsts (x ∷ seen) es ++ one_unless b e) (or_later (entry_eq e x) (has e seen) (has e es)))

firsts_marked : (seen es : List Entry) (e : Entry)
    → are_firsts seen (es ++ e ∷ []) ≡ are_firsts seen es ++ not (has e seen || has e es) ∷ []
firsts_marked seen [] e = ap (λ b. not b ∷ []) (sym (or_false (has e seen)))
firsts_marked seen (x ∷ es) e = ap (λ (bs : List Bool). not (has x seen) ∷ bs)
    (firsts_marked (x ∷ seen) es e
    ∙ ap (λ b. are_firsts (x ∷ seen) es ++ not b ∷ []) (or_later (entry_eq e x) (has e seen) (has e es)))

-- one more is marked where it is new
pub are_firsts-more : (es : List Entry) (e : Entry)
    → are_firsts [] (es ++ e ∷ []) ≡ are_firsts [] es ++ not (has e es) ∷ []
are_firsts-more es e = firsts_marked [] es e

-- the mark of an entry says whether none in front of it is the same
marked_at : (seen es : List Entry) (e : Entry) (rest : List Entry) (d : Bool)
    → (length es < length (are_firsts seen (es ++ e ∷ rest)))
    × (get_or (are_firsts seen (es ++ e ∷ rest)) (length es) d ≡ not (has e seen || has e es))
marked_at seen [] e rest d = (omega arith, ap not (sym (or_false (has e seen))))
marked_at seen (x ∷ es) e rest d =
    let more = marked_at (x ∷ seen) es e rest d in
    (omega (arith, more.0), more.1 ∙ ap not (or_later (entry_eq e x) (has e seen) (has e es)))

-- so an entry stands among those in front of it just where its mark says no
pub has_by_mark : (b here : Bool) → b ≡ not here → here ≡ not b
has_by_mark true true h = h
has_by_mark true false h = refl
has_by_mark false true h = refl
has_by_mark false false h = h

-- where some entries stand in front of one and the rest behind it
pub mark_here : {all marked left rest : List Entry} (es : List Entry) {e : Entry} {marks : List Bool} {place : ℕ}
    → marks ≡ are_firsts [] marked → marked ≡ all → all ≡ es ++ left → left ≡ e ∷ rest → place ≡ length es
    → (place < length marks) × ((mark : Bool) → mark ≡ get_or marks place mark → has e es ≡ not mark)
mark_here {all} {marked} {left} {rest} es {e} {marks} {place} m a s l p =
    let is : marks ≡ are_firsts [] (es ++ e ∷ rest) = m ∙ ap (are_firsts []) (a ∙ s ∙ ap (λ ys. es ++ ys) l) in (
      rw (is, p) (marked_at [] es e rest true).0,
      λ mark at. has_by_mark mark (has e es)
          (at ∙ ap (λ n. get_or marks n mark) p ∙ ap (λ bs. get_or bs (length es) mark) is
          ∙ (marked_at [] es e rest mark).1),
    )

-- one that is new stands at the end
pub distinct-new : (es : List Entry) (e : Entry) → has e es ≡ false → distinct (es ++ e ∷ []) ≡ distinct es ++ e ∷ []
distinct-new es e h = firsts-push [] es e ∙ ap (λ b. distinct es ++ one_unless b e) h

with_nothing : (es : List Entry) → es ++ [] ≡ es
with_nothing [] = refl
with_nothing (e ∷ es) = ap (λ (t : List Entry). e ∷ t) (with_nothing es)

-- one that stands there already is no more
pub distinct-held : (es : List Entry) (e : Entry) → has e es ≡ true → distinct (es ++ e ∷ []) ≡ distinct es
distinct-held es e h = firsts-push [] es e ∙ ap (λ b. distinct es ++ one_unless b e) h ∙ with_nothing (distinct es)

cond_or : (a b : Bool) → cond a true b ≡ (b || (a || false))
cond_or true true = refl
cond_or true false = refl
cond_or false true = refl
cond_or false false = refl

-- what is among the entries with one more
pub has-new : (es : List Entry) (e q : Entry) (old : Bool) → old ≡ has q es
    → cond (entry_eq e q) true old ≡ has q (es ++ e ∷ [])
has-new es e q old is =
    ap (λ b. cond b true old) ((decided entry_eq entry_eq-Decides).symm e q)
    ∙ ap (cond (entry_eq q e) true) is ∙ cond_or (entry_eq q e) (has q es)
    ∙ sym (list_any-append (entry_eq q) es (e ∷ []))
