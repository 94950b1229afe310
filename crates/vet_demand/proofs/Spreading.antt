-- How criteria are led on from place to place.
use Rattle.std.proofs.Common.{◌≡◌, ◌≢◌, ◌↔◌, ℕ, ◌+◌, ◌<◌, ◌≤◌, ◌||◌, true, false, cond, List, [], ◌∷◌, ◌++◌, Vec}
use Rattle.std.proofs.Common.{Global, length, get_or, set, take, refl, sym, ap, subst, ◌∙◌, inl, inr, arith, eq-eqb}
use Rattle.std.proofs.Common.{eqb-true}
use Rattle.std.specs.Cmp.{nat_cmp_total, unsigned_tied}
use Rattle.std.specs.FinSet as places
use Rattle.std.specs.List.{All, Contains}
use Rattle.std.specs.Ordering.{eq_by_cmp, nat_cmp}
use Rattle.std.proofs.lemmas.Bool.{cases_Bool, cases_eq, cases_lt, cond-false, cond-true, false≢true, or_left}
use Rattle.std.proofs.lemmas.List.{get_or-map, get_or-set_other, get_or-set_same, get_or_default, get_or_past}
use Rattle.std.proofs.lemmas.List.{length-map, length-set}
use Rattle.std.proofs.lemmas.List.Elements.{All-cons, All-contains, All-head, All-more, All-nil, All-push, All-weaker}
use Rattle.std.proofs.lemmas.List.Elements.{Contains-append_left, Contains-get_or, Contains-push, Contains-push_cases}
use Rattle.std.proofs.lemmas.List.Quantifiers.{all_pairs_push}
use Rattle.vet_base.specs.CriteriaSet.{Places, has}
use Rattle.vet_demand.proofs.Lists.{All-fewer, All-last, Contains-kept, length-le_from_once, same_place}
use Rattle.vet_demand.specs.Spread.{AreBelow, AreSpread, AreStarts, IsDone, IsLed, IsReaching, IsSpread, Reaches}
use Rattle.vet_demand.specs.Spread.{lists_in, stands}
use Rattle.vet_demand.specs.Spread.IsLed.{at_start, led_on}

-- ---- sets of places

same_number : (p c : ℕ) → eq_by_cmp nat_cmp p c ≡ true → p ≡ c
same_number p c h = eqb-true p c (sym (unsigned_tied p c) ∙ h)

has_insert : (p c : ℕ) (s : Places) → has p (places.insert s c) ≡ (eq_by_cmp nat_cmp p c || has p s)
has_insert p c s = places.contains-insert nat_cmp_total s c p

pub has_put : (c : ℕ) (s : Places) → has c (places.insert s c) ≡ true
has_put c s = has_insert c c s ∙ or_left (eq_by_cmp nat_cmp c c) (has c s) (unsigned_tied c c ∙ eq-eqb c c refl)

pub has_other : (p c : ℕ) (s : Places) → p ≢ c → has p (places.insert s c) ≡ has p s
has_other p c s n = elim (cases_Bool (eq_by_cmp nat_cmp p c)) [
  | inl same ↦ absurd (n (same_number p c same))
  | inr other ↦ has_insert p c s ∙ ap (λ b. b || has p s) other
]

-- ---- one criterion

module _ (c : ℕ) (lists : List (List ℕ)) (before : List Places) where
  -- a place that is reached has the criterion
  IsReaching-push : (now : List Places) (reached : List ℕ) (v : ℕ) → IsReaching c lists before now reached
      → v < length now
      → has c (get_or now v places.empty) ≡ false → IsLed (stands c before) lists v
      → IsReaching c lists before (set now v (places.insert (get_or now v places.empty) c)) (reached ++ v ∷ [])
  IsReaching-push now reached v h low fresh led =
      let old = get_or now v places.empty in
      let new = places.insert old c in
      let here : get_or (set now v new) v places.empty ≡ new = get_or-set_same now v new places.empty low in
      let there : (u : ℕ) → u ≢ v → get_or (set now v new) u places.empty ≡ get_or now u places.empty =
      λ u n. get_or-set_other now v u new places.empty n in
      let not_yet : Contains reached v → ⊥ = λ w. false≢true (sym fresh ∙ (h.marked v).1 w) in
      record {
        count = length-set now v new ∙ h.count;
        others = λ p u n. elim (cases_eq u v) [
          | inl same ↦ ap (has p) (ap (λ w. get_or (set now v new) w places.empty) same ∙ here)
              ∙ has_other p c old n ∙ ap (λ w. has p (get_or now w places.empty)) (sym same) ∙ h.others p u n
          | inr differs ↦ ap (has p) (there u differs) ∙ h.others p u n
        ];
        marked = λ u. elim (cases_eq u v) [
          | inl same ↦ (
            λ _. subst (Contains (reached ++ v ∷ [])) (sym same) (Contains-push reached v),
            λ _. ap (has c) (ap (λ w. get_or (set now v new) w places.empty) same ∙ here) ∙ has_put c old,
          )
          | inr differs ↦ (
            λ e. Contains-append_left reached (v ∷ []) u ((h.marked u).0 (sym (ap (has c) (there u differs)) ∙ e)),
            λ w. elim (Contains-push_cases reached v u w) [
              | inl was ↦ ap (has c) (there u differs) ∙ (h.marked u).1 was
              | inr same ↦ absurd (differs (sym same))
            ],
          )
        ];
        starts = λ u e. Contains-append_left reached (v ∷ []) u (h.starts u e);
        sound = All-push (IsLed (stands c before) lists) reached v h.sound led;
        within = All-push (λ u. u < length before) reached v h.within (omega (arith, low, h.count));
        once = all_pairs_push (λ u w. u ≢ w) reached v h.once
            (λ k d l same. not_yet (subst (Contains reached) same (Contains-get_or reached k d l)));
      }

-- a place at which the criterion stands is reached already
pub Reaches-held : (c v : ℕ) (now : List Places) (reached : List ℕ) → stands c now v
    → Reaches c (v ∷ []) now reached now reached
Reaches-held c v now reached e lists before h led =
    (h, All-cons (Contains reached) v [] ((h.marked v).0 e) (All-nil (Contains reached)))

-- another one is reached now
pub Reaches-new : (c v : ℕ) (now : List Places) (reached : List ℕ) → v < length now
    → has c (get_or now v places.empty) ≡ false
    → Reaches c (v ∷ []) now reached (set now v (places.insert (get_or now v places.empty) c)) (reached ++ v ∷ [])
Reaches-new c v now reached low fresh lists before h led = (
  IsReaching-push c lists before now reached v h low fresh (All-head (IsLed (stands c before) lists) v [] led),
  All-cons (Contains (reached ++ v ∷ [])) v [] (Contains-push reached v) (All-nil (Contains (reached ++ v ∷ []))),
)

pub Reaches-none : (c : ℕ) (now : List Places) (reached : List ℕ) → Reaches c [] now reached now reached
Reaches-none c now reached lists before h led = (h, All-nil (Contains reached))

-- one place more
pub Reaches-next : (c : ℕ) (nodes : List ℕ) (i d : ℕ) (first middle last : List Places) (old now new : List ℕ)
    → i < length nodes → take (length now) new ≡ now
    → Reaches c (take i nodes) first old middle now → Reaches c (get_or nodes i d ∷ []) middle now last new
    → Reaches c (take (i + 1) nodes) first old last new
Reaches-next c nodes i d first middle last old now new low kept so_far one lists before h led =
    let a = so_far lists before h (All-fewer (IsLed (stands c before) lists) nodes i d low led) in
    let b = one lists before a.0 (All-cons (IsLed (stands c before) lists) (get_or nodes i d) []
    (All-last (IsLed (stands c before) lists) nodes i d low led) (All-nil _)) in (
      b.0,
      All-more (Contains new) nodes i d low
          (All-weaker (Contains now) (Contains new) (λ v w. Contains-kept now new v kept w) (take i nodes) a.1)
          (All-head (Contains new) (get_or nodes i d) [] b.1),
    )

-- ---- the places where it starts

AreStarts-same : (c : ℕ) (sets : List Places) (n : ℕ) (reached : List ℕ)
    → has c (get_or sets n places.empty) ≡ false → AreStarts c sets n reached → AreStarts c sets (n + 1) reached
AreStarts-same c sets n reached none h = record {
  within = All-weaker (λ v. v < n) (λ v. v < n + 1) (λ v l. omega arith) reached h.within;
  are = λ v. (
    λ w. (let r = (h.are v).0 w in (omega (arith, r.0), r.1)),
    λ r. elim (cases_eq v n) [
      | inl same ↦ absurd (false≢true (sym none ∙ ap (λ u. has c (get_or sets u places.empty)) (sym same) ∙ r.1))
      | inr differs ↦ (h.are v).1 (omega (arith, r.0, differs), r.1)
    ],
  );
  once = h.once;
}

AreStarts-push : (c : ℕ) (sets : List Places) (n : ℕ) (reached : List ℕ) → has c (get_or sets n places.empty) ≡ true
    → AreStarts c sets n reached → AreStarts c sets (n + 1) (reached ++ n ∷ [])
AreStarts-push c sets n reached here h = record {
  within = All-push (λ v. v < n + 1) reached n (All-weaker (λ v. v < n) (λ v. v < n + 1) (λ v l. omega arith)
      reached h.within) (omega arith);
  are = λ v. (
    λ w. elim (Contains-push_cases reached n v w) [
      | inl was ↦ (let r = (h.are v).0 was in (omega (arith, r.0), r.1))
      | inr same ↦ (omega (arith, same), ap (λ u. has c (get_or sets u places.empty)) (sym same) ∙ here)
    ],
    λ r. elim (cases_eq v n) [
      | inl same ↦ subst (Contains (reached ++ n ∷ [])) (sym same) (Contains-push reached n)
      | inr differs ↦ Contains-append_left reached (n ∷ []) v ((h.are v).1 (omega (arith, r.0, differs), r.1))
    ],
  );
  once = all_pairs_push (λ u v. u ≢ v) reached n h.once
      (λ k d l same. (let low = h.within k d l in omega (arith, low, same)));
}

pub AreStarts-next : (c : ℕ) (sets : List Places) (n : ℕ) (reached new : List ℕ) → AreStarts c sets n reached
    → new ≡ cond (has c (get_or sets n places.empty)) (reached ++ n ∷ []) reached → AreStarts c sets (n + 1) new
AreStarts-next c sets n reached new h is = elim (cases_Bool (has c (get_or sets n places.empty))) [
  | inl here ↦ subst (AreStarts c sets (n + 1))
      (sym (is ∙ cond-true (has c (get_or sets n places.empty)) (reached ++ n ∷ []) reached here))
      (AreStarts-push c sets n reached here h)
  | inr none ↦ subst (AreStarts c sets (n + 1))
      (sym (is ∙ cond-false (has c (get_or sets n places.empty)) (reached ++ n ∷ []) reached none))
      (AreStarts-same c sets n reached none h)
]

pub AreStarts-none : (c : ℕ) (sets : List Places) → AreStarts c sets 0 []
AreStarts-none c sets = record {
  within = All-nil (λ v. v < 0);
  are = λ v. (λ w. absurd (omega (arith, w.1)), λ r. absurd (omega (arith, r.0)));
  once = λ i j d l m. absurd (omega arith);
}

pub stands_within : (c : ℕ) (sets : List Places) (v : ℕ) → stands c sets v → v < length sets
stands_within c sets v e = elim (cases_lt v (length sets)) [
  | inl low ↦ low
  | inr high ↦ absurd (false≢true
      (sym (ap (has c) (get_or_past sets v places.empty high) ∙ places.contains-empty nat_cmp c) ∙ e))
]

-- what starts is reached
pub IsReaching-start : (c : ℕ) (lists : List (List ℕ)) (sets : List Places) (reached : List ℕ)
    → AreStarts c sets (length sets) reached → IsReaching c lists sets sets reached
IsReaching-start c lists sets reached h = record {
  count = refl;
  others = λ p v n. refl;
  marked = λ v. (λ e. (h.are v).1 (stands_within c sets v e, e), λ w. ((h.are v).0 w).1);
  starts = λ v e. (h.are v).1 (stands_within c sets v e, e);
  sound = λ k d l. at_start ((h.are (get_or reached k d)).0 (Contains-get_or reached k d l)).1;
  within = h.within;
  once = h.once;
}

-- ---- the worklist

pub length-le_from_IsReaching : (c : ℕ) (lists : List (List ℕ)) (before now : List Places) (reached : List ℕ)
    → IsReaching c lists before now reached → length reached ≤ length before
length-le_from_IsReaching c lists before now reached h = length-le_from_once (length before) reached h.once h.within

-- the list of a place that is reached leads on from it
pub led_from : (c : ℕ) (lists : List (List ℕ)) (before now : List Places) (reached : List ℕ) (k d : ℕ)
    → IsReaching c lists before now reached → k < length reached
    → All (IsLed (stands c before) lists) (get_or lists (get_or reached k d) [])
led_from c lists before now reached k d h low i e l =
    led_on (All-contains (IsLed (stands c before) lists) reached (get_or reached k d) h.sound
    (Contains-get_or reached k d low))
    (Contains-get_or (get_or lists (get_or reached k d) []) i e l)

pub IsDone-next : (lists : List (List ℕ)) (old new : List ℕ) (n d : ℕ) → n < length old
    → take (length old) new ≡ old → IsDone lists old n
    → All (Contains new) (get_or lists (get_or old n d) []) → IsDone lists new (n + 1)
IsDone-next lists old new n d low kept h here k m =
    let at : get_or new k 0 ≡ get_or old k 0 = same_place old new k 0 kept (omega (arith, low, m)) in
    subst (λ u. All (Contains new) (get_or lists u [])) (sym at)
    (elim (cases_lt k n) [
      | inl less ↦ All-weaker (Contains old) (Contains new) (λ v w. Contains-kept old new v kept w)
          (get_or lists (get_or old k 0) []) (h k less)
      | inr more ↦ (let same : k ≡ n = omega (arith, m, more) in
          subst (λ u. All (Contains new) (get_or lists u [])) (get_or_default old n d 0 low
          ∙ ap (λ j. get_or old j 0) (sym same)) here)
    ])

pub IsDone-none : (lists : List (List ℕ)) (reached : List ℕ) → IsDone lists reached 0
IsDone-none lists reached k m = absurd (omega (arith, m))

module _ (c : ℕ) (lists : List (List ℕ)) (before now : List Places) (reached : List ℕ)
    (h : IsReaching c lists before now reached) (n : ℕ) (long : length reached ≤ n) (done : IsDone lists reached n)
  where
    all_reached : (v : ℕ) → IsLed (stands c before) lists v → Contains reached v
    all_reached v (at_start e) = h.starts v e
    all_reached v (led_on {u = u} led at) =
        let from = all_reached u led in
        let there : All (Contains reached) (get_or lists u []) =
        subst (λ w. All (Contains reached) (get_or lists w [])) (get_or_default reached from.0 0 u from.1
        ∙ from.2) (done from.0 (omega (arith, long, from.1))) in
        All-contains (Contains reached) (get_or lists u []) v there at

    -- when the list has come to its end, the criterion is led on
    pub IsSpread-done : IsSpread c lists before now
    IsSpread-done = record {
      count = h.count;
      others = h.others;
      led = λ v. (
        λ e. All-contains (IsLed (stands c before) lists) reached v h.sound ((h.marked v).0 e),
        λ led. (h.marked v).1 (all_reached v led),
      );
    }

-- ---- all criteria

led_alike : (P Q : ℕ → Type 0) (lists : List (List ℕ)) → ((v : ℕ) → P v → Q v) → (v : ℕ) → IsLed P lists v
    → IsLed Q lists v
led_alike P Q lists f v (at_start e) = at_start (f v e)
led_alike P Q lists f v (led_on {u = u} led at) = led_on (led_alike P Q lists f u led) at

pub AreSpread-none : (lists : List (List ℕ)) (sets : List Places) → AreSpread 0 lists sets sets
AreSpread-none lists sets = record { count = refl; others = λ p v l. refl; led = λ p v l. absurd (omega (arith, l)) }

pub AreSpread-next : (n : ℕ) (lists : List (List ℕ)) (before middle after : List Places)
    → AreSpread n lists before middle → IsSpread n lists middle after → AreSpread (n + 1) lists before after
AreSpread-next n lists before middle after h one = record {
  count = one.count ∙ h.count;
  others = λ p v l. one.others p v (λ same. omega (arith, l, same)) ∙ h.others p v (omega (arith, l));
  led = λ p v l. elim (cases_eq p n) [
    | inl same ↦ subst (λ q. stands q after v ↔ IsLed (stands q before) lists v) (sym same) (
      λ e. led_alike (stands n middle) (stands n before) lists (λ u w. sym (h.others n u (omega arith)) ∙ w) v
          ((one.led v).0 e),
      λ led. (one.led v).1 (led_alike (stands n before) (stands n middle) lists
          (λ u w. h.others n u (omega arith) ∙ w) v led),
    )
    | inr differs ↦ (let was = h.led p v (omega (arith, l, differs)) in (
      λ e. was.0 (sym (one.others p v differs) ∙ e),
      λ led. one.others p v differs ∙ was.1 led,
    ))
  ];
}

-- ---- as the code reads lists

-- what the code reads is the list of the place that is next
list_next : (lists : List (Vec ℕ Global)) (reached : List ℕ) (n from : ℕ) (list : Vec ℕ Global) (nodes : List ℕ)
    → n < length reached → get_or reached n 0 < length lists
    → from ≡ get_or reached n from → list ≡ get_or lists from list → nodes ≡ list.items
    → get_or (lists_in lists) (get_or reached n 0) [] ≡ nodes
list_next lists reached n from list nodes low within at is e =
    let same : from ≡ get_or reached n 0 = at ∙ get_or_default reached n from 0 low in
    ap (λ u. get_or (lists_in lists) u []) (sym same)
    ∙ get_or-map (λ (x : Vec ℕ Global). x.items) lists from list [] (subst (λ u. u < length lists) (sym same) within)
    ∙ ap (λ (x : Vec ℕ Global). x.items) (sym is) ∙ sym e

module _ (c : ℕ) (lists : List (Vec ℕ Global)) (before now : List Places) (reached : List ℕ)
    (h : IsReaching c (lists_in lists) before now reached) (many : length lists ≡ length before)
    (n from : ℕ) (list : Vec ℕ Global) (nodes : List ℕ) (low : n < length reached)
    (at : from ≡ get_or reached n from) (is : list ≡ get_or lists from list) (e : nodes ≡ list.items) where
  within_lists : get_or reached n 0 < length lists
  within_lists = (let l = h.within n 0 low in omega (arith, l, many))

  pub next_list : get_or (lists_in lists) (get_or reached n 0) [] ≡ nodes
  next_list = list_next lists reached n from list nodes low within_lists at is e

  pub next_below : AreBelow (length before) (lists_in lists) → All (λ v. v < length now) nodes
  next_below below =
      let all : All (λ v. v < length before) (get_or (lists_in lists) (get_or reached n 0) []) =
      below (get_or reached n 0) [] (rw length-map within_lists) in
      subst (All (λ v. v < length now)) next_list
      (All-weaker (λ v. v < length before) (λ v. v < length now) (λ v l. omega (arith, l, h.count))
      (get_or (lists_in lists) (get_or reached n 0) []) all)

  pub next_led : All (IsLed (stands c before) (lists_in lists)) nodes
  next_led = subst (All (IsLed (stands c before) (lists_in lists))) next_list
      (led_from c (lists_in lists) before now reached n 0 h low)
