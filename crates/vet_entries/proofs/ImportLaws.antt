-- What is held after entries were put in place of those of a source, and after an import.
use Rattle.std.proofs.Common.{◌≡◌, ◌≢◌, ℕ, ◌+◌, ◌<◌, ◌≤◌, ◌⊎◌, inl, inr, Bool, true, false, cond, not, ◌&&◌, ◌||◌}
use Rattle.std.proofs.Common.{List, []}
use Rattle.std.proofs.Common.{◌∷◌, ◌++◌, get_or, length, map, refl, sym, ap, subst, ◌∙◌, arith}
use Rattle.std.specs.List.{All, AllPairs, filter, list_all, list_any}
use Rattle.std.proofs.lemmas.Bool.{false≢true}
use Rattle.std.proofs.lemmas.List.{append-nil, length-append, length-map}
use Rattle.std.proofs.lemmas.List.Elements.{All-head, All-tail}
use Rattle.std.proofs.lemmas.List.Kept.{AllPairs-cons, AllPairs-filter}
use Rattle.vet_base.specs.Items.{IsIn, SameItems}
use Rattle.vet_entries.specs.declared.entry.Entry.{Entry}
use Rattle.vet_entries.specs.declared.entry.Source.{Source}
use Rattle.vet_entries.specs.declared.entry.Source.TheVariants.{Own, Peer}
use Rattle.vet_entries.specs.declared.facts.HeldEntry.{HeldEntry}
use Rattle.vet_entries.specs.Distinct.{firsts}
use Rattle.vet_entries.specs.Entry.{entry_eq, of_source, own}
use Rattle.vet_entries.specs.EntryLaws.{entry_eq-Decides}
use Rattle.vet_entries.specs.HeldPeer.{entries_after_import}
use Rattle.vet_entries.specs.ImportLaws.{ImportKeepsOrder, ImportKeepsNumbers, ImportTakesEntries, ImportHoldsEachOnce}
use Rattle.vet_entries.specs.ImportLaws.{ImportHoldsItsContent}
use Rattle.vet_entries.specs.Numbered.{AreByNumber, Rise, numbered}
use Rattle.vet_entries.specs.PeerContent.{is_own}
use Rattle.vet_entries.specs.Replaced.{as_of, comes_again, entries_after, is_held, is_new, new_of, none_stays}
use Rattle.vet_entries.specs.Replaced.{remains, stays_alone}
use Rattle.vet_entries.specs.ReplacedLaws.{AllDiffer, EntriesAreHeld, EntriesAreTaken, EntriesKeepNumbers}
use Rattle.vet_entries.specs.ReplacedLaws.{EntriesKeepOrder, EntriesStandOnce, NothingNew, entries_of}
use Rattle.vet_base.proofs.ItemLemmas.{all_in, any_in, filter_in, in_all, in_any, in_append, in_back, in_filter}
use Rattle.vet_base.proofs.ItemLemmas.{in_front, in_map, map_in, no_longer, pairs_append, pairs_head, pairs_none}
use Rattle.vet_base.proofs.ItemLemmas.{pairs_tail}
use Rattle.vet_base.proofs.ListLemmas.{filter_drops, filter_keeps}
use Rattle.vet_entries.proofs.ImportCompared.{is_own_entry, own_source, restored}
use Rattle.vet_entries.proofs.SameContent.{and_both, passes}

-- ---- entries with numbers

pub in_numbered : (n : ℕ) (es : List Entry) (h : HeldEntry) → IsIn h (numbered n es)
    → (n ≤ h.number) × ((h.number < n + length es) × IsIn h.entry es)
in_numbered n [] h i = absurd i
in_numbered n (e ∷ es) h (inl s) =
    (let same : h.number ≡ n = ap (λ g. g.number) s
    in (omega (arith, same), (omega (arith, same), inl (ap (λ g. g.entry) s))))
in_numbered n (e ∷ es) h (inr i) =
    (let r = in_numbered (n + 1) es h i in (omega (arith, r.0), (omega (arith, r.1.0), inr r.1.1)))

pub numbered_in : (n : ℕ) (es : List Entry) (e : Entry) → IsIn e es → IsIn e (entries_of (numbered n es))
numbered_in n [] e i = absurd i
numbered_in n (x ∷ es) e (inl s) = inl s
numbered_in n (x ∷ es) e (inr i) = inr (numbered_in (n + 1) es e i)

numbered_rise : (n : ℕ) (es : List Entry) → AreByNumber (numbered n es)
numbered_rise n [] = pairs_none Rise
numbered_rise n (e ∷ es) = AllPairs-cons Rise (record { number = n; entry = e }) (numbered (n + 1) es)
    (all_in (λ h. n < h.number) (numbered (n + 1) es)
    (λ h i. (let r = in_numbered (n + 1) es h i in omega (arith, r.0)))) (numbered_rise (n + 1) es)

numbered_differ : (n : ℕ) (es : List Entry) → AllPairs (λ x y. x ≢ y) es → AllDiffer (numbered n es)
numbered_differ n [] h = pairs_none (λ (g h : HeldEntry). g.entry ≢ h.entry)
numbered_differ n (e ∷ es) h =
    AllPairs-cons (λ (g h : HeldEntry). g.entry ≢ h.entry) (record { number = n; entry = e }) (numbered (n + 1) es)
    (all_in (λ (g : HeldEntry). e ≢ g.entry) (numbered (n + 1) es)
    (λ g i. in_all (λ x. e ≢ x) es (pairs_head (λ x y. x ≢ y) e es h) g.entry (in_numbered (n + 1) es g i).1.1))
    (numbered_differ (n + 1) es (pairs_tail (λ x y. x ≢ y) e es h))

-- ---- what comes again, and what is new

again_in : (entries : List Entry) (h : HeldEntry) → comes_again entries h ≡ true → IsIn h.entry entries
again_in entries h t =
    (let x = any_in (entry_eq h.entry) entries t
    in subst (λ e. IsIn e entries) (sym ((entry_eq-Decides h.entry x.0).0 x.1.1)) x.1.0)

not_new : (b : Bool) → not b ≡ true → b ≡ false
not_new true t = sym t
not_new false t = refl

or_left : (a b : Bool) → a ≡ true → (a || b) ≡ true
or_left a b h = ap (λ x. x || b) h

or_right : (a b : Bool) → b ≡ true → (a || b) ≡ true
or_right true b h = refl
or_right false b h = h

module _ (stays : HeldEntry → Bool) (source : Source) (next : ℕ) (held : List HeldEntry) (entries : List Entry) where
  abbrev coming : List Entry
  coming = as_of source entries

  abbrev staying : List HeldEntry
  staying = filter (remains stays coming) held

  abbrev arriving : List HeldEntry
  arriving = numbered next (new_of source held entries)

  abbrev all_after : List HeldEntry
  all_after = entries_after stays source next held entries

  pub entry_keeps_number : (h : HeldEntry) → IsIn h (entries_after stays source next held entries)
      → IsIn h held ⊎ (next ≤ h.number)
  entry_keeps_number h i = elim (in_append staying arriving h i) [
    | inl l ↦ inl (in_filter (remains stays coming) held h l).0
    | inr r ↦ inr (in_numbered next (new_of source held entries) h r).0
  ]

  pub entry_taken : (h : HeldEntry) → IsIn h (entries_after stays source next held entries)
      → (IsIn h held × (stays h ≡ true)) ⊎ IsIn h.entry (as_of source entries)
  entry_taken h i = elim (in_append staying arriving h i) [
    | inl l ↦ (let among = in_filter (remains stays coming) held h l in by (stays h) refl among.0 among.1)
    | inr r ↦ inr (in_filter (is_new held) coming h.entry (in_numbered next (new_of source held entries) h r).1.1).0
  ]
    where
      by : (b : Bool) → stays h ≡ b → IsIn h held → (b || comes_again coming h) ≡ true
          → (IsIn h held × (stays h ≡ true)) ⊎ IsIn h.entry coming
      by true t among passes = inl (among, t)
      by false t among passes = inr (again_in coming h passes)

  pub number_below : All (λ h. h.number < next) held → (h : HeldEntry)
      → IsIn h (entries_after stays source next held entries) → h.number < next + length (new_of source held entries)
  number_below below h i = elim (in_append staying arriving h i) [
    | inl l ↦ (let b : h.number < next = in_all (λ g. g.number < next) held below h
        (in_filter (remains stays coming) held h l).0 in omega (arith, b))
    | inr r ↦ (in_numbered next (new_of source held entries) h r).1.0
  ]

  pub numbers_rise : AreByNumber held → All (λ h. h.number < next) held
      → AreByNumber (entries_after stays source next held entries)
  numbers_rise rise below =
      pairs_append Rise staying arriving (AllPairs-filter Rise (remains stays coming) held rise)
      (numbered_rise next (new_of source held entries))
      (λ g h i j. (let low : g.number < next = in_all (λ x. x.number < next) held below g
      (in_filter (remains stays coming) held g i).0 in
      let high : next ≤ h.number = (in_numbered next (new_of source held entries) h j).0 in omega (arith, low, high)))

  -- those that are kept in any case are held afterwards
  pub entry_stays : (h : HeldEntry) → IsIn h held → stays h ≡ true
      → IsIn h (entries_after stays source next held entries)
  entry_stays h among t = in_front staying arriving h
      (filter_in (remains stays coming) held h among (or_left (stays h) (comes_again coming h) t))

  pub entry_held : (e : Entry) → IsIn e (as_of source entries)
      → IsIn e (entries_of (entries_after stays source next held entries))
  entry_held e i = by (is_held held e) refl
    where
      by : (b : Bool) → is_held held e ≡ b → IsIn e (entries_of all_after)
      by true t =
          let h = any_in (λ (g : HeldEntry). entry_eq g.entry e) held t in
          let same : h.0.entry ≡ e = (entry_eq-Decides h.0.entry e).0 h.1.1 in
          let again : comes_again coming h.0 ≡ true = in_any (entry_eq h.0.entry) coming e i h.1.1 in
          subst (λ x. IsIn x (entries_of all_after)) same
          (map_in (λ (g : HeldEntry). g.entry) all_after h.0
          (in_front staying arriving h.0 (filter_in (remains stays coming) held h.0 h.1.0
          (or_right (stays h.0) (comes_again coming h.0) again))))
      by false t =
          let new = numbered_in next (new_of source held entries) e (filter_in (is_new held) coming e i (ap not t)) in
          let h = in_map (λ (g : HeldEntry). g.entry) arriving e new in
          subst (λ x. IsIn x (entries_of all_after)) (sym h.1.1)
          (map_in (λ (g : HeldEntry). g.entry) all_after h.0 (in_back staying arriving h.0 h.1.0))

  -- ---- entries that are given, and those that are kept without being given

  abbrev left_alone : List HeldEntry
  left_alone = filter (stays_alone stays coming) held

  pub given_or_alone : (e : Entry) → IsIn e (entries_of (entries_after stays source next held entries))
      → IsIn e (as_of source entries ++ entries_of (filter (stays_alone stays (as_of source entries)) held))
  given_or_alone e i =
      let h = in_map (λ (g : HeldEntry). g.entry) all_after e i in
      subst (λ x. IsIn x (coming ++ entries_of left_alone)) (sym h.1.1) (one h.0 (entry_taken h.0 h.1.0))
    where
      by : (h : HeldEntry) → IsIn h held → stays h ≡ true → (b : Bool) → comes_again coming h ≡ b
          → IsIn h.entry (coming ++ entries_of left_alone)
      by h among t true again = in_front coming (entries_of left_alone) h.entry (again_in coming h again)
      by h among t false other = in_back coming (entries_of left_alone) h.entry
          (map_in (λ (g : HeldEntry). g.entry) left_alone h
          (filter_in (stays_alone stays coming) held h among (λ k. t k && not (other k))))

      one : (h : HeldEntry) → (IsIn h held × (stays h ≡ true)) ⊎ IsIn h.entry coming
          → IsIn h.entry (coming ++ entries_of left_alone)
      one h (inl s) = by h s.0 s.1 (comes_again coming h) refl
      one h (inr t) = in_front coming (entries_of left_alone) h.entry t

  pub from_given : (e : Entry)
      → IsIn e (as_of source entries ++ entries_of (filter (stays_alone stays (as_of source entries)) held))
      → IsIn e (entries_of (entries_after stays source next held entries))
  from_given e i = elim (in_append coming (entries_of left_alone) e i) [
    | inl l ↦ entry_held e l
    | inr r ↦ (let h = in_map (λ (g : HeldEntry). g.entry) left_alone e r in
        let among = in_filter (stays_alone stays coming) held h.0 h.1.0 in
        subst (λ x. IsIn x (entries_of all_after)) (sym h.1.1) (map_in (λ (g : HeldEntry). g.entry) all_after h.0
        (entry_stays h.0 among.0 (and_both (stays h.0) (not (comes_again coming h.0)) among.1).0)))
  ]

pub entries_keep_order : EntriesKeepOrder
entries_keep_order stays source next held entries rise below = (
  numbers_rise stays source next held entries rise below,
  all_in (λ h. h.number < next + length (new_of source held entries)) (entries_after stays source next held entries)
      (number_below stays source next held entries below),
)

pub entries_keep_numbers : EntriesKeepNumbers
entries_keep_numbers stays source next held entries = all_in (λ h. IsIn h held ⊎ (next ≤ h.number))
    (entries_after stays source next held entries) (entry_keeps_number stays source next held entries)

pub entries_are_taken : EntriesAreTaken
entries_are_taken stays source next held entries =
    all_in (λ h. (IsIn h held × (stays h ≡ true)) ⊎ (IsIn h.entry (as_of source entries) × (h.entry.source ≡ source)))
    (entries_after stays source next held entries)
    (λ h i. of h (entry_taken stays source next held entries h i))
  where
    of : (h : HeldEntry) → (IsIn h held × (stays h ≡ true)) ⊎ IsIn h.entry (as_of source entries)
        → (IsIn h held × (stays h ≡ true)) ⊎ (IsIn h.entry (as_of source entries) × (h.entry.source ≡ source))
    of h (inl s) = inl s
    of h (inr t) =
        (let e = in_map (of_source source) entries h.entry t in inr (t, ap (λ (x : Entry). x.source) e.1.1))

pub entries_are_held : EntriesAreHeld
entries_are_held stays source next held entries = (to, from)
  where
    to : (e : Entry) → IsIn e (as_of source entries ++ entries_of (filter stays held))
        → IsIn e (entries_of (entries_after stays source next held entries))
    to e i = elim (in_append (as_of source entries) (entries_of (filter stays held)) e i) [
      | inl l ↦ entry_held stays source next held entries e l
      | inr r ↦ (let h = in_map (λ (g : HeldEntry). g.entry) (filter stays held) e r in
          let among = in_filter stays held h.0 h.1.0 in
          subst (λ x. IsIn x (entries_of (entries_after stays source next held entries))) (sym h.1.1)
          (map_in (λ (g : HeldEntry). g.entry) (entries_after stays source next held entries) h.0
          (entry_stays stays source next held entries h.0 among.0 among.1)))
    ]

    from : (e : Entry) → IsIn e (entries_of (entries_after stays source next held entries))
        → IsIn e (as_of source entries ++ entries_of (filter stays held))
    from e i =
        let h = in_map (λ (g : HeldEntry). g.entry) (entries_after stays source next held entries) e i in
        subst (λ x. IsIn x (as_of source entries ++ entries_of (filter stays held))) (sym h.1.1)
        (elim (entry_taken stays source next held entries h.0 h.1.0) [
          | inl s ↦ in_back (as_of source entries) (entries_of (filter stays held)) h.0.entry
              (map_in (λ (g : HeldEntry). g.entry) (filter stays held) h.0 (filter_in stays held h.0 s.0 s.1))
          | inr t ↦ in_front (as_of source entries) (entries_of (filter stays held)) h.0.entry t
        ])

-- ---- where nothing is new

keep_all : (p : HeldEntry → Bool) (held : List HeldEntry) → list_all p held ≡ true → filter p held ≡ held
keep_all p held all = filter_keeps p held (all_in (λ h. p h ≡ true) held (passes p held all))

keep_none : (held : List HeldEntry) (es : List Entry) → list_all (is_held held) es ≡ true → filter (is_new held) es ≡ []
keep_none held es here = filter_drops (is_new held) es
    (all_in (λ e. is_new held e ≡ false) es (λ e i. ap not (passes (is_held held) es here e i)))

pub nothing_new : NothingNew
nothing_new stays source next held entries same =
    let stay = remains stays (as_of source entries) in
    let both = and_both (list_all stay held) (list_all (is_held held) (as_of source entries)) same in
    let none : new_of source held entries ≡ [] = keep_none held (as_of source entries) both.1 in (
      ap (λ (hs : List HeldEntry). hs ++ numbered next (new_of source held entries)) (keep_all stay held both.0)
          ∙ ap (λ es. held ++ numbered next es) none ∙ append-nil held,
      none,
    )

-- ---- no doubles

or_second : (a b : Bool) → (a || b) ≡ false → (a ≡ false) × (b ≡ false)
or_second true b t = absurd (false≢true (sym t))
or_second false b t = (refl, t)

firsts_unseen : (seen es : List Entry) (x : Entry) → IsIn x (firsts seen es) → list_any (entry_eq x) seen ≡ false
firsts_unseen seen [] x i = absurd i
firsts_unseen seen (e ∷ es) x i = by (firsts_unseen seen es x) (firsts_unseen (e ∷ seen) es x)
    (list_any (entry_eq e) seen) refl i
  where
    by : (IsIn x (firsts seen es) → list_any (entry_eq x) seen ≡ false)
        → (IsIn x (firsts (e ∷ seen) es) → list_any (entry_eq x) (e ∷ seen) ≡ false)
        → (b : Bool) → list_any (entry_eq e) seen ≡ b → IsIn x (cond b (firsts seen es) (e ∷ firsts (e ∷ seen) es))
        → list_any (entry_eq x) seen ≡ false
    by old new true t j = old j
    by old new false t (inl s) = ap (λ y. list_any (entry_eq y) seen) s ∙ t
    by old new false t (inr j) = (or_second (entry_eq x e) (list_any (entry_eq x) seen) (new j)).1

firsts_differ : (seen es : List Entry) → AllPairs (λ x y. x ≢ y) (firsts seen es)
firsts_differ seen [] = pairs_none (λ (x y : Entry). x ≢ y)
firsts_differ seen (e ∷ es) = by (firsts_differ seen es) (firsts_differ (e ∷ seen) es) (list_any (entry_eq e) seen)
  where
    by : AllPairs (λ x y. x ≢ y) (firsts seen es) → AllPairs (λ x y. x ≢ y) (firsts (e ∷ seen) es) → (b : Bool)
        → AllPairs (λ x y. x ≢ y) (cond b (firsts seen es) (e ∷ firsts (e ∷ seen) es))
    by old new true = old
    by old new false = AllPairs-cons (λ x y. x ≢ y) e (firsts (e ∷ seen) es)
        (all_in (λ x. e ≢ x) (firsts (e ∷ seen) es) (λ x i s.
        false≢true (sym (or_second (entry_eq x e) (list_any (entry_eq x) seen) (firsts_unseen (e ∷ seen) es x i)).0
        ∙ (entry_eq-Decides x e).1 (sym s)))) new

-- entries of one's own that differ do so as those of a source
differ_of : (source : Source) (es : List Entry) → All (λ e. is_own e.source ≡ true) es → AllPairs (λ x y. x ≢ y) es
    → AllPairs (λ x y. x ≢ y) (as_of source es)
differ_of source [] g h = pairs_none (λ (x y : Entry). x ≢ y)
differ_of source (e ∷ es) g h =
    AllPairs-cons (λ x y. x ≢ y) (of_source source e) (as_of source es)
    (all_in (λ y. of_source source e ≢ y) (as_of source es) (λ y i s.
    (let x = in_map (of_source source) es y i in
    let its : x.0.source ≡ Own =
    own_source x.0.source (in_all (λ z. is_own z.source ≡ true) es (All-tail (λ z. is_own z.source ≡ true) e es g)
    x.0 x.1.0) in
    let mine : e.source ≡ Own = own_source e.source (All-head (λ z. is_own z.source ≡ true) e es g) in
    let same : e ≡ x.0 = sym (restored e Own mine) ∙ ap own (s ∙ x.1.1) ∙ restored x.0 Own its in
    in_all (λ z. e ≢ z) es (pairs_head (λ z w. z ≢ w) e es h) x.0 x.1.0 same)))
    (differ_of source es (All-tail (λ z. is_own z.source ≡ true) e es g) (pairs_tail (λ z w. z ≢ w) e es h))

entries_differ : (held : List HeldEntry) → AllDiffer held → AllPairs (λ x y. x ≢ y) (entries_of held)
entries_differ [] h = pairs_none (λ (x y : Entry). x ≢ y)
entries_differ (g ∷ held) h =
    AllPairs-cons (λ x y. x ≢ y) g.entry (entries_of held)
    (all_in (λ y. g.entry ≢ y) (entries_of held) (λ y i s.
    (let x = in_map (λ (k : HeldEntry). k.entry) held y i in
    in_all (λ (k : HeldEntry). g.entry ≢ k.entry) held (pairs_head (λ (j k : HeldEntry). j.entry ≢ k.entry) g held h)
    x.0 x.1.0 (s ∙ x.1.1))))
    (entries_differ held (pairs_tail (λ (j k : HeldEntry). j.entry ≢ k.entry) g held h))

-- an entry that is given differs from one that is kept without being given
whole_differs : (stays : HeldEntry → Bool) (theirs : List Entry) (held : List HeldEntry)
    → AllPairs (λ x y. x ≢ y) theirs → AllDiffer held
    → AllPairs (λ x y. x ≢ y) (theirs ++ entries_of (filter (stays_alone stays theirs) held))
whole_differs stays theirs held all differ =
    let alone = filter (stays_alone stays theirs) held in
    pairs_append (λ x y. x ≢ y) theirs (entries_of alone) all
    (entries_differ alone (AllPairs-filter (λ (g h : HeldEntry). g.entry ≢ h.entry) (stays_alone stays theirs) held
    differ))
    (λ x y i j s.
    (let h = in_map (λ (k : HeldEntry). k.entry) alone y j in
    let passed = (in_filter (stays_alone stays theirs) held h.0 h.1.0).1 in
    let none = not_new (comes_again theirs h.0) (and_both (stays h.0) (not (comes_again theirs h.0)) passed).1 in
    let again : comes_again theirs h.0 ≡ true =
    in_any (entry_eq h.0.entry) theirs x i ((entry_eq-Decides h.0.entry x).1 (sym (s ∙ h.1.1))) in
    false≢true (sym none ∙ again)))

pub entries_stand_once : EntriesStandOnce
entries_stand_once stays source next held entries mine once differ =
    let theirs = as_of source entries in
    let all = differ_of source entries mine (subst (AllPairs (λ x y. x ≢ y)) once (firsts_differ [] entries)) in
    let after = entries_after stays source next held entries in
    let alone = filter (stays_alone stays theirs) held in
    let whole = theirs ++ entries_of alone in
    let each : AllDiffer after =
    pairs_append (λ (g h : HeldEntry). g.entry ≢ h.entry) (filter (remains stays theirs) held)
    (numbered next (new_of source held entries))
    (AllPairs-filter (λ (g h : HeldEntry). g.entry ≢ h.entry) (remains stays theirs) held differ)
    (numbered_differ next (new_of source held entries) (AllPairs-filter (λ x y. x ≢ y) (is_new held) theirs all))
    (λ g h i j s.
    (let new : is_new held h.entry ≡ true =
    (in_filter (is_new held) theirs h.entry (in_numbered next (new_of source held entries) h j).1.1).1 in
    let old : is_held held h.entry ≡ true = in_any (λ (k : HeldEntry). entry_eq k.entry h.entry) held g
    (in_filter (remains stays theirs) held g i).0 ((entry_eq-Decides g.entry h.entry).1 s) in
    false≢true (sym (not_new (is_held held h.entry) new) ∙ old))) in
    let fewer : length (entries_of after) ≤ length whole = no_longer (entries_of after) whole
    (entries_differ after each) (given_or_alone stays source next held entries) in
    let more : length whole ≤ length (entries_of after) = no_longer whole (entries_of after)
    (whole_differs stays theirs held all differ) (from_given stays source next held entries) in
    let here : length (entries_of after) ≡ length after = length-map after (λ (k : HeldEntry). k.entry) in
    let there : length theirs ≡ length entries = length-map entries (of_source source) in
    let rest : length (entries_of alone) ≡ length alone = length-map alone (λ (k : HeldEntry). k.entry) in
    let both : length whole ≡ length theirs + length (entries_of alone) = length-append theirs (entries_of alone) in
    (each, omega (arith, fewer, more, here, there, rest, both))

-- ---- what is made

pub entries_made : (stays : HeldEntry → Bool) (source given : Source) (next : ℕ) (held hs : List HeldEntry)
    (entries es : List Entry) (again fresh : List Bool) (start kept done : List HeldEntry)
    → given ≡ source → hs ≡ held → es ≡ entries → again ≡ map (remains stays (as_of source entries)) held
    → fresh ≡ map (is_new held) (as_of source entries) → start ≡ []
    → ((keeps : HeldEntry → Bool) → again ≡ map keeps hs → kept ≡ start ++ filter keeps hs)
    → ((new : Entry → Bool) → fresh ≡ map new (as_of given es)
    → done ≡ kept ++ numbered next (filter new (as_of given es)))
    → done ≡ entries_after stays source next held entries
entries_made stays source given next held hs entries es again fresh start kept done eg eh ee a f s k d =
    let theirs : as_of given es ≡ as_of source entries = ap (λ x. as_of x es) eg ∙ ap (as_of source) ee in
    let stay = remains stays (as_of source entries) in
    d (is_new held) (f ∙ ap (map (is_new held)) (sym theirs))
    ∙ ap (λ l. kept ++ numbered next (filter (is_new held) l)) theirs
    ∙ ap (λ (l : List HeldEntry). l ++ numbered next (new_of source held entries))
    (k stay (a ∙ ap (map stay) (sym eh)) ∙ ap (λ (l : List HeldEntry). l ++ filter stay hs) s ∙ ap (filter stay) eh)

-- ---- what an import leaves: it keeps nothing in any case

none_stay : (held : List HeldEntry) → filter none_stays held ≡ []
none_stay [] = refl
none_stay (h ∷ held) = none_stay held

none_alone : (es : List Entry) (held : List HeldEntry) → filter (stays_alone none_stays es) held ≡ []
none_alone es [] = refl
none_alone es (h ∷ held) = none_alone es held

pub number_kept : (name : List ℕ) (next : ℕ) (held : List HeldEntry) (entries : List Entry) (h : HeldEntry)
    → IsIn h (entries_after_import name next held entries) → IsIn h held ⊎ (next ≤ h.number)
number_kept name = entry_keeps_number none_stays (Peer name)

pub keeps_order : ImportKeepsOrder
keeps_order name = entries_keep_order none_stays (Peer name)

pub keeps_numbers : ImportKeepsNumbers
keeps_numbers name = entries_keep_numbers none_stays (Peer name)

pub takes_entries : ImportTakesEntries
takes_entries name next held entries =
    all_in (λ h. IsIn h.entry (as_of (Peer name) entries) × (h.entry.source ≡ Peer name))
    (entries_after_import name next held entries) (λ h i. given h
    (in_all (λ g. (IsIn g held × (false ≡ true)) ⊎ (IsIn g.entry (as_of (Peer name) entries)
    × (g.entry.source ≡ Peer name)))
    (entries_after_import name next held entries) (entries_are_taken none_stays (Peer name) next held entries) h i))
  where
    given : (h : HeldEntry)
        → (IsIn h held × (false ≡ true)) ⊎ (IsIn h.entry (as_of (Peer name) entries) × (h.entry.source ≡ Peer name))
        → IsIn h.entry (as_of (Peer name) entries) × (h.entry.source ≡ Peer name)
    given h (inl s) = absurd (false≢true s.1)
    given h (inr t) = t

pub holds_its_content : ImportHoldsItsContent
holds_its_content name next held content =
    let theirs = as_of (Peer name) content.entries in
    let after = entries_after_import name next held.entries content.entries in
    let nothing_more : theirs ++ entries_of (filter none_stays held.entries) ≡ theirs =
    ap (λ (hs : List HeldEntry). theirs ++ entries_of hs) (none_stay held.entries) ∙ append-nil theirs in (
      subst (λ es. SameItems es (entries_of after)) nothing_more
          (entries_are_held none_stays (Peer name) next held.entries content.entries),
      refl,
    )

pub holds_each_once : ImportHoldsEachOnce
holds_each_once name next held content is =
    let stand = entries_stand_once none_stays (Peer name) next held content.entries
    (λ k d l. is_own_entry (get_or content.entries k d) (is.kinds k d l)) is.once in
    λ differ. (let r = stand differ in
    (r.0, omega (arith, r.1, ap length (none_alone (as_of (Peer name) content.entries) held))))
