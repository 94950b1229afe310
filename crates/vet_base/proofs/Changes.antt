-- A table after a change.
use Rattle.std.proofs.Common.{◌≡◌, ℕ, zero, suc, ◌+◌, ◌-◌, ◌<◌, ◌≤◌, Bool, true, false, cond, T, ◌||◌, not, nat_eq}
use Rattle.std.proofs.Common.{List, [], ◌∷◌, map as mapped, length, get_or, take, set as setn, Option, Some, None}
use Rattle.std.proofs.Common.{is_some, Less, refl, sym, ap, subst, ◌∙◌, arith}
use Rattle.std.specs.List.{All, Contains, insert, remove, list_any, find}
use Rattle.std.specs.Option.{option_map_or}
use Rattle.std.specs.Ordering.{is_eq, eq_by_cmp}
use Rattle.std.specs.Cmp.Lexicographic.{pointwise, texts_ties}
use Rattle.std.specs.FinSet as set
use Rattle.std.specs.FinMap as map
use Rattle.std.specs.FinMap.Entries.{is_some-find}
use Rattle.std.proofs.lemmas.Cmp.{nat_list_cmp_total, eq_by_cmp_equiv}
use Rattle.std.proofs.lemmas.Bool.{false≢true, cond-false, or_parts, or_right, and_from, not-false}
use Rattle.std.proofs.lemmas.List.{get_or-map, length-map, map-set, set-get_or}
use Rattle.std.proofs.lemmas.List.Folds.{list_any_none, list_any_at}
use Rattle.std.proofs.lemmas.List.Elements.{All-head, All-tail}
use Rattle.std.proofs.lemmas.Option.{same_Some}
use Rattle.vet_base.specs.declared.limits.TheConstants.{MOST_CRITERIA}
use Rattle.vet_base.specs.declared.criterion.Criterion.{Criterion}
use Rattle.vet_base.specs.Names.{IsRising, members}
use Rattle.vet_base.specs.Criteria.{Criteria, IsTable, implied_by, least_unknown, safe_to_run, safe_to_deploy}
use Rattle.vet_base.specs.CriteriaChanges.{is_built_in, is_user, is_implied}
use Rattle.vet_base.specs.Definitions.{by_name}
use Rattle.vet_base.proofs.Rising.{R, only_equal, equal-from_eq, IsRising-head, IsRising-tail, sorted_entries}
use Rattle.vet_base.proofs.Closing.{found_entry}
use Rattle.vet_base.proofs.Tables.{keys-by_name, nothing}
use Rattle.vet_base.proofs.Walks.{among_members}

abbrev pub names_of : List Criterion → List (List ℕ)
names_of criteria = mapped (λ c. c.name) criteria

-- ---- look-ups in a changed list

swapped : {X : Type 0} (a b : Bool) (x y z : X) → (a ≡ true → b ≡ false) → cond a x (cond b y z) ≡ cond b y (cond a x z)
swapped true b x y z h = rw (h refl) refl
swapped false b x y z h = refl

shadowed : {X : Type 0} (a : Bool) (x y z : X) → cond a x z ≡ cond a x (cond a y z)
shadowed true x y z = refl
shadowed false x y z = refl

apart : (q a b : List ℕ) → R a b ≡ Less → eq_by_cmp R q a ≡ true → eq_by_cmp R q b ≡ false
apart q a b h e = ap (λ t. eq_by_cmp R t b) (equal-from_eq q a e) ∙ ap is_eq h

pub find-set : (cs : List Criterion) (i : ℕ) (c : Criterion) (q : List ℕ) → IsRising (names_of cs) → i < length cs
    → get_or (names_of cs) i [] ≡ c.name
    → map.find R q (by_name (setn cs i c)) ≡ cond (eq_by_cmp R q c.name) (Some c) (map.find R q (by_name cs))
find-set [] i c q h l at = absurd (omega (arith, l))
find-set (x ∷ xs) zero c q h l at =
    shadowed (eq_by_cmp R q c.name) (Some c) (Some x) (map.find R q (by_name xs))
    ∙ ap (λ n. cond (eq_by_cmp R q c.name) (Some c) (cond (eq_by_cmp R q n) (Some x) (map.find R q (by_name xs))))
    (sym at)
find-set (x ∷ xs) (suc i) c q h l at =
    let low : i < length xs = omega (arith, l) in
    let less : R x.name c.name ≡ Less = rw at at (IsRising-head x.name (names_of xs) h i [] (rw length-map low)) in
    ap (cond (eq_by_cmp R q x.name) (Some x)) (find-set xs i c q (IsRising-tail x.name (names_of xs) h) low at)
    ∙ swapped (eq_by_cmp R q x.name) (eq_by_cmp R q c.name) (Some x) (Some c) (map.find R q (by_name xs))
    (apart q x.name c.name less)

pub find-insert : (cs : List Criterion) (i : ℕ) (c : Criterion) (q : List ℕ)
    → All (λ y. R y c.name ≡ Less) (take i (names_of cs))
    → map.find R q (by_name (insert cs i c)) ≡ cond (eq_by_cmp R q c.name) (Some c) (map.find R q (by_name cs))
find-insert cs zero c q low = refl
find-insert [] (suc i) c q low = refl
find-insert (x ∷ xs) (suc i) c q low =
    let less : R x.name c.name ≡ Less = All-head (λ y. R y c.name ≡ Less) x.name (take i (names_of xs)) low in
    ap (cond (eq_by_cmp R q x.name) (Some x))
    (find-insert xs i c q (All-tail (λ y. R y c.name ≡ Less) x.name (take i (names_of xs)) low))
    ∙ swapped (eq_by_cmp R q x.name) (eq_by_cmp R q c.name) (Some x) (Some c) (map.find R q (by_name xs))
    (apart q x.name c.name less)

none_later : (x q : List ℕ) (cs : List Criterion) → All (λ y. R x y ≡ Less) (names_of cs) → eq_by_cmp R q x ≡ true
    → map.find R q (by_name cs) ≡ None
none_later x q cs h e =
    let none : list_any (eq_by_cmp R q) (names_of cs) ≡ false =
    list_any_none (eq_by_cmp R q) (names_of cs) (λ k d l. apart q x (get_or (names_of cs) k d) (h k d l) e) in
    nothing (map.find R q (by_name cs))
    (is_some-find R q (by_name cs) ∙ ap (list_any (eq_by_cmp R q)) (keys-by_name cs) ∙ none)

gone : {X : Type 0} (a : Bool) (x : Option X) (z : Option X) → (a ≡ true → z ≡ None) → z ≡ cond a None (cond a x z)
gone true x z h = h refl
gone false x z h = refl

pub find-remove : (cs : List Criterion) (i : ℕ) (n q : List ℕ) → IsRising (names_of cs) → i < length cs
    → get_or (names_of cs) i [] ≡ n
    → map.find R q (by_name (remove cs i)) ≡ cond (eq_by_cmp R q n) None (map.find R q (by_name cs))
find-remove [] i n q h l at = absurd (omega (arith, l))
find-remove (x ∷ xs) zero n q h l at =
    gone (eq_by_cmp R q x.name) (Some x) (map.find R q (by_name xs))
    (none_later x.name q xs (IsRising-head x.name (names_of xs) h))
    ∙ ap (λ m. cond (eq_by_cmp R q m) None (cond (eq_by_cmp R q x.name) (Some x) (map.find R q (by_name xs)))) at
find-remove (x ∷ xs) (suc i) n q h l at =
    let low : i < length xs = omega (arith, l) in
    let less : R x.name n ≡ Less = rw at at (IsRising-head x.name (names_of xs) h i [] (rw length-map low)) in
    ap (cond (eq_by_cmp R q x.name) (Some x)) (find-remove xs i n q (IsRising-tail x.name (names_of xs) h) low at)
    ∙ swapped (eq_by_cmp R q x.name) (eq_by_cmp R q n) (Some x) None (map.find R q (by_name xs)) (apart q x.name n less)

pub names-insert : (cs : List Criterion) (i : ℕ) (c : Criterion) → names_of (insert cs i c)
    ≡ insert (names_of cs) i c.name
names-insert cs zero c = refl
names-insert [] (suc i) c = refl
names-insert (x ∷ xs) (suc i) c = ap (λ t. x.name ∷ t) (names-insert xs i c)

pub names-remove : (cs : List Criterion) (i : ℕ) → names_of (remove cs i) ≡ remove (names_of cs) i
names-remove [] zero = refl
names-remove [] (suc i) = refl
names-remove (x ∷ xs) zero = refl
names-remove (x ∷ xs) (suc i) = ap (λ t. x.name ∷ t) (names-remove xs i)

pub names-set : (cs : List Criterion) (i : ℕ) (c : Criterion) → get_or (names_of cs) i [] ≡ c.name
    → names_of (setn cs i c) ≡ names_of cs
names-set cs i c at =
    map-set (λ (d : Criterion). d.name) cs i c ∙ ap (setn (names_of cs) i) (sym at) ∙ set-get_or (names_of cs) i []

-- ---- the changed value

sorted_names : (cs : List Criterion) → IsRising (names_of cs) → T (map.is_sorted R (by_name cs))
sorted_names cs h = sorted_entries (by_name cs) (subst IsRising (sym (keys-by_name cs)) h)

module _ (cs ds : List Criterion) (table : Criteria) (is : map.from_sorted {R = R} (by_name cs) ≡ table)
    (rising : IsRising (names_of cs)) (rises : IsRising (names_of ds)) where
  get_in : (q : List ℕ) → map.get table q ≡ map.find R q (by_name cs)
  get_in q = ap (λ t. map.get t q) (sym is) ∙ map.get-from_sorted R (by_name cs) q (sorted_names cs rising)

  pub view_insert : (c : Criterion)
      → ((q : List ℕ) → map.find R q (by_name ds) ≡ cond (eq_by_cmp R q c.name) (Some c) (map.find R q (by_name cs)))
      → map.from_sorted {R = R} (by_name ds) ≡ map.insert table c.name c
  view_insert c found =
      map.same_map nat_list_cmp_total only_equal _ _
      (λ q. map.get-from_sorted R (by_name ds) q (sorted_names ds rises) ∙ found q
      ∙ sym (map.get-insert nat_list_cmp_total table c.name c q ∙ ap (cond (eq_by_cmp R q c.name) (Some c)) (get_in q)))

  pub view_remove : (n : List ℕ)
      → ((q : List ℕ) → map.find R q (by_name ds) ≡ cond (eq_by_cmp R q n) None (map.find R q (by_name cs)))
      → map.from_sorted {R = R} (by_name ds) ≡ map.remove table n
  view_remove n found =
      map.same_map nat_list_cmp_total only_equal _ _
      (λ q. map.get-from_sorted R (by_name ds) q (sorted_names ds rises) ∙ found q
      ∙ sym (map.get-remove nat_list_cmp_total table n q ∙ ap (cond (eq_by_cmp R q n) None) (get_in q)))

-- ---- what holds of every table still holds

pub not_this : (name built : List ℕ) → pointwise nat_eq name built ≡ false → eq_by_cmp R built name ≡ false
not_this name built h = (eq_by_cmp_equiv nat_list_cmp_total).symm built name ∙ sym (texts_ties name built) ∙ h

pub no_first : {X : Type 0} (b : Bool) (x : X) (z : Option X) → cond b (Some x) z ≡ None → (b ≡ false) × (z ≡ None)
no_first true x z h = cc h
no_first false x z h = (refl, h)

pub none_found : (p : List ℕ → Bool) (xs : List (List ℕ)) (n : List ℕ) → find p xs ≡ None → Contains xs n → p n ≡ false
none_found p [] n h among = absurd (omega (arith, among.1))
none_found p (x ∷ xs) n h (zero, l, e) = ap p (sym e) ∙ (no_first (p x) x (find p xs) h).0
none_found p (x ∷ xs) n h (suc k, l, e) = none_found p xs n ((no_first (p x) x (find p xs) h).1) (k, omega arith, e)

some_cond : {X : Type 0} (b : Bool) (x : X) (o : Option X) → is_some (cond b (Some x) o) ≡ (b || is_some o)
some_cond true x o = refl
some_cond false x o = refl

pub key-insert : (table : Criteria) (c : Criterion) (n : List ℕ) → map.contains_key (map.insert table c.name c) n
    ≡ (eq_by_cmp R n c.name || map.contains_key table n)
key-insert table c n =
    ap is_some (map.get-insert nat_list_cmp_total table c.name c n)
    ∙ some_cond (eq_by_cmp R n c.name) c (map.get table n)

few_more : (b : Bool) (n : ℕ) → n ≤ MOST_CRITERIA → (b ≡ false → n < MOST_CRITERIA) → cond b n (n + 1) ≤ MOST_CRITERIA
few_more true n h f = h
few_more false n h f = omega (arith, f refl)

few_less : (b : Bool) (n : ℕ) → n ≤ MOST_CRITERIA → cond b (n - 1) n ≤ MOST_CRITERIA
few_less true n h = omega (arith, h)
few_less false n h = h

-- a criterion may be set where there is room for it, it implies what is known, and it is not built in
pub record MaySet (table : Criteria) (c : Criterion) : Type 0 where
  pub room : map.contains_key table c.name ≡ false → map.len table < MOST_CRITERIA
  pub known : least_unknown (map.insert table c.name c) c.implies ≡ None
  pub own : is_built_in c.name ≡ false

pub table_insert : (table : Criteria) (c : Criterion) → IsTable table → MaySet table c
    → IsTable (map.insert table c.name c)
table_insert table c h may =
    let after = map.insert table c.name c in
    let own = or_parts (pointwise nat_eq c.name safe_to_run) (pointwise nat_eq c.name safe_to_deploy) may.own in
    let get = map.get-insert nat_list_cmp_total table c.name c in
    record {
      few = rw (map.len-insert nat_list_cmp_total table c.name c)
          (few_more (map.contains_key table c.name) (map.len table) h.few may.room);
      named = λ n d e. named_by n d (eq_by_cmp R n c.name) refl (sym (get n) ∙ e);
      known = λ m n e. known_by m n (eq_by_cmp R m c.name) refl
          (ap (λ o. set.contains (option_map_or (λ (d : Criterion). d.implies) o set.empty) n) (sym (get m)) ∙ e);
      run = get safe_to_run
          ∙ cond-false (eq_by_cmp R safe_to_run c.name) (Some c) (map.get table safe_to_run)
          (not_this c.name safe_to_run own.0) ∙ h.run;
      deploy = get safe_to_deploy
          ∙ cond-false (eq_by_cmp R safe_to_deploy c.name) (Some c) (map.get table safe_to_deploy)
          (not_this c.name safe_to_deploy own.1) ∙ h.deploy;
    }
  where
    named_by : (n : List ℕ) (d : Criterion) (b : Bool) → eq_by_cmp R n c.name ≡ b → cond b (Some c) (map.get table n)
        ≡ Some d → d.name ≡ n
    named_by n d true e h' = ap (λ (x : Criterion). x.name) (sym (same_Some c d h')) ∙ sym (equal-from_eq n c.name e)
    named_by n d false e h' = h.named n d h'

    known_by : (m n : List ℕ) (b : Bool) → eq_by_cmp R m c.name ≡ b
        → set.contains (option_map_or (λ (d : Criterion). d.implies) (cond b (Some c) (map.get table m)) set.empty) n
        ≡ true → map.contains_key (map.insert table c.name c) n ≡ true
    known_by m n true e h' =
        not-false _ (none_found (λ x. not (map.contains_key (map.insert table c.name c) x)) (members c.implies) n
        may.known (among_members c.implies n h'))
    known_by m n false e h' =
        key-insert table c n ∙ or_right (eq_by_cmp R n c.name) (map.contains_key table n) (h.known m n h')

-- a criterion may be removed where it is not built in and no other implies it
pub table_remove : (table : Criteria) (n : List ℕ) → IsTable table → is_built_in n ≡ false → is_implied table n ≡ false
    → IsTable (map.remove table n)
table_remove table n h built free =
    let own = or_parts (pointwise nat_eq n safe_to_run) (pointwise nat_eq n safe_to_deploy) built in
    let get = map.get-remove nat_list_cmp_total table n in
    record {
      few = rw (map.len-remove nat_list_cmp_total table n) (few_less (map.contains_key table n) (map.len table) h.few);
      named = λ q d e. named_by q d (eq_by_cmp R q n) refl (sym (get q) ∙ e);
      known = λ m q e. known_by m q (eq_by_cmp R m n) refl
          (ap (λ o. set.contains (option_map_or (λ (d : Criterion). d.implies) o set.empty) q) (sym (get m)) ∙ e);
      run = get safe_to_run
          ∙ cond-false (eq_by_cmp R safe_to_run n) None (map.get table safe_to_run) (not_this n safe_to_run own.0)
          ∙ h.run;
      deploy = get safe_to_deploy
          ∙ cond-false (eq_by_cmp R safe_to_deploy n) None (map.get table safe_to_deploy)
          (not_this n safe_to_deploy own.1) ∙ h.deploy;
    }
  where
    named_by : (q : List ℕ) (d : Criterion) (b : Bool) → eq_by_cmp R q n ≡ b → cond b None (map.get table q) ≡ Some d
        → d.name ≡ q
    named_by q d true e h' = cc h'
    named_by q d false e h' = h.named q d h'

    used : (m : List ℕ) (o : Option Criterion) → map.get table m ≡ o → eq_by_cmp R m n ≡ false
        → set.contains (option_map_or (λ (d : Criterion). d.implies) o set.empty) n ≡ true → ⊥
    used m None e out h' = false≢true (sym (set.contains-empty R n) ∙ h')
    used m (Some c) e out h' =
        let at = found_entry m (map.entries table) c (sym (map.get-entries table m) ∙ e) in
        let name : c.name ≡ m = h.named m c e in
        let here : get_or (map.values table) at.0 c ≡ c =
        get_or-map (λ (x : List ℕ × Criterion). x.1) (map.entries table) at.0 (m, c) c at.1
        ∙ ap (λ (x : List ℕ × Criterion). x.1) at.2 in
        let other : pointwise nat_eq c.name n ≡ false = texts_ties c.name n ∙ ap (λ x. eq_by_cmp R x n) name ∙ out in
        let user : is_user n c ≡ true =
        and_from (not (pointwise nat_eq c.name n)) (set.contains c.implies n) (ap not other) h' in
        false≢true (sym free
        ∙ list_any_at (is_user n) (map.values table) at.0 c (rw length-map at.1) (ap (is_user n) here ∙ user))

    known_by : (m q : List ℕ) (b : Bool) → eq_by_cmp R m n ≡ b
        → set.contains (option_map_or (λ (d : Criterion). d.implies) (cond b None (map.get table m)) set.empty) q
        ≡ true → map.contains_key (map.remove table n) q ≡ true
    known_by m q true e h' = absurd (false≢true (sym (set.contains-empty R q) ∙ h'))
    known_by m q false e h' = kept (eq_by_cmp R q n) refl
      where
        kept : (b : Bool) → eq_by_cmp R q n ≡ b → map.contains_key (map.remove table n) q ≡ true
        kept true same = absurd
            (used m (map.get table m) refl e
            (ap (set.contains (implied_by table m)) (sym (equal-from_eq q n same)) ∙ h'))
        kept false other = ap is_some
            (map.get-remove nat_list_cmp_total table n q ∙ cond-false (eq_by_cmp R q n) None (map.get table q) other)
            ∙ h.known m q h'
