-- Rows that are dropped and put, one after another: what is left of the rows of a table, and what comes to it.
use Rattle.std.proofs.Common.{◌≡◌, ◌⊎◌, inl, inr, Bool, true, false, not, List, [], ◌∷◌, refl, sym, ap, subst, ◌∙◌}
use Rattle.std.proofs.Common.{Option, Some, None}
use Rattle.std.proofs.lemmas.Bool.{false≢true}
use Rattle.std.specs.Bool.{Decides}
use Rattle.std.specs.List.{filter, list_any}
use Rattle.vet_base.specs.Items.{IsIn, SameItems}
use Rattle.vet_base.proofs.ItemLemmas.{filter_in, in_filter}
use Rattle.vet_tables.proofs.Among.{among_is, is_among}
use Rattle.vet_rows.specs.KeyedItems.{rows_if}
use Rattle.vet_rows.proofs.KeyedExchanges.{IsOneForOne}

-- ---- rows of which some have the same key

-- the rows of another key
abbrev pub without : {R : Type 0} → (R → R → Bool) → R → List R → List R
without same r rows = filter (λ other. not (same r other)) rows

-- a row, and those of another key
abbrev pub with_row : {R : Type 0} → (R → R → Bool) → R → List R → List R
with_row same r rows = r ∷ without same r rows

module _ {R : Type 0} (same : R → R → Bool) where
  -- a row of some has the key of this one
  abbrev pub HasKeyOf : R → List R → Type 0
  HasKeyOf x rows = (g : R) × (IsIn g rows × (same g x ≡ true))

  -- one row after another is dropped, and one after another is put
  abbrev pub all_without : List R → List R → List R
  all_without [] rows = rows
  all_without (r ∷ more) rows = all_without more (without same r rows)

  abbrev pub with_all : List R → List R → List R
  with_all [] rows = rows
  with_all (r ∷ more) rows = with_all more (with_row same r rows)

  -- ---- which rows are left

  is_other : (r x : R) → (same r x ≡ true → ⊥) → not (same r x) ≡ true
  is_other r x differs = by (same r x) differs
    where
      by : (b : Bool) → (b ≡ true → ⊥) → not b ≡ true
      by true d = absurd (d refl)
      by false d = refl

  differs_from : (r x : R) → not (same r x) ≡ true → same r x ≡ true → ⊥
  differs_from r x h at = false≢true (ap not (sym at) ∙ h)

  -- what is left of some rows was among them, and has the key of no row that was dropped
  pub left_by : (gone rows : List R) (x : R) → IsIn x (all_without gone rows) → IsIn x rows × (HasKeyOf x gone → ⊥)
  left_by [] rows x i = (i, λ h. h.1.0)
  left_by (r ∷ more) rows x i =
      let rest = left_by more (without same r rows) x i in
      let here = in_filter (λ y. not (same r y)) rows x rest.0 in (
        here.0,
        λ h. elim h.1.0 [
          | inl e ↦ differs_from r x here.1 (ap (λ y. same y x) (sym e) ∙ h.1.1)
          | inr j ↦ rest.1 (h.0, (j, h.1.1))
        ],
      )

  pub left_in : (gone rows : List R) (x : R) → IsIn x rows → (HasKeyOf x gone → ⊥) → IsIn x (all_without gone rows)
  left_in [] rows x i none = i
  left_in (r ∷ more) rows x i none =
      left_in more (without same r rows) x
      (filter_in (λ y. not (same r y)) rows x i (is_other r x (λ e. none (r, (inl refl, e)))))
      (λ h. none (h.0, (inr h.1.0, h.1.1)))

  -- what is there after rows were put is one of these, or was there and has the key of none
  pub put_by : (come rows : List R) (x : R) → IsIn x (with_all come rows)
      → IsIn x come ⊎ (IsIn x rows × (HasKeyOf x come → ⊥))
  put_by [] rows x i = inr (i, λ h. h.1.0)
  put_by (r ∷ more) rows x i = elim (put_by more (with_row same r rows) x i) [
    | inl later ↦ inl (inr later)
    | inr before ↦ elim before.0 [
      | inl e ↦ inl (inl e)
      | inr j ↦ (let here = in_filter (λ y. not (same r y)) rows x j in
          inr (
            here.0,
            λ h. elim h.1.0 [
              | inl e ↦ differs_from r x here.1 (ap (λ y. same y x) (sym e) ∙ h.1.1)
              | inr l ↦ before.1 (h.0, (l, h.1.1))
            ],
          ))
    ]
  ]

  pub put_in : (come rows : List R) (x : R) → IsIn x come ⊎ IsIn x rows
      → ((c : R) → IsIn c come → same c x ≡ true → c ≡ x) → IsIn x (with_all come rows)
  put_in [] rows x (inl i) only = absurd i
  put_in [] rows x (inr i) only = i
  put_in (r ∷ more) rows x (inl (inl e)) only =
      put_in more (with_row same r rows) x (inr (inl e)) (λ c i. only c (inr i))
  put_in (r ∷ more) rows x (inl (inr i)) only = put_in more (with_row same r rows) x (inl i) (λ c j. only c (inr j))
  put_in (r ∷ more) rows x (inr i) only =
      put_in more (with_row same r rows) x (inr (here (same r x) refl)) (λ c l. only c (inr l))
    where
      here : (b : Bool) → same r x ≡ b → IsIn x (with_row same r rows)
      here true e = inl (sym (only r (inl refl) e))
      here false e = inr (filter_in (λ y. not (same r y)) rows x i (ap not e))

  -- ---- one set of rows becomes another

  -- some rows go and some come, and so the old ones become the new ones
  pub record IsExchange (gone come old new : List R) : Type 0 where
    pub come_in : (x : R) → IsIn x come → IsIn x new
    pub new_from : (x : R) → IsIn x new → IsIn x come ⊎ (IsIn x old × (HasKeyOf x gone → ⊥))
    pub old_to : (x : R) → IsIn x old → IsIn x new ⊎ (HasKeyOf x gone ⊎ HasKeyOf x come)
    pub keyed : (c x : R) → IsIn c come → IsIn x new → same c x ≡ true → c ≡ x

  pub exchanged : (gone come old new : List R) → IsExchange gone come old new
      → SameItems (with_all come (all_without gone old)) new
  exchanged gone come old new h = (forth, back)
    where
      none_of : (x : R) → IsIn x old → (HasKeyOf x gone → ⊥) → (HasKeyOf x come → ⊥) → IsIn x new
      none_of x i not_gone not_come = elim (h.old_to x i) [
        | inl there ↦ there
        | inr of_key ↦ elim of_key [ inl g ↦ absurd (not_gone g) | inr c ↦ absurd (not_come c) ]
      ]

      forth : (x : R) → IsIn x (with_all come (all_without gone old)) → IsIn x new
      forth x i = elim (put_by come (all_without gone old) x i) [
        | inl here ↦ h.come_in x here
        | inr rest ↦ (let left = left_by gone old x rest.0 in none_of x left.0 left.1 rest.1)
      ]

      back : (x : R) → IsIn x new → IsIn x (with_all come (all_without gone old))
      back x i =
          put_in come (all_without gone old) x
          (elim (h.new_from x i) [ inl c ↦ inl c | inr o ↦ inr (left_in gone old x o.0 o.1) ])
          (λ c j e. h.keyed c x j i e)

  -- nothing goes or comes
  pub stays : (rows : List R) → IsExchange [] [] rows rows
  stays rows = record {
    come_in = λ x i. absurd i;
    new_from = λ x i. inr (i, λ h. h.1.0);
    old_to = λ x i. inl i;
    keyed = λ c x i. absurd i;
  }

  -- all rows go, and all that are to be come
  pub whole : (old new : List R) → ((x : R) → IsIn x old → same x x ≡ true)
      → ((c x : R) → IsIn c new → IsIn x new → same c x ≡ true → c ≡ x) → IsExchange old new old new
  whole old new itself keyed = record {
    come_in = λ x i. i;
    new_from = λ x i. inl i;
    old_to = λ x i. inr (inl (x, (i, itself x i)));
    keyed = keyed;
  }

-- ---- only the rows that differ go and come

module _ {R : Type 0} (same eq : R → R → Bool) (only : (a b : R) → Decides (eq a b) (a ≡ b))
    (gone come old new : List R) (h : IsExchange same gone come old new) (there : (x : R) → IsIn x gone → IsIn x old)
    (once : (g x : R) → IsIn g old → IsIn x old → same g x ≡ true → g ≡ x) where
  abbrev left : List R → List R → List R
  left rows others = filter (λ r. not (list_any (eq r) others)) rows

  left_of : (rows others : List R) (x : R) → IsIn x (left rows others) → IsIn x rows × (IsIn x others → ⊥)
  left_of rows others x i =
      let it = in_filter (λ r. not (list_any (eq r) others)) rows x i in
      (it.0, λ j. false≢true (ap not (sym (among_is eq only x others j)) ∙ it.1))

  either : (rows others : List R) (x : R) → IsIn x rows → IsIn x (left rows others) ⊎ IsIn x others
  either rows others x i = by (list_any (eq x) others) refl
    where
      by : (b : Bool) → list_any (eq x) others ≡ b → IsIn x (left rows others) ⊎ IsIn x others
      by true e = inr (is_among eq only x others e)
      by false e = inl (filter_in (λ r. not (list_any (eq r) others)) rows x i (ap not e))

  -- a row of the key of one that goes and comes again is that one
  stays_as : (g x : R) → IsIn g gone → IsIn g come → IsIn x old → same g x ≡ true → IsIn x new
  stays_as g x i j k e = subst (λ y. IsIn y new) (once g x (there g i) k e) (h.come_in g j)

  pub differ : IsExchange same (left gone come) (left come gone) old new
  differ = record {
    come_in = λ x i. h.come_in x (left_of come gone x i).0;
    new_from = λ x i. elim (h.new_from x i) [
      | inl c ↦ elim (either come gone x c) [
        | inl comes ↦ inl comes
        | inr goes ↦ inr (
          there x goes,
          λ k. (let g = left_of gone come k.0 k.1.0 in
              g.1 (subst (λ y. IsIn y come) (sym (once k.0 x (there k.0 g.0) (there x goes) k.1.1)) c)),
        )
      ]
      | inr o ↦ inr (o.0, λ k. o.1 (k.0, ((left_of gone come k.0 k.1.0).0, k.1.1)))
    ];
    old_to = λ x i. elim (h.old_to x i) [
      | inl stays ↦ inl stays
      | inr of_key ↦ elim of_key [
        | inl g ↦ elim (either gone come g.0 g.1.0) [
          | inl goes ↦ inr (inl (g.0, (goes, g.1.1)))
          | inr comes ↦ inl (stays_as g.0 x g.1.0 comes i g.1.1)
        ]
        | inr c ↦ elim (either come gone c.0 c.1.0) [
          | inl comes ↦ inr (inr (c.0, (comes, c.1.1)))
          | inr goes ↦ inl (stays_as c.0 x goes c.1.0 i c.1.1)
        ]
      ]
    ];
    keyed = λ c x i j e. h.keyed c x (left_of come gone c i).0 j e;
  }

-- ---- rows of the items of a list

-- the rows are those that each item gives, and some others
pub record AreRowsOf {E R : Type 0} (rows_of : E → List R) (items : List E) (rest rows : List R) : Type 0 where
  pub row_from : (r : R) → IsIn r rows → ((x : E) × (IsIn x items × IsIn r (rows_of x))) ⊎ IsIn r rest
  pub item_in : (x : E) (r : R) → IsIn x items → IsIn r (rows_of x) → IsIn r rows
  pub rest_in : (r : R) → IsIn r rest → IsIn r rows

pub rows_if_in : {E R : Type 0} (rows_of : E → List R) (o : Option E) (r : R) → IsIn r (rows_if rows_of o)
    → (x : E) × ((o ≡ Some x) × IsIn r (rows_of x))
rows_if_in rows_of None r i = absurd i
rows_if_in rows_of (Some x) r i = (x, (refl, i))

pub in_rows_if : {E R : Type 0} (rows_of : E → List R) (o : Option E) (x : E) (r : R) → o ≡ Some x → IsIn r (rows_of x)
    → IsIn r (rows_if rows_of o)
in_rows_if rows_of o x r is i = rw is i

module _ {R : Type 0} (same : R → R → Bool) where
  -- rows that stay the same need no change
  pub alike : (old new : List R) → SameItems old new → IsExchange same [] [] old new
  alike old new are = record {
    come_in = λ x i. absurd i;
    new_from = λ x i. inr (are.1 x i, λ h. h.1.0);
    old_to = λ x i. inl (are.0 x i);
    keyed = λ c x i. absurd i;
  }

  -- an item in place of another, where no row of another item, and none of the others, has the key of a row of these
  pub of_coming : {K E : Type 0} (key : E → K) (rows_of : E → List R) (gone come : Option E) (xs ys : List E)
      (rest old new : List R) → ((x : R) → IsIn x old → same x x ≡ true) → AreRowsOf rows_of xs rest old
      → AreRowsOf rows_of ys rest new → IsOneForOne key gone come xs ys
      → ((g x : E) (r s : R) → IsIn g xs → IsIn x xs → IsIn r (rows_of g) → IsIn s (rows_of x) → same r s ≡ true
      → key g ≡ key x)
      → ((g : E) (r s : R) → IsIn g xs → IsIn r (rows_of g) → IsIn s rest → same r s ≡ true → ⊥)
      → ((c : E) (r s : R) → come ≡ Some c → IsIn r (rows_of c) → IsIn s new → same r s ≡ true → r ≡ s)
      → IsExchange same (rows_if rows_of gone) (rows_if rows_of come) old new
  of_coming {K} {E} key rows_of gone come xs ys rest old new itself of_old of_new is apart others keyed = record {
    come_in = λ r i. (let c = rows_if_in rows_of come r i in of_new.item_in c.0 r (is.come_in c.0 c.1.0) c.1.1);
    new_from = λ r i. elim (of_new.row_from r i) [
      | inl at ↦ elim (is.new_from at.0 at.1.0) [
        | inl comes ↦ inl (in_rows_if rows_of come at.0 r comes at.1.1)
        | inr stays ↦ inr (
          of_old.item_in at.0 r stays.0 at.1.1,
          λ h.
              (let g = rows_if_in rows_of gone h.0 h.1.0 in
              stays.1 g.0 g.1.0
              (apart g.0 at.0 h.0 r (is.gone_from g.0 g.1.0) stays.0 g.1.1 at.1.1 h.1.1)),
        )
      ]
      | inr other ↦ inr (
        of_old.rest_in r other,
        λ h.
            (let g = rows_if_in rows_of gone h.0 h.1.0 in
            others g.0 h.0 r (is.gone_from g.0 g.1.0) g.1.1 other h.1.1),
      )
    ];
    old_to = λ r i. elim (of_old.row_from r i) [
      | inl at ↦ elim (is.old_to at.0 at.1.0) [
        | inl there ↦ inl (of_new.item_in at.0 r there at.1.1)
        | inr goes ↦ inr (inl (r, (in_rows_if rows_of gone at.0 r goes at.1.1, itself r i)))
      ]
      | inr other ↦ inl (of_new.rest_in r other)
    ];
    keyed = λ r s i j e. (let c = rows_if_in rows_of come r i in keyed c.0 r s c.1.0 c.1.1 j e);
  }

  -- the same, where no two of the new rows have the same key
  pub of_items : {K E : Type 0} (key : E → K) (rows_of : E → List R) (gone come : Option E) (xs ys : List E)
      (rest old new : List R) → ((x : R) → IsIn x old → same x x ≡ true) → AreRowsOf rows_of xs rest old
      → AreRowsOf rows_of ys rest new → IsOneForOne key gone come xs ys
      → ((g x : E) (r s : R) → IsIn g xs → IsIn x xs → IsIn r (rows_of g) → IsIn s (rows_of x) → same r s ≡ true
      → key g ≡ key x)
      → ((g : E) (r s : R) → IsIn g xs → IsIn r (rows_of g) → IsIn s rest → same r s ≡ true → ⊥)
      → ((c : E) (r s : R) → IsIn c ys → IsIn r (rows_of c) → IsIn s new → same r s ≡ true → r ≡ s)
      → IsExchange same (rows_if rows_of gone) (rows_if rows_of come) old new
  of_items key rows_of gone come xs ys rest old new itself of_old of_new is apart others keyed =
      of_coming key rows_of gone come xs ys rest old new itself of_old of_new is apart others
      (λ c r s e. keyed c r s (is.come_in c e))

-- the rows of an item that goes were there
pub gone_of : {E R : Type 0} (rows_of : E → List R) (gone : Option E) (xs : List E) (rest old : List R)
    → AreRowsOf rows_of xs rest old → ((x : E) → gone ≡ Some x → IsIn x xs) → (r : R) → IsIn r (rows_if rows_of gone)
    → IsIn r old
gone_of rows_of gone xs rest old of_old from r i =
    let g = rows_if_in rows_of gone r i in of_old.item_in g.0 r (from g.0 g.1.0) g.1.1
