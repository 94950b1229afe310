-- What a change of the desk makes of its rows.
use Rattle.std.proofs.Common.{◌≡◌, ℕ, pos, inl, inr, true, List, [], ◌∷◌, ◌++◌, map, refl, sym, ap, ◌∙◌}
use Rattle.std.proofs.Common.{subst, Bool, Option, Some, None, arith}
use Rattle.std.specs.List.{slice_get}
use Rattle.std.specs.Prelude.{option_map, slice_set}
use Rattle.std.specs.Ordering.{nat_cmp}
use Rattle.std.specs.FinMap.{nat_cmp-IsAntisymmetric}
use Rattle.std.specs.Cmp.Lexicographic.{slice_cmp}
use Rattle.std.proofs.lemmas.Cmp.{nat_cmp_total, nat_list_cmp_total}
use Rattle.std.proofs.lemmas.Option.{get_or_from_slice_get, slice_get_within}
use Rattle.vet_base.specs.Items.{IsIn}
use Rattle.vet_base.specs.Keyed as keyed
use Rattle.vet_base.specs.Keyed.{IsByKey}
use Rattle.vet_base.specs.Words.{Name}
use Rattle.vet_base.proofs.ItemLemmas.{in_append, in_back, in_front, in_map}
use Rattle.vet_base.proofs.KeyedItems.{of_one_key}
use Rattle.vet_base.proofs.Rising.{only_equal}
use Rattle.vet_desk.specs.declared.change.DeskChange.{DeskChange}
use Rattle.vet_desk.specs.declared.change.DeskChange.TheVariants.{Join, Open, Turn, Finish}
use Rattle.vet_desk.specs.declared.review.Review.{Review}
use Rattle.vet_desk.specs.declared.review.ReviewState.{ReviewState}
use Rattle.vet_desk.specs.declared.review.ReviewState.TheVariants.{Finished}
use Rattle.vet_desk.specs.Desk.{DeskState, own_name}
use Rattle.vet_desk.specs.DeskView.{DeskRoom, FitsDesk, desk_changed, with_state_there}
use Rattle.vet_desk.specs.Review.{in_state, review_number}
use Rattle.vet_item_rows.specs.DeskRows.{member_row, review_row}
use Rattle.vet_rows.specs.DeskChanges.{desk_change_exchanges, the_member, the_review}
use Rattle.vet_rows.specs.KeyedItems.{added_item, removed_item, rows_if}
use Rattle.vet_rows.proofs.ExchangeParts.{Leads}
use Rattle.vet_rows.proofs.Exchanges.{IsExchange, of_items, stays}
use Rattle.vet_rows.proofs.KeyedExchanges.{IsOneForOne, edit_is, swap_is}
use Rattle.vet_rows.proofs.RowViews.{only_mapped}
use Rattle.vet_rows.proofs.FitDesk.{members_fit, reviews_fit}
use Rattle.vet_rows.proofs.SameKeys.{number_at, own_key, same_number, same_text, same_whole, text_at}
use Rattle.vet_tables.specs.Cells.{Row, same_key}
use Rattle.vet_tables.specs.Forms.{form_of}
use Rattle.vet_tables.specs.declared.table_name.DeskTable.TheVariants.{Members, Reviews}
use Rattle.vet_tables.specs.declared.table_name.TableName.TheVariants as table

abbrev same_member : Row → Row → Bool
same_member = same_key (form_of (table.Desk Members))

abbrev same_review : Row → Row → Bool
same_review = same_key (form_of (table.Desk Reviews))

-- ---- members

members_keyed : (names : List Name) (r s : Row) → IsIn r (map member_row names) → IsIn s (map member_row names)
    → same_member r s ≡ true → r ≡ s
members_keyed names r s i j = same_whole (table.Desk Members) refl r s (members_fit names r i) (members_fit names s j)

one_member : (g x : Name) (r s : Row) → IsIn r (the_member g) → IsIn s (the_member x) → text_at 0 r ≡ text_at 0 s
    → g ≡ x
one_member g x r s (inl a) (inl b) e = ap (text_at 0) (sym a) ∙ e ∙ ap (text_at 0) b
one_member g x r s (inl a) (inr none) e = absurd none
one_member g x r s (inr none) b e = absurd none

pub members_become : (change : DeskChange) (old : DeskState) (room : DeskRoom) (entry : Option ℕ)
    → FitsDesk change (record { content = old; room = room }) → IsByKey (slice_cmp nat_cmp) own_name old.members
    → Leads (table.Desk Members) (desk_change_exchanges change entry old) (map member_row old.members)
    (map member_row (desk_changed change entry old).members)
members_become (Join change) old room entry fits up =
    let new = keyed.edited change old.members in
    of_items same_member own_name the_member (removed_item change old.members) (added_item change) old.members new []
    (map member_row old.members) (map member_row new)
    (λ r i. own_key (table.Desk Members) r (members_fit old.members r i))
    (only_mapped member_row old.members) (only_mapped member_row new)
    (edit_is (slice_cmp nat_cmp) nat_list_cmp_total only_equal own_name change
    (record { items = old.members; room = room.members }) up fits)
    (λ g x r s i j a b e. one_member g x r s a b (same_text (table.Desk Members) r s e 0 (omega arith)))
    (λ g r s i a none e. none)
    (λ c r s i a j e. members_keyed new r s ((only_mapped member_row new).item_in c r i a) j e)
members_become (Open review) old room entry fits up = stays same_member (map member_row old.members)
members_become (Turn place state) old room entry fits up = stays same_member (map member_row old.members)
members_become (Finish place made) old room None fits up = stays same_member (map member_row old.members)
members_become (Finish place made) old room (Some number) fits up = stays same_member (map member_row old.members)

-- ---- reviews

same_pos : (m n : ℕ) → pos m ≡ pos n → m ≡ n
same_pos m n e = cc e

one_number : (g x : Review) (r s : Row) → IsIn r (the_review g) → IsIn s (the_review x) → same_review r s ≡ true
    → g.number ≡ x.number
one_number g x r s (inl a) (inl b) e =
    same_pos g.number x.number
    (ap (number_at 0) (sym a) ∙ same_number (table.Desk Reviews) r s e 0 (omega arith) ∙ ap (number_at 0) b)
one_number g x r s (inl a) (inr none) e = absurd none
one_number g x r s (inr none) b e = absurd none

review_exchange : (gone come : Option Review) (old new : List Review) → IsByKey nat_cmp review_number new
    → IsOneForOne review_number gone come old new
    → IsExchange same_review (rows_if the_review gone) (rows_if the_review come) (map review_row old)
    (map review_row new)
review_exchange gone come old new up is =
    of_items same_review review_number the_review gone come old new [] (map review_row old)
    (map review_row new) (λ r i. own_key (table.Desk Reviews) r (reviews_fit old r i)) (only_mapped review_row old)
    (only_mapped review_row new) is
    (λ g x r s i j a b e. one_number g x r s a b e)
    (λ g r s i a none e. none)
    (λ c r s i a j e. (let x = in_map review_row new s j in keyed c x.0 r s i x.1.0 a (inl x.1.1) e))
  where
    keyed : (c x : Review) (r s : Row) → IsIn c new → IsIn x new → IsIn r (the_review c) → IsIn s (the_review x)
        → same_review r s ≡ true → r ≡ s
    keyed c x r s i j (inl a) (inl b) e =
        a ∙ ap review_row (of_one_key nat_cmp nat_cmp_total nat_cmp-IsAntisymmetric review_number new up c x i j
        (one_number c x r s (inl a) (inl b) e)) ∙ sym b
    keyed c x r s i j (inl a) (inr none) e = absurd none
    keyed c x r s i j (inr none) b e = absurd none

opened : (reviews : List Review) (review : Review)
    → IsOneForOne review_number None (Some review) reviews (reviews ++ review ∷ [])
opened reviews review = record {
  come_in = λ x e. in_back reviews (review ∷ []) x (inl (cc e));
  gone_from = λ x e. absurd (cc e);
  new_from = λ x i. elim (in_append reviews (review ∷ []) x i) [
    | inl there ↦ inr (there, λ g e. absurd (cc e))
    | inr here ↦ elim here [ inl same ↦ inl (ap Some (sym same)) | inr none ↦ absurd none ]
  ];
  old_to = λ x i. inl (in_front reviews (review ∷ []) x i);
}

turned : (reviews : List Review) (place : ℕ) (state : ReviewState) (review : Review)
    → IsByKey nat_cmp review_number reviews → slice_get reviews place ≡ Some review
    → IsOneForOne review_number (slice_get reviews place) (Some (in_state state review)) reviews
    (slice_set reviews place (in_state state review))
turned reviews place state review up at =
    swap_is nat_cmp nat_cmp_total nat_cmp-IsAntisymmetric review_number reviews place (in_state state review) up (
      slice_get_within reviews place review at,
      λ d. ap review_number (get_or_from_slice_get reviews place review d at),
    )

turn : (reviews : List Review) (place : ℕ) (state : ReviewState) (found : Option Review)
    → IsByKey nat_cmp review_number reviews
    → IsByKey nat_cmp review_number (with_state_there found place state reviews) → slice_get reviews place ≡ found
    → IsExchange same_review (rows_if the_review found) (rows_if the_review (option_map (in_state state) found))
    (map review_row reviews) (map review_row (with_state_there found place state reviews))
turn reviews place state None up up_new at = stays same_review (map review_row reviews)
turn reviews place state (Some review) up up_new at =
    review_exchange (Some review) (Some (in_state state review)) reviews
    (slice_set reviews place (in_state state review)) up_new
    (subst (λ f. IsOneForOne review_number f (Some (in_state state review)) reviews
    (slice_set reviews place (in_state state review))) at (turned reviews place state review up at))

pub reviews_become : (change : DeskChange) (old : DeskState) (entry : Option ℕ)
    → IsByKey nat_cmp review_number old.reviews
    → IsByKey nat_cmp review_number (desk_changed change entry old).reviews
    → Leads (table.Desk Reviews) (desk_change_exchanges change entry old) (map review_row old.reviews)
    (map review_row (desk_changed change entry old).reviews)
reviews_become (Join change) old entry up up_new = stays same_review (map review_row old.reviews)
reviews_become (Open review) old entry up up_new =
    review_exchange None (Some review) old.reviews (old.reviews ++ review ∷ []) up_new (opened old.reviews review)
reviews_become (Turn place state) old entry up up_new =
    turn old.reviews place state (slice_get old.reviews place) up up_new refl
reviews_become (Finish place made) old None up up_new = stays same_review (map review_row old.reviews)
reviews_become (Finish place made) old (Some number) up up_new =
    turn old.reviews place (Finished number) (slice_get old.reviews place) up up_new refl
