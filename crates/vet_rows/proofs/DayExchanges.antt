-- The exchanges of an edit lead to the rows of last days and of the register's day after it.
use Rattle.std.proofs.Common.{◌≡◌, ◌∙◌, ℕ, pos, inl, inr, true, [], Bool, Option, Some, None, arith, map}
use Rattle.std.proofs.Common.{refl, sym, ap, subst}
use Rattle.std.specs.List.{slice_get}
use Rattle.vet_base.specs.Day.{DayValue}
use Rattle.vet_base.specs.Items.{IsIn}
use Rattle.vet_entries.specs.Facts.{Facts, Fits, Room, edited}
use Rattle.vet_entries.specs.Kind.{last_day_of}
use Rattle.vet_entries.specs.declared.facts.Edit.{Edit}
use Rattle.vet_entries.specs.declared.facts.Edit.TheVariants as edit
use Rattle.vet_entries.specs.declared.facts.HeldEntry.{HeldEntry}
use Rattle.vet_item_rows.specs.DayRows.{dated_row, days_at, filed_day_row, last_rows, today_rows}
use Rattle.vet_register.specs.declared.held.HeldEdit.{HeldEdit}
use Rattle.vet_register.specs.declared.held.HeldEdit.TheVariants as held
use Rattle.vet_register.specs.Held as holds
use Rattle.vet_register.specs.Held.{HeldRoom, HeldValue, held_with}
use Rattle.vet_rows.specs.DayChanges.{day_exchanges, fact_day_exchanges}
use Rattle.vet_rows.specs.DayRows.{all_last_rows, rows_of_days}
use Rattle.vet_rows.specs.KeyedItems.{rows_if}
use Rattle.vet_rows.specs.RowExchanges.{same_row}
use Rattle.vet_tables.specs.Cells.{Row, same_key}
use Rattle.vet_tables.specs.Forms.{form_of}
use Rattle.vet_tables.specs.declared.table_name.DaysTable.{DaysTable}
use Rattle.vet_tables.specs.declared.table_name.DaysTable.TheVariants.{Lasts, Today}
use Rattle.vet_tables.specs.declared.table_name.TableName.TheVariants as table
use Rattle.vet_rows.proofs.ExchangeParts.{Leads, LeadsByDifference, added_by, of_table, removed_by}
use Rattle.vet_rows.proofs.Exchanges.{IsExchange, differ, gone_of, of_items, stays, whole}
use Rattle.vet_rows.proofs.FactsExchanges.{HaveKeys}
use Rattle.vet_rows.proofs.FitDays.{lasts_fit, today_fit}
use Rattle.vet_rows.proofs.HeldExchanges.{HaveTexts, rows_decide}
use Rattle.vet_rows.proofs.KeyedExchanges.{IsOneForOne, put_is, take_is}
use Rattle.vet_rows.proofs.ListEdits.{flat_in, in_flat}
use Rattle.vet_rows.proofs.RowViews.{only_flat}
use Rattle.vet_rows.proofs.SameKeys.{own_key, same_number}

-- ---- the one row of the register's day

abbrev same_today : Row → Row → Bool
same_today = same_key (form_of (table.Days Today))

pub one_day : (today : Option DayValue) (r s : Row) → IsIn r (today_rows today) → IsIn s (today_rows today) → r ≡ s
one_day None r s none j = absurd none
one_day (Some day) r s (inl a) (inl b) = a ∙ sym b
one_day (Some day) r s (inl a) (inr none) = absurd none
one_day (Some day) r s (inr none) j = absurd none

-- it is removed, and that of another day is added
day_for_day : (old new : Option DayValue)
    → IsExchange same_today (today_rows old) (today_rows new) (today_rows old) (today_rows new)
day_for_day old new =
    whole same_today (today_rows old) (today_rows new) (λ r i. own_key (table.Days Today) r (today_fit old r i))
    (λ c x i j e. one_day new c x i j)

fact_today : (e : Edit) (old : Facts)
    → Leads (table.Days Today) (fact_day_exchanges e old) (today_rows old.today) (today_rows (edited e old).today)
fact_today (edit.Criteria criteria) old = stays same_today (today_rows old.today)
fact_today (edit.Insert place entry) old = stays same_today (today_rows old.today)
fact_today (edit.Remove place) old = stays same_today (today_rows old.today)
fact_today (edit.Peer change) old = stays same_today (today_rows old.today)
fact_today (edit.Settings settings) old = stays same_today (today_rows old.today)
fact_today (edit.Content name content) old = stays same_today (today_rows old.today)
fact_today (edit.Publishers change) old = stays same_today (today_rows old.today)
fact_today (edit.Today day) old = day_for_day old.today day

held_today : (e : HeldEdit) (old : HeldValue)
    → Leads (table.Days Today) (day_exchanges e old) (today_rows old.facts.today)
    (today_rows (holds.edited e old).facts.today)
held_today (held.Facts e) old = fact_today e old.facts
held_today (held.Policies e) old = stays same_today (today_rows old.facts.today)
held_today (held.Projects e) old = stays same_today (today_rows old.facts.today)
held_today held.Nothing old = stays same_today (today_rows old.facts.today)
held_today (held.Files files) old = day_for_day old.facts.today files.facts.content.today

-- the row that is removed is there
fact_today_there : (e : Edit) (old : Facts) (r : Row)
    → IsIn r (removed_by (fact_day_exchanges e old) (table.Days Today)) → IsIn r (today_rows old.today)
fact_today_there (edit.Criteria criteria) old r i = absurd i
fact_today_there (edit.Insert place entry) old r i = absurd i
fact_today_there (edit.Remove place) old r i = absurd i
fact_today_there (edit.Peer change) old r i = absurd i
fact_today_there (edit.Settings settings) old r i = absurd i
fact_today_there (edit.Content name content) old r i = absurd i
fact_today_there (edit.Publishers change) old r i = absurd i
fact_today_there (edit.Today day) old r i = i

today_there : (e : HeldEdit) (old : HeldValue) (r : Row) → IsIn r (removed_by (day_exchanges e old) (table.Days Today))
    → IsIn r (today_rows old.facts.today)
today_there (held.Facts e) old r i = fact_today_there e old.facts r i
today_there (held.Policies e) old r i = absurd i
today_there (held.Projects e) old r i = absurd i
today_there held.Nothing old r i = absurd i
today_there (held.Files files) old r i = i

pub today_differs : (old : HeldValue) (e : HeldEdit)
    → LeadsByDifference (table.Days Today) (of_table (day_exchanges e old) (table.Days Today))
    (today_rows old.facts.today) (today_rows (holds.edited e old).facts.today)
today_differs old e =
    differ same_today same_row rows_decide (removed_by (day_exchanges e old) (table.Days Today))
    (added_by (day_exchanges e old) (table.Days Today)) (today_rows old.facts.today)
    (today_rows (holds.edited e old).facts.today) (held_today e old) (today_there e old)
    (λ g x i j e. one_day old.facts.today g x i j)

-- ---- rows of last days

abbrev same_last : Row → Row → Bool
same_last = same_key (form_of (table.Days Lasts))

-- the day of a row
row_of_day : (number : ℕ) (last : Option DayValue) (r : Row) → IsIn r (map filed_day_row (days_at number last))
    → (day : DayValue) × ((last ≡ Some day) × (r ≡ dated_row (pos number) day))
row_of_day number None r none = absurd none
row_of_day number (Some day) r (inl e) = (day, (refl, e))
row_of_day number (Some day) r (inr none) = absurd none

same_pos : (m n : ℕ) → pos m ≡ pos n → m ≡ n
same_pos m n e = cc e

same_days : {a b : DayValue} → Some a ≡ Some b → a ≡ b
same_days e = cc e

-- rows of one key are of entries of one number
same_entry : (g h : HeldEntry) (r s : Row) → IsIn r (last_rows g) → IsIn s (last_rows h) → same_last r s ≡ true
    → g.number ≡ h.number
same_entry g h r s i j e =
    let a = row_of_day g.number (last_day_of g.entry.kind) r i in
    let b = row_of_day h.number (last_day_of h.entry.kind) s j in
    same_pos g.number h.number
    (same_number (table.Days Lasts) (dated_row (pos g.number) a.0) (dated_row (pos h.number) b.0)
    (subst (λ x. same_last x (dated_row (pos h.number) b.0) ≡ true) a.1.1
    (subst (λ x. same_last r x ≡ true) b.1.1 e)) 0 (omega arith))

-- and an entry has only one
one_last : (h : HeldEntry) (r s : Row) → IsIn r (last_rows h) → IsIn s (last_rows h) → r ≡ s
one_last h r s i j =
    let a = row_of_day h.number (last_day_of h.entry.kind) r i in
    let b = row_of_day h.number (last_day_of h.entry.kind) s j in
    a.1.1 ∙ ap (dated_row (pos h.number)) (same_days (sym a.1.0 ∙ b.1.0)) ∙ sym b.1.1

pub lasts_keyed : (facts : Facts) → HaveKeys facts → (r s : Row) → IsIn r (all_last_rows facts)
    → IsIn s (all_last_rows facts) → same_last r s ≡ true → r ≡ s
lasts_keyed facts k r s i j e =
    let g = in_flat last_rows facts.entries r i in
    let h = in_flat last_rows facts.entries s j in
    let one = k.once g.0 h.0 (inl g.1.0) (inl h.1.0) (same_entry g.0 h.0 r s g.1.1 h.1.1 e) in
    one_last h.0 r s (subst (λ (x : HeldEntry). IsIn r (last_rows x)) one g.1.1) h.1.1

-- the exchange of one entry's last day for another's
last_for_last : (old new : Facts) (gone come : Option HeldEntry) → HaveKeys new
    → IsOneForOne (λ (h : HeldEntry). h.number) gone come old.entries new.entries
    → IsExchange same_last (rows_if last_rows gone) (rows_if last_rows come) (all_last_rows old) (all_last_rows new)
last_for_last old new gone come l is =
    of_items same_last (λ (h : HeldEntry). h.number) last_rows gone come old.entries new.entries [] (all_last_rows old)
    (all_last_rows new) (λ r i. own_key (table.Days Lasts) r (lasts_fit old.entries r i))
    (only_flat last_rows old.entries) (only_flat last_rows new.entries) is
    (λ g x r s i j a b e. same_entry g x r s a b e)
    (λ g r s i a none e. none)
    (λ c r s i a j e. lasts_keyed new l r s (flat_in last_rows new.entries c r i a) j e)

module _ (old : Facts) (room : Room) (k : HaveKeys old) where
  lasts_become : (e : Edit) → Fits e (record { content = old; room = room }) → HaveKeys (edited e old)
      → Leads (table.Days Lasts) (fact_day_exchanges e old) (all_last_rows old) (all_last_rows (edited e old))
  lasts_become (edit.Criteria criteria) fits l = stays same_last (all_last_rows old)
  lasts_become (edit.Insert place entry) fits l =
      last_for_last old (edited (edit.Insert place entry) old) None (Some entry) l
      (put_is (λ (h : HeldEntry). h.number) old.entries place entry)
  lasts_become (edit.Remove place) fits l =
      last_for_last old (edited (edit.Remove place) old) (slice_get old.entries place) None l
      (take_is (λ (h : HeldEntry). h.number) old.entries place k.numbers)
  lasts_become (edit.Peer change) fits l = stays same_last (all_last_rows old)
  lasts_become (edit.Settings settings) fits l = stays same_last (all_last_rows old)
  lasts_become (edit.Content name content) fits l = stays same_last (all_last_rows old)
  lasts_become (edit.Publishers change) fits l = stays same_last (all_last_rows old)
  lasts_become (edit.Today day) fits l = stays same_last (all_last_rows old)

  fact_lasts_there : (e : Edit) (r : Row) → IsIn r (removed_by (fact_day_exchanges e old) (table.Days Lasts))
      → IsIn r (all_last_rows old)
  fact_lasts_there (edit.Criteria criteria) r i = absurd i
  fact_lasts_there (edit.Insert place entry) r i = absurd i
  fact_lasts_there (edit.Remove place) r i =
      gone_of last_rows (slice_get old.entries place) old.entries [] (all_last_rows old)
      (only_flat last_rows old.entries)
      (take_is (λ (h : HeldEntry). h.number) old.entries place k.numbers).gone_from r i
  fact_lasts_there (edit.Peer change) r i = absurd i
  fact_lasts_there (edit.Settings settings) r i = absurd i
  fact_lasts_there (edit.Content name content) r i = absurd i
  fact_lasts_there (edit.Publishers change) r i = absurd i
  fact_lasts_there (edit.Today day) r i = absurd i

module _ (old : HeldValue) (room : HeldRoom) (k : HaveTexts old) where
  held_lasts : (e : HeldEdit) → holds.Fits e (held_with old room) → HaveTexts (holds.edited e old)
      → Leads (table.Days Lasts) (day_exchanges e old) (all_last_rows old.facts)
      (all_last_rows (holds.edited e old).facts)
  held_lasts (held.Facts e) fits l = lasts_become old.facts room.facts k.facts e fits l.facts
  held_lasts (held.Policies e) fits l = stays same_last (all_last_rows old.facts)
  held_lasts (held.Projects e) fits l = stays same_last (all_last_rows old.facts)
  held_lasts held.Nothing fits l = stays same_last (all_last_rows old.facts)
  held_lasts (held.Files files) fits l =
      whole same_last (all_last_rows old.facts) (all_last_rows files.facts.content)
      (λ r i. own_key (table.Days Lasts) r (lasts_fit old.facts.entries r i))
      (lasts_keyed files.facts.content l.facts)

  lasts_there : (e : HeldEdit) (r : Row) → IsIn r (removed_by (day_exchanges e old) (table.Days Lasts))
      → IsIn r (all_last_rows old.facts)
  lasts_there (held.Facts e) r i = fact_lasts_there old.facts room.facts k.facts e r i
  lasts_there (held.Policies e) r i = absurd i
  lasts_there (held.Projects e) r i = absurd i
  lasts_there held.Nothing r i = absurd i
  lasts_there (held.Files files) r i = i

  pub lasts_differ : (e : HeldEdit) → holds.Fits e (held_with old room) → HaveTexts (holds.edited e old)
      → LeadsByDifference (table.Days Lasts) (of_table (day_exchanges e old) (table.Days Lasts))
      (all_last_rows old.facts) (all_last_rows (holds.edited e old).facts)
  lasts_differ e fits l =
      differ same_last same_row rows_decide (removed_by (day_exchanges e old) (table.Days Lasts))
      (added_by (day_exchanges e old) (table.Days Lasts)) (all_last_rows old.facts)
      (all_last_rows (holds.edited e old).facts)
      (held_lasts e fits l) (lasts_there e) (lasts_keyed old.facts k.facts)

  -- ---- in each table of days

  pub days_become : (e : HeldEdit) → holds.Fits e (held_with old room) → HaveTexts (holds.edited e old)
      → (t : DaysTable) → LeadsByDifference (table.Days t) (of_table (day_exchanges e old) (table.Days t))
      (rows_of_days old.facts t) (rows_of_days (holds.edited e old).facts t)
  days_become e fits l Today = today_differs old e
  days_become e fits l Lasts = lasts_differ e fits l

-- ---- rows of one key are the same row

pub days_keyed : (facts : Facts) → HaveKeys facts → (t : DaysTable) (r s : Row) → IsIn r (rows_of_days facts t)
    → IsIn s (rows_of_days facts t) → same_key (form_of (table.Days t)) r s ≡ true → r ≡ s
days_keyed facts k Today r s i j e = one_day facts.today r s i j
days_keyed facts k Lasts r s i j e = lasts_keyed facts k r s i j e
