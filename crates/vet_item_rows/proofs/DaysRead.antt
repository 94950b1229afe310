-- Last days and the register's day are read back from their rows.
use Rattle.std.proofs.Common.{◌≡◌, ◌∙◌, ◌<◌, ℕ, List, [], ◌∷◌, ◌++◌, Option, Some, None, map, refl, sym}
use Rattle.std.proofs.Common.{ap, subst, inl, inr}
use Rattle.std.specs.Cmp.{tied_itself}
use Rattle.std.specs.FinMap.{nat_cmp-IsAntisymmetric}
use Rattle.std.specs.List.{All, filter, flat_map}
use Rattle.std.specs.Ordering.{is_eq, nat_cmp}
use Rattle.std.proofs.lemmas.Cmp.{nat_cmp_total}
use Rattle.std.proofs.lemmas.List.Elements.{All-weaker}
use Rattle.vet_base.specs.Day.{DayValue}
use Rattle.vet_base.specs.Items.{IsIn, SameItems}
use Rattle.vet_base.proofs.Comparisons.{equal}
use Rattle.vet_base.proofs.ItemLemmas.{all_in, filter_in, in_all, in_append, in_filter, in_map, map_in}
use Rattle.vet_base.proofs.KeyedItems.{of_one_key}
use Rattle.vet_entries.specs.Facts.{Facts}
use Rattle.vet_entries.specs.Kind.{last_day_of}
use Rattle.vet_entries.specs.Numbered.{AreByNumber, entry_number}
use Rattle.vet_entries.specs.declared.entry.Source.TheVariants.{Own}
use Rattle.vet_entries.specs.declared.facts.HeldEntry.{HeldEntry}
use Rattle.vet_entries.specs.declared.kind.Kind.{Kind}
use Rattle.vet_entries.specs.declared.kind.Kind.TheVariants as kind
use Rattle.vet_item_rows.specs.DayRows.{IsPlain, days_at, entry_of_group, entry_with_first_day, filed_day_row}
use Rattle.vet_item_rows.specs.DayRows.{first_day, kind_with_first_day, last_days, last_rows, plain_entry, plain_facts}
use Rattle.vet_item_rows.specs.DayRows.{plain_kind, today_rows}
use Rattle.vet_item_rows.specs.EntryRows.{all_entries, entry_row, peer_entries, row_saying, unused, with_kind}
use Rattle.vet_item_rows.specs.Gathered.{gathered, is_filed_at, items_at}
use Rattle.vet_item_rows.specs.KindColumns.{KindColumns}
use Rattle.vet_item_rows.specs.ReadBack.{EachStandsFor, IsWritten}
use Rattle.vet_item_rows.specs.ReadFacts.{IsFiledDay}
use Rattle.vet_item_rows.specs.ReadHeld.{AreFactsValues, AreInForm, HasNoLastDays, entries_of_peer, sourced_entries}
use Rattle.vet_item_rows.specs.Values.{IsDay, IsHeldEntry, IsKind, MayBe}
use Rattle.vet_item_rows.specs.declared.read.gathered.WithKey.{WithKey}
use Rattle.vet_item_rows.proofs.FactsMade.{these_rows}
use Rattle.vet_item_rows.proofs.Gathering.{all_mapped, pairs_mapped}
use Rattle.vet_item_rows.proofs.PeersMade.{by_key}
use Rattle.vet_item_rows.proofs.Reading.{AreThose}
use Rattle.vet_item_rows.proofs.SetsRead.{items_read, they_stand}
use Rattle.vet_item_rows.proofs.Sourcing.{flat_in, in_flat, map_flat}
use Rattle.vet_tables.specs.Cells.{Row}

-- a day under a number
abbrev pub FiledDay : Type 0
FiledDay = WithKey ℕ DayValue

abbrev pub day_in : FiledDay → DayValue
day_in filed = filed.item

-- ---- the register's day

pub today_rows_are : (today : Option DayValue) → today_rows today ≡ map filed_day_row (days_at 1 today)
today_rows_are None = refl
today_rows_are (Some day) = refl

pub today_can : (today : Option DayValue) → MayBe IsDay today → All IsFiledDay (days_at 1 today)
today_can None can = all_in IsFiledDay [] (λ f none. absurd none)
today_can (Some day) can = all_in IsFiledDay (days_at 1 (Some day)) (λ f i. elim i [
  | inl e ↦ subst IsFiledDay (sym e) can
  | inr none ↦ absurd none
])

-- if there is one day or none, the first of them is that one, or none
pub first_is : (today : Option DayValue) (found : List FiledDay) → SameItems found (days_at 1 today)
    → first_day found ≡ today
first_is None [] same = refl
first_is None (f ∷ found) same = absurd (same.0 f (inl refl))
first_is (Some day) [] same = absurd (same.1 (record { key = 1; item = day }) (inl refl))
first_is (Some day) (f ∷ found) same = elim (same.0 f (inl refl)) [
  | inl e ↦ ap (λ (g : FiledDay). Some g.item) e
  | inr none ↦ absurd none
]

-- ---- the row of an entry

-- a kind has the same columns without its last day
same_columns : (k : Kind) → with_kind (plain_kind k) unused ≡ with_kind k unused
same_columns (kind.Full v a) = refl
same_columns (kind.Delta d a) = refl
same_columns (kind.Violation r a) = refl
same_columns (kind.Wildcard w g) = refl
same_columns (kind.Trusted w) = refl
same_columns (kind.Exemption v s l) = refl

same_rows : (entries : List HeldEntry) → map entry_row (map plain_entry entries) ≡ map entry_row entries
same_rows [] = refl
same_rows (h ∷ entries) =
    let first = ap (λ (said : KindColumns). row_saying h said) (same_columns h.entry.kind) in
    let rest = same_rows entries in
    λ i. first i ∷ rest i

pub plain_rows : (facts : Facts) → all_entries (plain_facts facts) ≡ all_entries facts
plain_rows facts = ap (λ rows. rows ++ flat_map peer_entries facts.peers) (same_rows facts.entries)

-- ---- facts without last days

plain_is : (k : Kind) → last_day_of (plain_kind k) ≡ None
plain_is (kind.Full v a) = refl
plain_is (kind.Delta d a) = refl
plain_is (kind.Violation r a) = refl
plain_is (kind.Wildcard w g) = refl
plain_is (kind.Trusted w) = refl
plain_is (kind.Exemption v s l) = refl

plain_kind_can : (k : Kind) → IsKind k → IsKind (plain_kind k)
plain_kind_can (kind.Full v a) can = can
plain_kind_can (kind.Delta d a) can = can
plain_kind_can (kind.Violation r a) can = can
plain_kind_can (kind.Wildcard w g) can = can
plain_kind_can (kind.Trusted w) can = can
plain_kind_can (kind.Exemption v s l) can = (can.0, tt)

plain_entry_can : (h : HeldEntry) → IsHeldEntry h → IsHeldEntry (plain_entry h)
plain_entry_can h can = record {
  source = can.source;
  of_package = can.of_package;
  kind = plain_kind_can h.entry.kind can.kind;
  criteria = can.criteria;
  notes = can.notes;
}

pub plain_values : (facts : Facts) → AreFactsValues facts → AreFactsValues (plain_facts facts)
plain_values facts values = record {
  criteria = values.criteria;
  entries = all_mapped plain_entry IsHeldEntry facts.entries
      (All-weaker IsHeldEntry (λ h. IsHeldEntry (plain_entry h)) plain_entry_can facts.entries values.entries);
  peers = values.peers;
  publishers = values.publishers;
  today = tt;
}

pub plain_form : (facts : Facts) → AreInForm facts → AreInForm (plain_facts facts)
plain_form facts form = record {
  criteria = form.criteria;
  by_number = pairs_mapped plain_entry (λ (a b : HeldEntry). a.number < b.number) facts.entries form.by_number;
  own = all_mapped plain_entry (λ (h : HeldEntry). h.entry.source ≡ Own) facts.entries form.own;
  by_name = form.by_name;
  peers = form.peers;
  theirs = form.theirs;
  plain = form.plain;
  packages = form.packages;
  in_order = form.in_order;
  few = form.few;
}

pub all_plain : (facts : Facts) → AreInForm facts → All IsPlain (sourced_entries (plain_facts facts))
all_plain facts form =
    all_in IsPlain (sourced_entries (plain_facts facts))
    (λ h i. elim (in_append (map plain_entry facts.entries) (flat_map entries_of_peer facts.peers) h i) [
      | inl own ↦ let g = in_map plain_entry facts.entries h own in
          subst IsPlain (sym g.1.1) (plain_is g.0.entry.kind)
      | inr other ↦ let p = in_flat entries_of_peer facts.peers h other in
          in_all IsPlain p.0.content.entries (in_all HasNoLastDays facts.peers form.plain p.0 p.1.0) h p.1.1
    ])

-- ---- last days are read

day_can : (k : Kind) (number : ℕ) (f : FiledDay) → IsKind k → IsIn f (days_at number (last_day_of k)) → IsFiledDay f
day_can (kind.Full v a) number f can none = absurd none
day_can (kind.Delta d a) number f can none = absurd none
day_can (kind.Violation r a) number f can none = absurd none
day_can (kind.Wildcard w g) number f can none = absurd none
day_can (kind.Trusted w) number f can none = absurd none
day_can (kind.Exemption v s None) number f can none = absurd none
day_can (kind.Exemption v s (Some day)) number f can (inl e) = subst IsFiledDay (sym e) can.1
day_can (kind.Exemption v s (Some day)) number f can (inr none) = absurd none

days_can : (entries : List HeldEntry) → All IsHeldEntry entries → All IsFiledDay (flat_map last_days entries)
days_can entries can =
    all_in IsFiledDay (flat_map last_days entries)
    (λ f i. (let h = in_flat last_days entries f i in
    day_can h.0.entry.kind h.0.number f (in_all IsHeldEntry entries can h.0 h.1.0).kind h.1.1))

module _ (entries : List HeldEntry) (can : All IsHeldEntry entries) (shown rows : List Row) (is : shown ≡ rows)
    (same : SameItems rows (flat_map last_rows entries)) where
  days_same : SameItems shown (map filed_day_row (flat_map last_days entries))
  days_same =
      these_rows (map filed_day_row (flat_map last_days entries)) _ shown rows is
      (map_flat filed_day_row last_days entries) same

  pub days_read : (found : List FiledDay) → AreThose (IsWritten IsFiledDay filed_day_row) shown found
      → SameItems found (flat_map last_days entries)
  days_read =
      items_read IsFiledDay filed_day_row shown (flat_map last_days entries) (days_can entries can) days_same

  pub days_stand : (xs : List FiledDay) × EachStandsFor (IsWritten IsFiledDay filed_day_row) shown xs
  days_stand =
      they_stand IsFiledDay filed_day_row shown (flat_map last_days entries) (days_can entries can) days_same

-- ---- each last day is put into its entry

-- an entry with the first of the days under its number
abbrev pub dated : List FiledDay → HeldEntry → HeldEntry
dated days h = entry_of_group (gathered nat_cmp entry_number days h)

pub dated_each : (days : List FiledDay) (entries : List HeldEntry)
    → map entry_of_group (map (gathered nat_cmp entry_number days) entries) ≡ map (dated days) entries
dated_each days [] = refl
dated_each days (h ∷ entries) = ap (λ rest. dated days h ∷ rest) (dated_each days entries)

-- numbers stay
pub dated_by_number : (days : List FiledDay) (entries : List HeldEntry) → AreByNumber entries
    → AreByNumber (map (dated days) entries)
dated_by_number days entries up =
    pairs_mapped (dated days) (λ (a b : HeldEntry). a.number < b.number) entries up

-- an entry gets its last day back
kind_back : (k : Kind) (number : ℕ) (days : List DayValue)
    → SameItems days (map day_in (days_at number (last_day_of k)))
    → kind_with_first_day days (plain_kind k) ≡ k
kind_back (kind.Full v a) number [] same = refl
kind_back (kind.Full v a) number (d ∷ days) same = refl
kind_back (kind.Delta d a) number [] same = refl
kind_back (kind.Delta d a) number (x ∷ days) same = refl
kind_back (kind.Violation r a) number [] same = refl
kind_back (kind.Violation r a) number (d ∷ days) same = refl
kind_back (kind.Wildcard w g) number [] same = refl
kind_back (kind.Wildcard w g) number (d ∷ days) same = refl
kind_back (kind.Trusted w) number [] same = refl
kind_back (kind.Trusted w) number (d ∷ days) same = refl
kind_back (kind.Exemption v s None) number [] same = refl
kind_back (kind.Exemption v s None) number (d ∷ days) same = absurd (same.0 d (inl refl))
kind_back (kind.Exemption v s (Some last)) number [] same = absurd (same.1 last (inl refl))
kind_back (kind.Exemption v s (Some last)) number (d ∷ days) same = elim (same.0 d (inl refl)) [
  | inl e ↦ ap (λ (x : DayValue). kind.Exemption v s (Some x)) e
  | inr none ↦ absurd none
]

entry_back : (h : HeldEntry) (days : List DayValue) → SameItems days (map day_in (last_days h))
    → entry_with_first_day days (plain_entry h) ≡ h
entry_back h days same =
    let of_kind = kind_back h.entry.kind h.number days same in
    λ i. record h { entry = record h.entry { kind = of_kind i } }

module _ (held : List HeldEntry) (up : AreByNumber held) (days : List FiledDay)
    (same : SameItems days (flat_map last_days held)) where
  -- the entry to which a day belongs
  owner : (f : FiledDay) → IsIn f days → (h : HeldEntry) × (IsIn h held × IsIn f (last_days h))
  owner f i = in_flat last_days held f (same.0 f i)

  number_of_day : (number : ℕ) (last : Option DayValue) (f : FiledDay) → IsIn f (days_at number last)
      → f.key ≡ number
  number_of_day number None f none = absurd none
  number_of_day number (Some day) f (inl e) = ap (λ (g : FiledDay). g.key) e
  number_of_day number (Some day) f (inr none) = absurd none

  -- the days under the number of an entry are its own
  group : (h : HeldEntry) → IsIn h held → SameItems (items_at nat_cmp h.number days) (map day_in (last_days h))
  group h i = (
    λ d j. (let f = in_map day_in (filter (is_filed_at nat_cmp h.number) days) d j in
        let at = in_filter (is_filed_at nat_cmp h.number) days f.0 f.1.0 in
        let g = owner f.0 at.0 in
        let tied = nat_cmp-IsAntisymmetric h.number f.0.key (equal (nat_cmp h.number f.0.key) at.1) in
        let of = number_of_day g.0.number (last_day_of g.0.entry.kind) f.0 g.1.1 in
        let one = of_one_key nat_cmp nat_cmp_total nat_cmp-IsAntisymmetric entry_number held (by_key held up) g.0 h
        g.1.0 i (sym of ∙ sym tied) in
        subst (λ x. IsIn x (map day_in (last_days h))) (sym f.1.1)
        (map_in day_in (last_days h) f.0 (subst (λ (x : HeldEntry). IsIn f.0 (last_days x)) one g.1.1))),
    λ d j. (let f = in_map day_in (last_days h) d j in
        let of = number_of_day h.number (last_day_of h.entry.kind) f.0 f.1.0 in
        let there = same.1 f.0 (flat_in last_days held h f.0 i f.1.0) in
        let filed = filter_in (is_filed_at nat_cmp h.number) days f.0 there
        (ap is_eq (ap (nat_cmp h.number) of ∙ tied_itself nat_cmp_total h.number)) in
        subst (λ x. IsIn x (items_at nat_cmp h.number days)) (sym f.1.1)
        (map_in day_in (filter (is_filed_at nat_cmp h.number) days) f.0 filed)),
  )

  each_back : (some : List HeldEntry) → ((h : HeldEntry) → IsIn h some → IsIn h held)
      → map (dated days) (map plain_entry some) ≡ some
  each_back [] within = refl
  each_back (h ∷ some) within =
      let first = entry_back h (items_at nat_cmp h.number days) (group h (within h (inl refl))) in
      let rest = each_back some (λ g i. within g (inr i)) in
      λ i. first i ∷ rest i

  pub all_back : map (dated days) (map plain_entry held) ≡ held
  all_back = each_back held (λ h i. i)
