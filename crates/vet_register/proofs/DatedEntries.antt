-- Own exemptions with a last day when files, whose entries have none, replace what is held.
use Rattle.std.proofs.Common.{◌≡◌, ◌∙◌, ℕ, ◌&&◌, Bool, true, false, not, is_some, List, filter, Option, Some, None}
use Rattle.std.proofs.Common.{refl, sym, ap, subst, inl, inr}
use Rattle.std.specs.List.{list_any}
use Rattle.std.proofs.lemmas.Bool.{cases_Bool, false≢true, not-true}
use Rattle.vet_base.specs.Criteria.{Criteria, least_unknown}
use Rattle.vet_base.specs.Items.{IsIn, SameItems}
use Rattle.vet_base.proofs.ItemLemmas.{all_in, any_in, filter_in, in_all, in_filter, in_map}
use Rattle.vet_entries.specs.declared.entry.Entry.{Entry}
use Rattle.vet_entries.specs.declared.entry.Source.{Source}
use Rattle.vet_entries.specs.declared.entry.Source.TheVariants.{Own}
use Rattle.vet_entries.specs.declared.facts.HeldEntry.{HeldEntry}
use Rattle.vet_entries.specs.Entry.{entry_eq, of_source}
use Rattle.vet_entries.specs.EntryLaws.{entry_eq-Decides}
use Rattle.vet_entries.specs.Kind.{has_last_day}
use Rattle.vet_entries.specs.Replaced.{as_of, comes_again, entries_after, is_dated, is_dated_beyond, stays_alone}
use Rattle.vet_entries.specs.ReplacedLaws.{entries_of}
use Rattle.vet_entries.proofs.ImportLaws.{entry_held, entry_taken}
use Rattle.vet_files.specs.SameContent.{AreUndated, undated}
use Rattle.vet_register.proofs.Lists.{none_pass}

abbrev pub IsUndated : Entry → Type 0
IsUndated e = has_last_day e.kind ≡ false

-- entries without a last day have none as entries of another source
pub undated_as_of : (source : Source) (entries : List Entry) → AreUndated entries
    → AreUndated (as_of source entries)
undated_as_of source entries none = all_in IsUndated (as_of source entries) (λ e i.
    (let x = in_map (of_source source) entries e i in
    ap (λ (y : Entry). has_last_day y.kind) x.1.1 ∙ in_all IsUndated entries none x.0 x.1.0))

module _ (entries : List Entry) (none : AreUndated entries) where
  -- an exemption with a last day is not among them
  never_comes : (h : HeldEntry) → is_dated h ≡ true → comes_again (as_of Own entries) h ≡ false
  never_comes h dated = elim (cases_Bool (comes_again (as_of Own entries) h)) [
    | inl again ↦
        (let x = any_in (entry_eq h.entry) (as_of Own entries) again in
        let same : h.entry ≡ x.0 = (entry_eq-Decides h.entry x.0).0 x.1.1 in
        let has_none : has_last_day x.0.kind ≡ false =
        in_all IsUndated (as_of Own entries) (undated_as_of Own entries none) x.0 x.1.0 in
        absurd (false≢true (sym has_none ∙ ap (λ (y : Entry). has_last_day y.kind) (sym same) ∙ dated)))
    | inr other ↦ other
  ]

  alone : (h : HeldEntry) → stays_alone is_dated (as_of Own entries) h ≡ is_dated h
  alone h = by (is_dated h) refl
    where
      by : (b : Bool) → is_dated h ≡ b → (b && not (comes_again (as_of Own entries) h)) ≡ b
      by true dated = ap not (never_comes h dated)
      by false other = refl

  -- so each of them is kept without being given
  pub dated_alone : (held : List HeldEntry)
      → filter (stays_alone is_dated (as_of Own entries)) held ≡ filter is_dated held
  dated_alone held = λ i. filter (λ h. alone h i) held

  -- ---- the entries afterwards, apart from these

  abbrev Undated : Entry → Bool
  Undated e = not (has_last_day e.kind)

  module _ (next : ℕ) (held : List HeldEntry) where
    abbrev after : List HeldEntry
    after = entries_after is_dated Own next held entries

    comes : (e : Entry) → IsIn e (as_of Own entries) → IsIn e (undated (entries_of after))
    comes e i =
        filter_in Undated (entries_of after) e (entry_held is_dated Own next held entries e i)
        (ap not (in_all IsUndated (as_of Own entries) (undated_as_of Own entries none) e i))

    taken : (e : Entry) (h : HeldEntry) → e ≡ h.entry → IsUndated e → IsIn h after → IsIn e (as_of Own entries)
    taken e h is plain i = elim (entry_taken is_dated Own next held entries h i) [
      | inl stays ↦ absurd (false≢true (sym plain ∙ ap (λ (y : Entry). has_last_day y.kind) is ∙ stays.1))
      | inr given ↦ subst (λ y. IsIn y (as_of Own entries)) (sym is) given
    ]

    left : (e : Entry) → IsIn e (undated (entries_of after)) → IsIn e (as_of Own entries)
    left e i =
        let among = in_filter Undated (entries_of after) e i in
        let h = in_map (λ (g : HeldEntry). g.entry) after e among.0 in
        taken e h.0 h.1.1 (not-true (has_last_day e.kind) among.1) h.1.0

    -- apart from exemptions with a last day, the entries given are held afterwards, and nothing else
    pub left_undated : SameItems (as_of Own entries)
        (undated (entries_of (entries_after is_dated Own next held entries)))
    left_undated = (comes, left)

-- ---- their criteria

-- one that names no criterion beyond a table names known ones
pub dated_known : (t : Criteria) (entries : List HeldEntry) → list_any (is_dated_beyond t) entries ≡ false
    → (h : HeldEntry) → IsIn h entries → is_dated h ≡ true → least_unknown t h.entry.criteria ≡ None
dated_known t entries none h i dated =
    by (is_dated h) (least_unknown t h.entry.criteria) dated
    (in_all (λ g. is_dated_beyond t g ≡ false) entries (none_pass (is_dated_beyond t) entries none) h i)
  where
    by : (b : Bool) (o : Option (List ℕ)) → b ≡ true → (b && is_some o) ≡ false → o ≡ None
    by true None dated h = refl
    by true (Some n) dated h = absurd (false≢true (sym h))
    by false o dated h = absurd (false≢true dated)
