-- Peers and their tables, made of items in whatever order.
use Rattle.std.proofs.Common.{◌≡◌, ◌≢◌, ◌≤◌, List, [], ◌∷◌, ◌∙◌, length, map, get_or, refl, sym, ap, subst}
use Rattle.std.proofs.Common.{arith}
use Rattle.std.proofs.Common.{Less, inl, inr}
use Rattle.std.specs.List.{AllPairs}
use Rattle.std.specs.Ordering.{nat_cmp}
use Rattle.std.specs.Prelude.{Err, Ok}
use Rattle.vet_base.specs.Gives.{Told}
use Rattle.vet_base.specs.declared.refusal.Refusal.{Refusal}
use Rattle.std.specs.FinMap.{nat_cmp-IsAntisymmetric}
use Rattle.std.specs.Cmp.{nat_cmp_is}
use Rattle.std.proofs.lemmas.Cmp.{nat_cmp_total, nat_list_cmp_total, ranked}
use Rattle.vet_base.specs.Criteria.{Criteria, IsTable}
use Rattle.vet_base.specs.Criterion.{criterion_name}
use Rattle.vet_base.specs.Defined.{defined, table_told}
use Rattle.vet_base.specs.FurtherCriteria.{further}
use Rattle.vet_base.specs.Items.{IsIn, SameItems}
use Rattle.vet_base.specs.Keyed.{IsByKey, all_set}
use Rattle.vet_base.specs.Words.{Name}
use Rattle.vet_base.specs.declared.criterion.Criterion.{Criterion}
use Rattle.vet_base.specs.declared.limits.TheConstants.{MOST_PEER_CRITERIA}
use Rattle.vet_base.proofs.DefinitionLaws.{same_definitions}
use Rattle.vet_base.proofs.FurtherLaws.{further_are_defined}
use Rattle.vet_base.proofs.FurtherOrder.{AreNamed, defined_named, further_by_name, further_free, further_once}
use Rattle.vet_base.proofs.FurtherOrder.{told_again}
use Rattle.vet_base.proofs.ItemLemmas.{in_all, no_longer}
use Rattle.vet_base.proofs.KeyedItems.{all_set_is}
use Rattle.vet_base.proofs.Rising.{R, only_equal}
use Rattle.vet_entries.specs.Holding.{HoldingValue}
use Rattle.vet_entries.specs.Numbered.{AreByNumber, entry_number}
use Rattle.vet_entries.specs.PeerSettings.{settings_name}
use Rattle.vet_entries.specs.declared.facts.HeldEntry.{HeldEntry}
use Rattle.vet_entries.specs.declared.held_peer.HeldPeer.{HeldPeer}
use Rattle.vet_entries.specs.declared.peer_settings.PeerSettings.{PeerSettings}
use Rattle.vet_item_rows.specs.Gathered.{Gathered, gathered, head_key}
use Rattle.vet_item_rows.specs.ReadBack.{EachStandsFor}
use Rattle.vet_item_rows.specs.ReadPeers.{ArePartsOf, IsGroupOf, IsHeldPeer, IsPeerTable}
use Rattle.vet_item_rows.specs.declared.read.criteria.SourcedCriterion.{SourcedCriterion}
use Rattle.vet_item_rows.specs.declared.read.gathered.WithKey.{WithKey}
use Rattle.vet_item_rows.proofs.Gathering.{pairs_mapped}

-- ---- entries by number

pub by_number : (xs : List HeldEntry) → IsByKey nat_cmp entry_number xs → AreByNumber xs
by_number xs up i j d l m = ranked (get_or xs i d).number (get_or xs j d).number Less (sym (up i j d l m))

pub by_key : (xs : List HeldEntry) → AreByNumber xs → IsByKey nat_cmp entry_number xs
by_key xs up i j d l m = sym (nat_cmp_is (get_or xs i d).number (get_or xs j d).number Less (up i j d l m))

-- entries in whatever order are those in the order of their numbers
pub in_order_is : (entries held : List HeldEntry) → AreByNumber held → SameItems entries held
    → all_set nat_cmp entry_number [] entries ≡ held
in_order_is entries held up same =
    all_set_is nat_cmp nat_cmp_total nat_cmp-IsAntisymmetric entry_number held entries (by_key held up) same

-- ---- tables

sorted_is : (criteria : List Criterion) (table : Criteria) → AreNamed table → SameItems criteria (further table)
    → all_set R criterion_name [] criteria ≡ further table
sorted_is criteria table named same =
    all_set_is R nat_list_cmp_total only_equal criterion_name (further table) criteria
    (further_by_name table named) same

pub table_is : (criteria : List Criterion) (table : Criteria) → IsTable table → SameItems criteria (further table)
    → table_told (all_set R criterion_name [] criteria) ≡ Ok table
table_is criteria table is same = ap table_told (sorted_is criteria table is.named same) ∙ told_again table is

pub definitions_are : (criteria : List Criterion) (table : Criteria) → IsPeerTable table
    → SameItems criteria (further table)
    → (length (all_set R criterion_name [] criteria) ≤ MOST_PEER_CRITERIA)
    × (defined (all_set R criterion_name [] criteria) ≡ table)
definitions_are criteria table (cs, made) same = (few, again)
  where
    named : AreNamed table
    named = subst AreNamed (sym made.made) (defined_named cs)

    sorted : all_set R criterion_name [] criteria ≡ further table
    sorted = sorted_is criteria table named same

    theirs : SameItems (further table) cs
    theirs = subst (λ t. SameItems (further t) cs) (sym made.made) (further_are_defined cs made.once made.free).0

    differ : AllPairs (λ x y. x ≢ y) (further table)
    differ i j d l m e = further_once table named i j d l m (ap criterion_name e)

    few : length (all_set R criterion_name [] criteria) ≤ MOST_PEER_CRITERIA
    few =
        let most = no_longer (further table) cs differ theirs.0 in
        subst (λ xs. length xs ≤ MOST_PEER_CRITERIA) (sym sorted) (omega (arith, most, made.few))

    again : defined (all_set R criterion_name [] criteria) ≡ table
    again =
        ap defined sorted
        ∙ (same_definitions (further table) cs (further_once table named) made.once (further_free table) made.free).1
        theirs
        ∙ sym made.made

-- what is told once
pub told_once : {a b : Criteria} → ◌≡◌ {A = Told Criteria} (Ok a) (Ok b) → a ≡ b
told_once e = cc e

pub not_both_told : {e : Refusal} {b : Criteria} → ◌≡◌ {A = Told Criteria} (Err e) (Ok b) → ⊥
not_both_told h = cc h

-- a peer is that of its parts
pub same_peer : {s : PeerSettings} {content : HoldingValue} {t : Criteria} {entries : List HeldEntry} {p : HeldPeer}
    → s ≡ p.settings → content ≡ record { table = t; entries = entries } → t ≡ p.content.table
    → entries ≡ p.content.entries → ◌≡◌ {A = HeldPeer} (record { settings = s; content = content }) p
same_peer {p = p} e made f g =
    let there = made ∙ (λ i. record { table = f i; entries = g i }) in
    λ i. record { settings = e i; content = there i }

-- ---- groups

module _ (settings : List PeerSettings) (entries : List (WithKey Name HeldEntry))
    (criteria : List (WithKey Name SourcedCriterion)) where
  abbrev settings_of : HeldPeer → PeerSettings
  settings_of p = p.settings

  abbrev with_entries : PeerSettings → Gathered PeerSettings HeldEntry
  with_entries = gathered R settings_name entries

  abbrev with_criteria : Gathered PeerSettings HeldEntry → Gathered (Gathered PeerSettings HeldEntry) SourcedCriterion
  with_criteria = gathered R (head_key settings_name) criteria

  each_group : (ps : List HeldPeer) → ((p : HeldPeer) → IsIn p ps
      → IsGroupOf (with_criteria (with_entries p.settings)) p)
      → EachStandsFor IsGroupOf (map with_criteria (map with_entries (map settings_of ps))) ps
  each_group [] h = tt
  each_group (p ∷ ps) h = (h p (inl refl), each_group ps (λ q i. h q (inr i)))

  pub groups_stand : (peers : List HeldPeer) → ArePartsOf settings entries criteria peers
      → EachStandsFor IsGroupOf (map with_criteria (map with_entries (map settings_of peers))) peers
  groups_stand peers parts =
      each_group peers (λ p i. record {
        held = in_all IsHeldPeer peers parts.held p i;
        settings = refl;
        entries = parts.same_entries p i;
        criteria = parts.same_criteria p i;
      })

  pub settings_are : (peers : List HeldPeer) → ArePartsOf settings entries criteria peers
      → all_set R settings_name [] settings ≡ map settings_of peers
  settings_are peers parts =
      all_set_is R nat_list_cmp_total only_equal settings_name (map settings_of peers) settings
      (pairs_mapped settings_of (λ a b. R (settings_name a) (settings_name b) ≡ Less) peers parts.by_name)
      parts.same_settings
