-- When files say what is held, one part after the other.
use Rattle.std.proofs.Common.{◌≡◌, ◌≢◌, ◌∙◌, ℕ, ◌≤◌, ◌==◌, ◌&&◌, ◌||◌, Bool, true, false, cond, not, List, [], ◌∷◌}
use Rattle.std.proofs.Common.{get_or, length, map, Option, Some, None, refl, sym, ap, subst, inl, inr, arith}
use Rattle.std.specs.Bool.{Decides}
use Rattle.std.specs.Cmp.Lexicographic.{pointwise_decides}
use Rattle.std.specs.FinMap as table
use Rattle.std.specs.List.{All, AllPairs, filter, list_all, list_any}
use Rattle.std.specs.Option.{option_eq, option_map_or}
use Rattle.std.specs.declared.cmp.Ordering.TheVariants.{Less}
use Rattle.std.proofs.lemmas.Bool.{and_from, and_parts, cond-false, false≢true, not-true}
use Rattle.std.proofs.lemmas.Bool.Decides.{Decides-and, Decides-eqb, Decides-like}
use Rattle.std.proofs.lemmas.Cmp.{nat_list_cmp_total}
use Rattle.std.proofs.lemmas.List.{get_or_default, length-map}
use Rattle.std.proofs.lemmas.List.Elements.{All-head, All-tail}
use Rattle.std.proofs.lemmas.List.Kept.{AllPairs-cons}
use Rattle.std.proofs.lemmas.List.Sums.{AllPass-from_list_all, list_all-from_AllPass}
use Rattle.std.proofs.lemmas.Option.{same_Some}
use Rattle.vet_base.specs.declared.criterion.Criterion.{Criterion}
use Rattle.vet_base.specs.Criteria.{Criteria, IsTable}
use Rattle.vet_base.specs.CriteriaChanges.{is_built_in}
use Rattle.vet_base.specs.Criterion.{criterion_eq}
use Rattle.vet_base.specs.CriterionLaws.{criterion_eq-Decides}
use Rattle.vet_base.specs.Defined.{defined}
use Rattle.vet_base.specs.FurtherCriteria.{further, is_further}
use Rattle.vet_base.specs.Items.{IsIn, NamedOnce, SameItems}
use Rattle.vet_base.specs.Keyed.{IsByKey, item_of}
use Rattle.vet_base.specs.OptionLaws.{options_decide}
use Rattle.vet_base.proofs.Closing.{entry_found, found_entry}
use Rattle.vet_base.proofs.DefinitionLaws.{same_definitions}
use Rattle.vet_base.proofs.FurtherLaws.{further_are_defined}
use Rattle.vet_base.proofs.ItemLemmas.{all_in, any_in, filter_in, in_all, in_any, in_filter, in_map, map_in, no_longer}
use Rattle.vet_base.proofs.KeyedLemmas.{item_at, same_items}
use Rattle.vet_base.proofs.Comparisons.{equal}
use Rattle.vet_base.proofs.KeyedParts.{item_found}
use Rattle.vet_base.proofs.Rising.{R, only_equal}
use Rattle.vet_base.proofs.Tables.{rising_keys}
use Rattle.vet_demand.specs.PoliciesLaws.{policies_eq-Decides}
use Rattle.vet_entries.specs.declared.entry.Entry.{Entry}
use Rattle.vet_entries.specs.declared.entry.Source.TheVariants.{Own}
use Rattle.vet_entries.specs.declared.facts.HeldEntry.{HeldEntry}
use Rattle.vet_entries.specs.declared.held_peer.HeldPeer.{HeldPeer}
use Rattle.vet_entries.specs.declared.peer_settings.PeerSettings.{PeerSettings}
use Rattle.vet_entries.specs.Entry.{entry_eq}
use Rattle.vet_entries.specs.EntryLaws.{entry_eq-Decides}
use Rattle.vet_entries.specs.HeldPeer.{comes_again, peer_name, peer_of}
use Rattle.vet_entries.specs.Import.{same_content}
use Rattle.vet_entries.specs.Kind.{has_last_day}
use Rattle.vet_entries.specs.PeerSettings.{settings_eq, settings_name}
use Rattle.vet_entries.specs.PeerSettingsLaws.{settings_eq-Decides}
use Rattle.vet_entries.specs.PublisherRecordsLaws.{package_eq-Decides}
use Rattle.vet_entries.specs.Replaced as replaced
use Rattle.vet_entries.specs.Replaced.{as_of, is_dated, remains, same_entries}
use Rattle.vet_entries.specs.ReplacedLaws.{entries_of}
use Rattle.vet_entries.proofs.SameContent.{same_items_are_same}
use Rattle.vet_files.specs.FilesContent.{FilesValue, IsFiles, content_for, each_is_set}
use Rattle.vet_files.specs.SameContent.{AreUndated, undated}
use Rattle.vet_register.specs.Already.{has_criteria, has_files, has_peer, has_peers, is_held}
use Rattle.vet_register.specs.Held.{HeldValue}
use Rattle.vet_register.specs.RepeatedFiles.{SayWhatIsHeld, SaysWhatIsHeld}
use Rattle.vet_register.specs.Replacing.{tool_of_files}
use Rattle.vet_register.specs.Sound.{ArePeers, IsSoundHeld, IsSoundPeer}
use Rattle.vet_register.specs.ToolSettingsLaws.{tool_eq-Decides}
use Rattle.vet_register.proofs.DatedEntries.{IsUndated, undated_as_of}
use Rattle.vet_register.proofs.FilesEffects.{content_readable}
use Rattle.vet_register.proofs.FurtherCriteria.{named_once, none_built_in}
use Rattle.vet_register.proofs.Lists.{AllPairs-map}
use Rattle.vet_register.proofs.PeerEffects.{found_in, found_sound, other_names}
use Rattle.vet_register.proofs.Readable as readable

-- ---- lists

-- a test of all items decides what it decides of each
each_decides : {X : Type 0} (p : X → Bool) (P : X → Type 0) → ((x : X) → Decides (p x) (P x)) → (xs : List X) →
    Decides (list_all p xs) ((x : X) → IsIn x xs → P x)
each_decides p P each xs = (
  λ t x i. (each x).0 (in_all (λ y. p y ≡ true) xs (AllPass-from_list_all p xs t) x i),
  λ h. list_all-from_AllPass p xs (all_in (λ y. p y ≡ true) xs (λ x i. (each x).1 (h x i))),
)

-- items that differ are all items of a list that is as long and holds them
all_held : {X : Type 0} (E : X → X → Bool) → ((x y : X) → Decides (E x y) (x ≡ y)) → (xs ys : List X) → AllPairs
    (λ x y. x ≢ y) xs
    → ((x : X) → IsIn x xs → IsIn x ys) → length xs ≡ length ys → (y : X) → IsIn y ys → IsIn y xs
all_held {X} E decides xs ys differ held long y i = by (list_any (E y) xs) refl
  where
    by : (b : Bool) → list_any (E y) xs ≡ b → IsIn y xs
    by true t = (let x = any_in (E y) xs t in subst (λ (z : X). IsIn z xs) (sym ((decides y x.0).0 x.1.1)) x.1.0)
    by false t =
        let more : length (y ∷ xs) ≤ length ys =
        no_longer (y ∷ xs) ys
        (AllPairs-cons (λ a b. a ≢ b) y xs
        (all_in (λ x. y ≢ x) xs (λ x j same. false≢true (sym t ∙ in_any (E y) xs x j ((decides y x).1 same))))
        differ)
        (λ z j. elim j [ inl e ↦ subst (λ (w : X). IsIn w ys) (sym e) i | inr k ↦ held z k ]) in
        absurd (omega (arith, more, long))

-- two things are the same where each is what the other is
alike : {X : Type 0} (o p : Option X) → ((x : X) → o ≡ Some x → p ≡ Some x) → ((x : X) → p ≡ Some x → o ≡ Some x) → o
    ≡ p
alike (Some x) p there back = sym (there x refl)
alike None (Some x) there back = back x refl
alike None None there back = refl

-- things in the order of their names
module _ {X : Type 0} (name : X → List ℕ) where
  -- each is found at its name
  own_found : (xs : List X) → IsByKey R name xs → (x : X) → IsIn x xs → item_of R name xs (name x) ≡ Some x
  own_found xs up = in_all (λ y. item_of R name xs (name y) ≡ Some y) xs (λ k d l.
      (let y = get_or xs k d in
      item_at R nat_list_cmp_total only_equal name xs (name y) k y up (l, λ e. ap name (get_or_default xs k e d l))
      (get_or_default xs k y d l)))

  carried : (xs ys : List X) → IsByKey R name ys → ((x : X) → IsIn x xs → IsIn x ys) → (k : List ℕ) (x : X) → item_of
      R name xs k ≡ Some x → item_of R name ys k ≡ Some x
  carried xs ys up held k x at =
      let found = item_found R name (λ z. IsIn z xs) xs k x (all_in (λ z. IsIn z xs) xs (λ z i. i)) at in
      ap (item_of R name ys) (sym (only_equal (name x) k (equal (R (name x) k) found.0))) ∙ own_found ys up x
      (held x found.1)

  -- the same things are the same list
  same_in_order : (xs ys : List X) → IsByKey R name xs → IsByKey R name ys → SameItems xs ys → xs ≡ ys
  same_in_order xs ys up above same =
      same_items R nat_list_cmp_total only_equal name xs ys up above
      (λ k. alike (item_of R name xs k) (item_of R name ys k) (carried xs ys above same.0 k)
      (carried ys xs up same.1 k))

-- ---- criteria

abbrev Entries : Type 0
Entries = List (List ℕ × Criterion)

abbrev HasItsName : List ℕ × Criterion → Type 0
HasItsName e = e.1.name ≡ e.0

-- as many names as criteria are not built in
as_many : (es : Entries) → All HasItsName es → length (filter (λ n. not (is_built_in n)) (map (λ e. e.0) es)) ≡ length
    (filter is_further (map (λ e. e.1) es))
as_many [] h = refl
as_many (e ∷ es) h =
    ap (λ n. length (cond (not (is_built_in n)) (e.0 ∷ names) names)) (sym (All-head HasItsName e es h)) ∙ one
    (is_further e.1) (as_many es (All-tail HasItsName e es h))
  where
    names : List (List ℕ)
    names = filter (λ n. not (is_built_in n)) (map (λ x. x.0) es)

    criteria : List Criterion
    criteria = filter is_further (map (λ x. x.1) es)

    one : (b : Bool) → length names ≡ length criteria → length (cond b (e.0 ∷ names) names) ≡ length
        (cond b (e.1 ∷ criteria) criteria)
    one true same = omega (arith, same)
    one false same = same

-- criteria of different names differ
differ : (cs : List Criterion) → NamedOnce (λ c. c.name) cs → AllPairs (λ a b. a ≢ b) cs
differ cs once i j d l m same = once i j d l m (ap (λ (c : Criterion). c.name) same)

module _ (criteria : Criteria) (is : IsTable criteria) where
  abbrev entries : Entries
  entries = table.entries criteria

  stands : All (λ (e : List ℕ × Criterion). table.get criteria e.0 ≡ Some e.1) entries
  stands k d l =
      let e = get_or entries k d in
      table.get-entries criteria e.0 ∙ entry_found e.0 entries e.1 (rising_keys criteria)
      (k, l, get_or_default entries k e d l)

  named : All HasItsName entries
  named k d l = (let e = get_or entries k d in is.named e.0 e.1 (stands k d l))

  -- a criterion is one of the table just where it is found at its name
  value_found : (c : Criterion) → IsIn c (table.values criteria) → table.get criteria c.name ≡ Some c
  value_found c i =
      let e = in_map (λ (x : List ℕ × Criterion). x.1) entries c i in
      let name : e.0.1.name ≡ e.0.0 = in_all HasItsName entries named e.0 e.1.0 in
      let at : table.get criteria e.0.0 ≡ Some e.0.1 = in_all
      (λ (x : List ℕ × Criterion). table.get criteria x.0 ≡ Some x.1) entries stands e.0 e.1.0 in
      subst (λ (x : Criterion). table.get criteria x.name ≡ Some x) (sym e.1.1) (ap (table.get criteria) name ∙ at)

  found_value : (c : Criterion) → table.get criteria c.name ≡ Some c → IsIn c (table.values criteria)
  found_value c h =
      let at = found_entry c.name entries c (sym (table.get-entries criteria c.name) ∙ h) in
      map_in (λ (x : List ℕ × Criterion). x.1) entries (c.name, c)
      (subst (λ (x : List ℕ × Criterion). IsIn x entries) at.2
      (all_in (λ x. IsIn x entries) entries (λ x i. i) at.0 (c.name, c) at.1))

  criterion_decided : (c : Criterion) → Decides (is_held criteria c) (IsIn c (further criteria))
  criterion_decided c = (
    by (is_built_in c.name) refl,
    λ i. (let among = in_filter is_further (table.values criteria) c i in
        cond-false (is_built_in c.name) false (option_eq criterion_eq (table.get criteria c.name) (Some c))
        (not-true (is_built_in c.name) among.1)
        ∙ (options_decide criterion_eq-Decides (table.get criteria c.name) (Some c)).1 (value_found c among.0)),
  )
    where
      by : (b : Bool) → is_built_in c.name ≡ b → cond b false
          (option_eq criterion_eq (table.get criteria c.name) (Some c)) ≡ true → IsIn c (further criteria)
      by true e t = absurd (false≢true t)
      by false e t =
          filter_in is_further (table.values criteria) c
          (found_value c ((options_decide criterion_eq-Decides (table.get criteria c.name) (Some c)).0 t))
          (ap not e)

  -- some are held, and no others, just where they are those beside the built-in ones
  criteria_decided : (cs : List Criterion) → NamedOnce (λ c. c.name) cs → Decides (has_criteria criteria cs)
      (SameItems cs (further criteria))
  criteria_decided cs once =
      let kept = further criteria in
      let names = filter (λ n. not (is_built_in n)) (table.keys criteria) in
      let count : length names ≡ length kept = as_many entries named in
      Decides-like (has_criteria criteria cs)
      (λ h. (h.1, all_held criterion_eq criterion_eq-Decides cs kept (differ cs once) h.1 (h.0 ∙ count)))
      (λ same.
      (let fewer : length cs ≤ length kept = no_longer cs kept (differ cs once) same.0 in
      let more : length kept ≤ length cs = no_longer kept cs (differ kept (named_once criteria is)) same.1 in
      (omega (arith, fewer, more, count), same.0)))
      (Decides-and (length cs == length names) (list_all (is_held criteria) cs) (Decides-eqb (length cs) (length names))
      (each_decides (is_held criteria) (λ c. IsIn c kept) criterion_decided cs))

-- ---- entries

again_decided : (theirs : List Entry) (h : HeldEntry) → Decides (comes_again theirs h) (IsIn h.entry theirs)
again_decided theirs h = (
  λ t. (let x = any_in (entry_eq h.entry) theirs t in subst (λ e. IsIn e theirs)
      (sym ((entry_eq-Decides h.entry x.0).0 x.1.1)) x.1.0),
  λ i. in_any (entry_eq h.entry) theirs h.entry i ((entry_eq-Decides h.entry h.entry).1 refl),
)

entry_decided : (held : List HeldEntry) (e : Entry) → Decides (replaced.is_held held e) (IsIn e (entries_of held))
entry_decided held e = (
  λ t. (let h = any_in (λ (g : HeldEntry). entry_eq g.entry e) held t in
      subst (λ x. IsIn x (entries_of held)) ((entry_eq-Decides h.0.entry e).0 h.1.1)
      (map_in (λ (g : HeldEntry). g.entry) held h.0 h.1.0)),
  λ i. (let h = in_map (λ (g : HeldEntry). g.entry) held e i in
      in_any (λ (g : HeldEntry). entry_eq g.entry e) held h.0 h.1.0 ((entry_eq-Decides h.0.entry e).1 (sym h.1.1))),
)

-- a held entry remains exactly if it is an exemption with a last day, or is among those of the files
remains_decided : (theirs : List Entry) (h : HeldEntry)
    → Decides (remains is_dated theirs h) ((is_dated h ≡ false) → IsIn h.entry theirs)
remains_decided theirs h = by (is_dated h)
  where
    by : (b : Bool) → Decides (b || comes_again theirs h) ((b ≡ false) → IsIn h.entry theirs)
    by true = (λ t none. absurd (false≢true (sym none)), λ there. refl)
    by false = (λ t none. (again_decided theirs h).0 t, λ there. (again_decided theirs h).1 (there refl))

-- the entries of files are the own ones that are held, apart from exemptions with a last day, in any order
module _ (held : List HeldEntry) (entries : List Entry) (none : AreUndated entries) where
  abbrev theirs : List Entry
  theirs = as_of Own entries

  abbrev Undated : Entry → Bool
  Undated e = not (has_last_day e.kind)

  abbrev AllRemain : Type 0
  AllRemain = (h : HeldEntry) → IsIn h held → (is_dated h ≡ false) → IsIn h.entry theirs

  abbrev AllHeld : Type 0
  AllHeld = (e : Entry) → IsIn e theirs → IsIn e (entries_of held)

  same_but_for_dated : AllRemain × AllHeld → SameItems theirs (undated (entries_of held))
  same_but_for_dated h = (
    λ e i. filter_in Undated (entries_of held) e (h.1 e i)
        (ap not (in_all IsUndated theirs (undated_as_of Own entries none) e i)),
    λ e i. (let among = in_filter Undated (entries_of held) e i in
        let x = in_map (λ (g : HeldEntry). g.entry) held e among.0 in
        let plain : is_dated x.0 ≡ false = ap (λ (y : Entry). has_last_day y.kind) (sym x.1.1)
        ∙ not-true (has_last_day e.kind) among.1 in
        subst (λ y. IsIn y theirs) (sym x.1.1) (h.0 x.0 x.1.0 plain)),
  )

  all_but_for_dated : SameItems theirs (undated (entries_of held)) → AllRemain × AllHeld
  all_but_for_dated same = (
    λ h i plain. same.1 h.entry (filter_in Undated (entries_of held) h.entry
        (map_in (λ (g : HeldEntry). g.entry) held h i) (ap not plain)),
    λ e i. (in_filter Undated (entries_of held) e (same.0 e i)).0,
  )

  entries_decided : Decides (same_entries is_dated Own held entries)
      (SameItems (as_of Own entries) (undated (entries_of held)))
  entries_decided =
      Decides-like (same_entries is_dated Own held entries) same_but_for_dated all_but_for_dated
      (Decides-and (list_all (remains is_dated theirs) held) (list_all (replaced.is_held held) theirs)
      (each_decides (remains is_dated theirs) (λ h. (is_dated h ≡ false) → IsIn h.entry theirs)
      (remains_decided theirs) held)
      (each_decides (replaced.is_held held) (λ e. IsIn e (entries_of held)) (entry_decided held) theirs))

-- ---- peers

-- the table of a sound peer is what its further criteria define
defined_again : (next : ℕ) (x : HeldPeer) → IsSoundPeer next x → x.content.table ≡ defined (further x.content.table)
defined_again next x sound =
    let cs = sound.content.0.criteria in
    let can = sound.content.1.readable in
    let more = further_are_defined cs can.named_once can.further in
    let again : defined cs ≡ defined (further (defined cs)) =
    (same_definitions cs (further (defined cs)) can.named_once more.1 can.further (none_built_in (defined cs))).1
    (more.0.1, more.0.0) in
    sound.content.1.criteria ∙ again ∙ ap (λ t. defined (further t)) (sym sound.content.1.criteria)

module _ (peers : List HeldPeer) (next : ℕ) (are : ArePeers peers next) (f : FilesValue) (is : IsFiles f) where
  abbrev settings_of : HeldPeer → PeerSettings
  settings_of x = x.settings

  -- the content of a peer is held just where it says what is held
  content_decided : (x : HeldPeer) → IsSoundPeer next x → Decides
      (same_content x.settings.name x.content (content_for f.contents x.settings.name)) (SaysWhatIsHeld f.contents x)
  content_decided x sound =
      let given = readable.readable next x sound in
      same_items_are_same x.settings.name x.content (content_for f.contents x.settings.name) (further x.content.table)
      (content_readable f is x.settings.name) (defined_again next x sound) given.named_once given.further

  -- a peer is held of these settings, of which the files say what is held
  abbrev IsSaid : Option HeldPeer → PeerSettings → Type 0
  IsSaid o p = (x : HeldPeer) × ((o ≡ Some x) × ((x.settings ≡ p) × SaysWhatIsHeld f.contents x))

  peer_decided : (p : PeerSettings) → Decides (has_peer peers f.contents p) (IsSaid (peer_of peers p.name) p)
  peer_decided p = by (peer_of peers p.name) refl
    where
      holds : PeerSettings → HeldPeer → Bool
      holds q x = same_content q.name x.content (content_for f.contents q.name)

      by : (o : Option HeldPeer) → peer_of peers p.name ≡ o
          → Decides (option_map_or (λ (x : HeldPeer). settings_eq x.settings p) o false && option_map_or (holds p) o
          false) (IsSaid o p)
      by None e = (λ t. absurd (false≢true t), λ said. cc said.1.0)
      by (Some x) e =
          let content = content_decided x (found_sound peers p.name next x are e) in
          let same = settings_eq-Decides x.settings p in (
            λ t. (let both = and_parts (settings_eq x.settings p) (holds p x) t in
                let its : x.settings ≡ p = same.0 both.0 in
                (x, (refl, (its, content.0 (subst (λ q. holds q x ≡ true) (sym its) both.1))))),
            λ said.
                (let this : x ≡ said.0 = same_Some x said.0 said.1.0 in
                let its : x.settings ≡ p = ap settings_of this ∙ said.1.1.0 in
                and_from (settings_eq x.settings p) (holds p x) (same.1 its)
                (subst (λ q. holds q x ≡ true) its
                (content.1 (subst (SaysWhatIsHeld f.contents) (sym this) said.1.1.1)))),
          )

  abbrev AllSaid : Type 0
  AllSaid = (p : PeerSettings) → IsIn p f.settings → IsSaid (peer_of peers p.name) p

  those : length f.settings ≡ length peers → AllSaid → f.settings ≡ map settings_of peers
  those long said =
      let all = map settings_of peers in
      let held : (p : PeerSettings) → IsIn p f.settings → IsIn p all =
      λ p i. (let x = said p i in subst (λ q. IsIn q all) x.1.1.0
      (map_in settings_of peers x.0 (found_in peers p.name x.0 x.1.0))) in
      same_in_order settings_name f.settings all is.settings_by_name
      (AllPairs-map settings_of (λ a b. R (settings_name a) (settings_name b) ≡ Less) peers are.by_name) (
        held,
        all_held settings_eq settings_eq-Decides f.settings all
            (λ i j d l m same. other_names _ _ (is.settings_by_name i j d l m) (ap settings_name same)) held
            (long ∙ sym (length-map peers settings_of)),
      )

  all_say : f.settings ≡ map settings_of peers → AllSaid → All (SaysWhatIsHeld f.contents) peers
  all_say same said = all_in (SaysWhatIsHeld f.contents) peers (λ x i.
      (let y = said x.settings (subst (λ ps. IsIn x.settings ps) (sym same) (map_in settings_of peers x i)) in
      let this : x ≡ y.0 = same_Some x y.0 (sym (own_found peer_name peers are.by_name x i) ∙ y.1.0) in
      subst (SaysWhatIsHeld f.contents) (sym this) y.1.1.1))

  each_said : f.settings ≡ map settings_of peers → All (SaysWhatIsHeld f.contents) peers → AllSaid
  each_said same say p i =
      let x = in_map settings_of peers p (subst (λ ps. IsIn p ps) same i) in (
        x.0,
        (
          ap (λ (q : PeerSettings). peer_of peers q.name) x.1.1 ∙ own_found peer_name peers are.by_name x.0 x.1.0,
          (sym x.1.1, in_all (SaysWhatIsHeld f.contents) peers say x.0 x.1.0),
        ),
      )

  -- the peers of files are those held just where the settings are, and each content says what is held
  peers_decided : Decides (has_peers peers f)
      ((f.settings ≡ map settings_of peers) × ((each_is_set f ≡ true) × All (SaysWhatIsHeld f.contents) peers))
  peers_decided =
      Decides-like (has_peers peers f)
      (λ h. (let same = those h.0 h.1.0 in (same, (h.1.1, all_say same h.1.0))))
      (λ w. (ap length w.0 ∙ length-map peers settings_of, (each_said w.0 w.1.1, w.1.0)))
      (Decides-and (length f.settings == length peers)
      (list_all (has_peer peers f.contents) f.settings && each_is_set f)
      (Decides-eqb (length f.settings) (length peers))
      (Decides-and (list_all (has_peer peers f.contents) f.settings) (each_is_set f)
      (each_decides (has_peer peers f.contents) (λ p. IsSaid (peer_of peers p.name) p) peer_decided f.settings)
      (λ t. t, λ t. t)))

-- ---- all that files say

-- files are what is held just where they say it
pub files_decided : (held : HeldValue) (next : ℕ) → IsSoundHeld held next → (f : FilesValue) → IsFiles f → Decides
    (has_files held f) (SayWhatIsHeld held f)
files_decided held next sound f is =
    let facts = held.facts in
    Decides-like (has_files held f)
    (λ h. record {
      criteria = h.0;
      entries = h.1.0;
      settings = h.1.1.0.0;
      set = h.1.1.0.1.0;
      contents = h.1.1.0.1.1;
      publishers = sym h.1.1.1.0;
      policies = sym h.1.1.1.1.0;
      tool = sym h.1.1.1.1.1;
    })
    (λ w. (
      w.criteria,
      (
        w.entries,
        ((w.settings, (w.set, w.contents)), (sym w.publishers, (sym w.policies, sym w.tool))),
      ),
    ))
    (Decides-and _ _ (criteria_decided facts.criteria sound.facts.criteria f.criteria is.named_once)
    (Decides-and _ _ (entries_decided facts.entries f.entries is.undated)
    (Decides-and _ _ (peers_decided facts.peers next sound.facts.peers f is)
    (Decides-and _ _ (pointwise_decides package_eq-Decides facts.publishers f.publishers)
    (Decides-and _ _ (policies_eq-Decides held.policies f.policies)
    (tool_eq-Decides held.settings (tool_of_files f)))))))
