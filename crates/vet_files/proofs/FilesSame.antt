-- Files whose lists are the same as sets hold the same.
use Rattle.std.proofs.Common.{◌≡◌, ◌⊎◌, ◌||◌, ℕ, inl, inr, Bool, true, false, cond, not, List, [], ◌∷◌, ◌++◌, Some}
use Rattle.std.proofs.Common.{refl, sym, ap, subst, ◌∙◌, Less}
use Rattle.std.specs.List.{list_any}
use Rattle.std.proofs.lemmas.Bool.{false≢true, true≢false}
use Rattle.std.proofs.lemmas.Cmp.{nat_list_cmp_total, tied_itself}
use Rattle.std.specs.Ordering.{is_eq}
use Rattle.vet_base.specs.Items.{IsIn, NamedOnce, SameItems}
use Rattle.vet_base.specs.Keyed.{IsByKey, all_set, is_of, item_of, with_item}
use Rattle.vet_base.proofs.ItemLemmas.{any_in, in_all, in_any, in_append, in_back, in_front, pairs_head, pairs_none}
use Rattle.vet_base.proofs.ItemLemmas.{pairs_tail}
use Rattle.vet_base.proofs.KeyedLemmas.{IsByKey-all_set, item_of-other, item_of-own, same_items}
use Rattle.vet_base.proofs.Comparisons.{equal}
use Rattle.vet_base.proofs.ListLemmas.{filter_keeps}
use Rattle.vet_base.proofs.Rising.{R, only_equal}
use Rattle.vet_entries.specs.Distinct.{distinct, firsts}
use Rattle.vet_entries.specs.Entry.{entry_eq}
use Rattle.vet_entries.specs.EntryLaws.{entry_eq-Decides}
use Rattle.vet_entries.specs.Kind.{has_last_day}
use Rattle.vet_entries.specs.PeerSettings.{settings_name}
use Rattle.vet_entries.specs.PublisherRecords.{package_of}
use Rattle.vet_entries.specs.declared.entry.Entry.{Entry}
use Rattle.vet_files.specs.Imports.{imported_name}
use Rattle.vet_files.specs.SameContent.{AreUndated, undated}
use Rattle.vet_files.specs.SameFiles.{SameListsAreSame}

-- ---- items set one after another, of which no two have the same key

module _ {E : Type 0} (key : E → List ℕ) where
  -- what is found at a key that none of them has stays
  of_no_other : (held more : List E) (k : List ℕ) → ((x : E) → IsIn x more → k ≡ key x → ⊥)
      → item_of R key (all_set R key held more) k ≡ item_of R key held k
  of_no_other held [] k none = refl
  of_no_other held (e ∷ more) k none =
      of_no_other (with_item R key held e) more k (λ x i. none x (inr i))
      ∙ item_of-other R nat_list_cmp_total only_equal key held e k (none e (inl refl))

  -- each is found at its key
  of_one : (held more : List E) (x : E) → NamedOnce key more → IsIn x more
      → item_of R key (all_set R key held more) (key x) ≡ Some x
  of_one held [] x once among = absurd among
  of_one held (e ∷ more) x once (inl here) =
      let others = in_all (λ y. key e ≡ key y → ⊥) more (pairs_head (λ a b. key a ≡ key b → ⊥) e more once) in
      of_no_other (with_item R key held e) more (key x) (λ y i same. others y i (ap key (sym here) ∙ same))
      ∙ ap (λ z. item_of R key (with_item R key held e) (key z)) here
      ∙ item_of-own R nat_list_cmp_total only_equal key held e ∙ ap Some (sym here)
  of_one held (e ∷ more) x once (inr later) = of_one (with_item R key held e) more x
      (pairs_tail (λ a b. key a ≡ key b → ⊥) e more once) later

  by_name : (xs : List E) → IsByKey R key (all_set R key [] xs)
  by_name xs = IsByKey-all_set R nat_list_cmp_total only_equal key [] xs (pairs_none (λ a b. R (key a) (key b) ≡ Less))

  -- none of these has the key
  absent : (xs : List E) (k : List ℕ) → list_any (is_of R key k) xs ≡ false → (x : E) → IsIn x xs → k ≡ key x → ⊥
  absent xs k none x among same =
      true≢false (sym (in_any (is_of R key k) xs x among
      (ap (λ n. is_eq (R (key x) n)) same ∙ ap is_eq (tied_itself nat_list_cmp_total (key x)))) ∙ none)

  same_by_name : (xs ys : List E) → NamedOnce key xs → NamedOnce key ys → SameItems xs ys
      → all_set R key [] xs ≡ all_set R key [] ys
  same_by_name xs ys once_xs once_ys same =
      same_items R nat_list_cmp_total only_equal key (all_set R key [] xs) (all_set R key [] ys) (by_name xs)
      (by_name ys)
      (λ k. at k (list_any (is_of R key k) xs) refl)
    where
      at : (k : List ℕ) (b : Bool) → list_any (is_of R key k) xs ≡ b → item_of R key (all_set R key [] xs) k
          ≡ item_of R key (all_set R key [] ys) k
      at k true some =
          let found = any_in (is_of R key k) xs some in
          let named : key found.0 ≡ k = only_equal (key found.0) k (equal (R (key found.0) k) found.1.1) in
          ap (item_of R key (all_set R key [] xs)) (sym named) ∙ of_one [] xs found.0 once_xs found.1.0
          ∙ sym (of_one [] ys found.0 once_ys (same.0 found.0 found.1.0)) ∙ ap (item_of R key (all_set R key [] ys))
          named
      at k false none =
          of_no_other [] xs k (absent xs k none)
          ∙ sym (of_no_other [] ys k (λ y i. absent xs k none y (same.1 y i)))

-- ---- entries, each once

kept_among : (seen es : List Entry) (x : Entry) → IsIn x (firsts seen es) → IsIn x es
kept_among seen [] x among = absurd among
kept_among seen (e ∷ es) x among = at (list_any (entry_eq e) seen) (kept_among seen es x) (kept_among (e ∷ seen) es x)
    among
  where
    at : (b : Bool) → (IsIn x (firsts seen es) → IsIn x es) → (IsIn x (firsts (e ∷ seen) es) → IsIn x es)
        → IsIn x (cond b (firsts seen es) (e ∷ firsts (e ∷ seen) es)) → IsIn x (e ∷ es)
    at true old new i = inr (old i)
    at false old new (inl here) = inl here
    at false old new (inr i) = inr (new i)

among_or : (e x : Entry) (seen : List Entry) → list_any (entry_eq x) (e ∷ seen) ≡ true
    → (x ≡ e) ⊎ (list_any (entry_eq x) seen ≡ true)
among_or e x seen h = at (entry_eq x e) refl h
  where
    at : (b : Bool) → entry_eq x e ≡ b → (b || list_any (entry_eq x) seen) ≡ true
        → (x ≡ e) ⊎ (list_any (entry_eq x) seen ≡ true)
    at true same i = inl ((entry_eq-Decides x e).0 same)
    at false other i = inr i

-- each is kept, unless it was seen
among_kept : (seen es : List Entry) (x : Entry) → IsIn x es → (list_any (entry_eq x) seen ≡ true)
    ⊎ IsIn x (firsts seen es)
among_kept seen [] x among = absurd among
among_kept seen (e ∷ es) x among =
    at (list_any (entry_eq e) seen) refl (among_kept seen es x) (among_kept (e ∷ seen) es x) among
  where
    Kept : List Entry → Type 0
    Kept kept = (list_any (entry_eq x) seen ≡ true) ⊎ IsIn x kept

    at : (b : Bool) → list_any (entry_eq e) seen ≡ b
        → (IsIn x es → Kept (firsts seen es))
        → (IsIn x es → (list_any (entry_eq x) (e ∷ seen) ≡ true) ⊎ IsIn x (firsts (e ∷ seen) es))
        → IsIn x (e ∷ es) → Kept (cond b (firsts seen es) (e ∷ firsts (e ∷ seen) es))
    at true h old new (inl here) = inl (ap (λ y. list_any (entry_eq y) seen) here ∙ h)
    at true h old new (inr later) = old later
    at false h old new (inl here) = inr (inl here)
    at false h old new (inr later) = elim (new later) [
      | inl held ↦ elim (among_or e x seen held) [
        | inl here ↦ inr (inl here)
        | inr seen_too ↦ inl seen_too
      ]
      | inr kept ↦ inr (inr kept)
    ]

of_distinct : (es : List Entry) (x : Entry) → IsIn x es → IsIn x (distinct es)
of_distinct es x among = elim (among_kept [] es x among) [
  | inl none ↦ absurd (false≢true none)
  | inr kept ↦ kept
]

of_both : (es fs xs ys : List Entry) (x : Entry) → (IsIn x es → IsIn x fs) → (IsIn x xs → IsIn x ys)
    → IsIn x (distinct (es ++ xs)) → IsIn x (distinct (fs ++ ys))
of_both es fs xs ys x first second among =
    of_distinct (fs ++ ys) x (elim (in_append es xs x (kept_among [] (es ++ xs) x among)) [
      | inl l ↦ in_front fs ys x (first l)
      | inr r ↦ in_back fs ys x (second r)
    ])

-- ---- the files

-- if none has a last day, none is left out
all_undated : (es : List Entry) → AreUndated es → undated es ≡ es
all_undated es none = filter_keeps (λ e. not (has_last_day e.kind)) es (λ k d l. ap not (none k d l))

pub same-lists-same : SameListsAreSame
same-lists-same a b c d i j is_c none is_d is_i is_j audits config imports =
    let exemptions : SameItems c.exemptions d.exemptions = subst (λ es. SameItems es d.exemptions)
    (all_undated c.exemptions none) config.exemptions in record {
      criteria = audits.0;
      entries = (
        λ x. of_both a.entries b.entries c.exemptions d.exemptions x (audits.1.0 x) (exemptions.0 x),
        λ x. of_both b.entries a.entries d.exemptions c.exemptions x (audits.1.1 x) (exemptions.1 x),
      );
      settings = same_by_name settings_name c.peers d.peers is_c.named_once is_d.named_once config.peers;
      contents = same_by_name imported_name i.peers j.peers is_i.named_once is_j.named_once imports.0;
      publishers = same_by_name package_of i.publishers j.publishers is_i.published_once is_j.published_once imports.1;
      policies = config.policies;
      vet_version = config.vet_version;
      default_criteria = config.default_criteria;
    }
