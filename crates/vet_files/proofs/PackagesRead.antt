-- The lists of entries by package, as they are written, are read again.
use Rattle.std.proofs.Common.{◌≡◌, ◌+◌, ◌-◌, ◌≤◌, ℕ, suc, Bool, true, false, cond, List, [], ◌∷◌, ◌++◌, length, map}
use Rattle.std.proofs.Common.{filter, drop, refl, sym, ap, ◌∙◌, subst, inl, inr, append_assoc, append-nil, arith}
use Rattle.std.specs.Prelude.{Ok}
use Rattle.std.specs.Cmp.Lexicographic.{bytes_decides}
use Rattle.std.specs.List.{All, list_any}
use Rattle.std.specs.Str.{bytes_eq}
use Rattle.std.proofs.lemmas.Bool.{or_from, or_parts}
use Rattle.std.proofs.lemmas.List.Elements.{All-head, All-tail}
use Rattle.toml.specs.Data.{array, table, Items, Members, no_members, member}
use Rattle.toml.specs.View.{items_of}
use Rattle.vet_base.specs.Items.{IsIn, SameItems}
use Rattle.vet_base.specs.Name.{is_package_name}
use Rattle.vet_entries.specs.Distinct.{distinct, firsts}
use Rattle.vet_entries.specs.Entry.{entry_eq}
use Rattle.vet_entries.specs.declared.entry.Entry.{Entry}
use Rattle.vet_files.specs.Audits.{next_package}
use Rattle.vet_files.specs.EntryTables.{entry_items, entry_table, of_package, package_lists}
use Rattle.vet_files.specs.Lists.{Reading, each_once, next_table, nothing, found_one, found_with, table_of}
use Rattle.vet_files.specs.Lists.{tables_of_package}
use Rattle.vet_files.specs.Notices.{no_notices, only_doubles, sum_of_notices}
use Rattle.vet_files.specs.Tables.{members_from, unless_empty}
use Rattle.vet_files.specs.Walk.{each_item, each_member}
use Rattle.vet_files.specs.declared.found.Found.{Found}
use Rattle.vet_files.proofs.NamedOnce.{All-IsIn, All-each_IsIn, IsIn-either, IsIn-filter, IsIn-left, IsIn-of_filter}
use Rattle.vet_files.proofs.NamedOnce.{IsIn-right, by_name-sorted, sorted, sorted-All, sorted-named}

-- what is found, and nothing is passed over
abbrev pub all_of : {A : Type 0} → A → Found A
all_of x = record { content = x; notices = no_notices }

-- ---- a table that may be left out

-- one that is left out is read as the empty table that it is
pub unless_empty-read : (path key : List ℕ) (ms : Members) → table_of path key (unless_empty ms) ≡ Ok ms
unless_empty-read path key no_members = refl
unless_empty-read path key (member k d rest) = refl

-- ---- a list of tables

module _ {A : Type 0} (read : Reading A) (path name : List ℕ) (table_for : A → Members) where
  -- the table is read as what it is the table of, wherever it stands
  abbrev IsRead : A → Type 0
  IsRead x = (path : List ℕ) → read name path (table_for x) ≡ Ok (found_one x 0)

  abbrev items : List A → Items
  items xs = items_of (map (λ x. table (table_for x)) xs)

  tables_read_from : (found xs : List A) (place : ℕ) → All IsRead xs
      → each_item (next_table read path name) (all_of found) place (items xs) ≡ Ok (all_of (found ++ xs))
  tables_read_from found [] place each = ap (λ (ys : List A). Ok (all_of ys)) (sym (append-nil found))
  tables_read_from found (x ∷ xs) place each =
      rw (All-head IsRead x xs each _)
      (tables_read_from (found ++ x ∷ []) xs (place + 1) (All-tail IsRead x xs each)
      ∙ ap (λ (ys : List A). Ok (all_of ys)) (append_assoc found (x ∷ []) xs))

  pub tables_read : (xs : List A) → All IsRead xs → each_item (next_table read path name) nothing 0 (items xs)
      ≡ Ok (all_of xs)
  tables_read xs each = tables_read_from [] xs 0 each

-- ---- what is once stays so

firsts-length : (seen es : List Entry) → length (firsts seen es) ≤ length es
firsts-length seen [] = omega arith
firsts-length seen (e ∷ es) = step (firsts-length seen es) (firsts-length (e ∷ seen) es) (list_any (entry_eq e) seen)
  where
    step : length (firsts seen es) ≤ length es → length (firsts (e ∷ seen) es) ≤ length es → (b : Bool)
        → length (cond b (firsts seen es) (e ∷ firsts (e ∷ seen) es)) ≤ suc (length es)
    step some more true = omega arith
    step some more false = omega arith

-- the first is new, and the others are so behind it
once_first : (seen es : List Entry) (e : Entry) → firsts seen (e ∷ es) ≡ e ∷ es → (list_any (entry_eq e) seen ≡ false)
    × (firsts (e ∷ seen) es ≡ es)
once_first seen es e once = step (firsts-length seen es) (list_any (entry_eq e) seen) refl once
  where
    step : length (firsts seen es) ≤ length es → (b : Bool) → list_any (entry_eq e) seen ≡ b
        → cond b (firsts seen es) (e ∷ firsts (e ∷ seen) es) ≡ e ∷ es
        → (list_any (entry_eq e) seen ≡ false) × (firsts (e ∷ seen) es ≡ es)
    step most true is same = let long : length (firsts seen es) ≡ length (e ∷ es) = ap length same
        in absurd (omega (arith, long, most))
    step most false is same = (is, ap (drop 1) same)

-- what is not among these is not among those
abbrev AreFewer : List Entry → List Entry → Type 0
AreFewer seen fewer = (e : Entry) → list_any (entry_eq e) seen ≡ false → list_any (entry_eq e) fewer ≡ false

fewer_behind : (x : Entry) (seen fewer : List Entry) → AreFewer seen fewer → AreFewer (x ∷ seen) fewer
fewer_behind x seen fewer h e apart = h e (or_parts (entry_eq e x) (list_any (entry_eq e) seen) apart).1

fewer_with : (x : Entry) (seen fewer : List Entry) → AreFewer seen fewer → AreFewer (x ∷ seen) (x ∷ fewer)
fewer_with x seen fewer h e apart =
    let (first, others) = or_parts (entry_eq e x) (list_any (entry_eq e) seen) apart in
    or_from (entry_eq e x) (list_any (entry_eq e) fewer) first (h e others)

firsts-filter : (p : Entry → Bool) (seen fewer es : List Entry) → AreFewer seen fewer → firsts seen es ≡ es
    → firsts fewer (filter p es) ≡ filter p es
firsts-filter p seen fewer [] h once = refl
firsts-filter p seen fewer (e ∷ es) h once =
    let parts = once_first seen es e once in
    step (h e parts.0) (firsts-filter p (e ∷ seen) (e ∷ fewer) es (fewer_with e seen fewer h) parts.1)
    (firsts-filter p (e ∷ seen) fewer es (fewer_behind e seen fewer h) parts.1) (p e)
  where
    step : list_any (entry_eq e) fewer ≡ false → firsts (e ∷ fewer) (filter p es) ≡ filter p es
        → firsts fewer (filter p es) ≡ filter p es
        → (b : Bool) → firsts fewer (cond b (e ∷ filter p es) (filter p es)) ≡ cond b (e ∷ filter p es) (filter p es)
    step new more without true = rw new (ap (λ (rest : List Entry). e ∷ rest) more)
    step new more without false = without

pub distinct-filter : (p : Entry → Bool) (es : List Entry) → distinct es ≡ es → distinct (filter p es) ≡ filter p es
distinct-filter p es once = firsts-filter p [] [] es (λ e apart. apart) once

each_once-same : (es : List Entry) → distinct es ≡ es → each_once distinct (all_of es) ≡ all_of es
each_once-same es once =
    let no_doubles : length es - length (distinct es) ≡ 0 =
    (let long : length (distinct es) ≡ length es = ap length once in omega (arith, long)) in
    λ i. record { content = once i; notices = sum_of_notices no_notices (only_doubles (no_doubles i)) }

-- ---- a package's list

-- an entry of a package, which is read from its table
abbrev pub IsReadBy : Reading Entry → Entry → Type 0
IsReadBy read e = (is_package_name e.«package» ≡ true)
    × ((path : List ℕ) → read e.«package» path (entry_table e) ≡ Ok (found_one e 0))

of_its_package : (name : List ℕ) (es : List Entry) (e : Entry) → IsIn e (of_package name es) → name ≡ e.«package»
of_its_package name es e among = (bytes_decides name e.«package»).0
    (IsIn-of_filter (λ x. bytes_eq name x.«package») e es among).1

in_its_package : (name : List ℕ) (es : List Entry) (e : Entry) → IsIn e es → name ≡ e.«package»
    → IsIn e (of_package name es)
in_its_package name es e among same = IsIn-filter (λ x. bytes_eq name x.«package») e es among
    ((bytes_decides name e.«package»).1 same)

module _ (read : Reading Entry) (path : List ℕ) (es : List Entry) (once : distinct es ≡ es)
    (each : All (IsReadBy read) es) where
  abbrev IsReadAt : List ℕ → Entry → Type 0
  IsReadAt name e = (path : List ℕ) → read name path (entry_table e) ≡ Ok (found_one e 0)

  package_read : (name : List ℕ) → All (IsReadAt name) (of_package name es)
  package_read name =
      All-each_IsIn (IsReadAt name) (of_package name es)
      (λ e among path. subst (λ n. read n path (entry_table e) ≡ Ok (found_one e 0))
      (sym (of_its_package name es e among))
      ((All-IsIn (IsReadBy read) e es each (IsIn-of_filter (λ x. bytes_eq name x.«package») e es among).0).1 path))

  tables_of_package-read : (name : List ℕ) → is_package_name name ≡ true
      → tables_of_package read path name (array (entry_items (of_package name es))) ≡ Ok (all_of (of_package name es))
  tables_of_package-read name named =
      rw named (tables_read read path name entry_table (of_package name es) (package_read name))

  next_package-read : (found : List Entry) (name : List ℕ) → is_package_name name ≡ true
      → next_package read path (all_of found) name (array (entry_items (of_package name es)))
      ≡ Ok (all_of (found ++ of_package name es))
  next_package-read found name named =
      rw (tables_of_package-read name named)
      (ap (λ more. Ok (found_with (all_of found) more))
      (each_once-same (of_package name es) (distinct-filter (λ e. bytes_eq name e.«package») es once)))

  -- ---- the lists of some packages

  abbrev of_packages : List Entry → List Entry
  of_packages [] = []
  of_packages (e ∷ rest) = of_package e.«package» es ++ of_packages rest

  abbrev lists : List Entry → Members
  lists some = members_from (map (λ e. (e.«package», array (entry_items (of_package e.«package» es)))) some)

  lists_read : (found some : List Entry) → All (λ e. is_package_name e.«package» ≡ true) some
      → each_member (next_package read path) (all_of found) (lists some) ≡ Ok (all_of (found ++ of_packages some))
  lists_read found [] named = ap (λ (ys : List Entry). Ok (all_of ys)) (sym (append-nil found))
  lists_read found (e ∷ rest) named =
      rw (next_package-read found e.«package» (All-head (λ e. is_package_name e.«package» ≡ true) e rest named))
      (lists_read (found ++ of_package e.«package» es) rest
      (All-tail (λ e. is_package_name e.«package» ≡ true) e rest named)
      ∙ ap (λ (ys : List Entry). Ok (all_of ys)) (append_assoc found (of_package e.«package» es) (of_packages rest)))

  among_packages : (some : List Entry) (e : Entry) → IsIn e es
      → (f : Entry) × (IsIn f some × (e.«package» ≡ f.«package»)) → IsIn e (of_packages some)
  among_packages [] e among (f, (none, same)) = absurd none
  among_packages (g ∷ rest) e among (f, (inl here, same)) =
      IsIn-left e (of_package g.«package» es) (of_packages rest)
      (in_its_package g.«package» es e among (sym (same ∙ ap (λ (h : Entry). h.«package») here)))
  among_packages (g ∷ rest) e among (f, (inr later, same)) =
      IsIn-right e (of_package g.«package» es) (of_packages rest) (among_packages rest e among (f, (later, same)))

  of_them : (some : List Entry) (e : Entry) → IsIn e (of_packages some) → IsIn e es
  of_them [] e none = absurd none
  of_them (g ∷ rest) e among = elim (IsIn-either e (of_package g.«package» es) (of_packages rest) among) [
    | inl first ↦ (IsIn-of_filter (λ x. bytes_eq g.«package» x.«package») e es first).0
    | inr later ↦ of_them rest e later
  ]

  -- all entries are read, in the order of their packages
  pub package_lists_read : (found : List Entry)
      × ((each_member (next_package read path) nothing (package_lists es) ≡ Ok (all_of found)) × SameItems es found)
  package_lists_read =
      let of : Entry → List ℕ = λ e. e.«package» in
      let heads : List Entry = sorted of es in
      let named = sorted-All of (λ e. is_package_name e.«package» ≡ true) es (λ k d l. (each k d l).0) in (
        of_packages heads,
        (
          ap (each_member (next_package read path) nothing)
              (by_name-sorted of (λ e. array (entry_items (of_package e.«package» es))) es) ∙ lists_read [] heads named,
          (λ e among. among_packages heads e among (sorted-named of es e among), λ e among. of_them heads e among),
        ),
      )
