-- No foreign key acts where a row of one of our tables changes.
use Rattle.std.proofs.Common.{◌≡◌, inl, inr, ℕ, List, [], ◌∷◌, Bool, true, false, not, ◌&&◌, ◌==◌, None, Some, Option}
use Rattle.std.proofs.Common.{IfSome, find, option_map, option_and_then, refl, sym, ap, subst, ◌∙◌}
use Rattle.std.proofs.lemmas.Bool.{true≢false}
use Rattle.std.specs.List.{AllByRecursion, filter_map, flat_map, list_all}
use Rattle.std.specs.Str.{bytes_eq}
use Rattle.std.proofs.lemmas.Slice.Eq.{bytes_eq-Decides}
use Rattle.sqlite_rules.proofs.ListLemmas.{all_from, has_found}
use Rattle.sqlite_rules.specs.Action.{pairs, work_by, works}
use Rattle.sqlite_rules.specs.Lists.{Has}
use Rattle.sqlite_rules.specs.declared.action.Deed.{Deed}
use Rattle.sqlite_schema.specs.Names.{same_name}
use Rattle.sqlite_schema.specs.Rules.{ParentKey, key_in, key_places, declared_order, parent_key}
use Rattle.sqlite_schema.specs.declared.schema.Keys.{Keys}
use Rattle.sqlite_schema.specs.declared.schema.Reference.{Reference}
use Rattle.sqlite_schema.specs.declared.schema.Schema.{Schema}
use Rattle.sqlite_schema.specs.declared.schema.Table.{Table}
use Rattle.sqlite_value.specs.Order.{Row}
use Rattle.vet_tables.specs.Form.{TableForm}
use Rattle.vet_tables.specs.Has.{HasTable, is_apart, refers_not}

-- a test that all pass, at one of them
pub passes_at : {X : Type 0} (p : X → Bool) (xs : List X) (x : X) → list_all p xs ≡ true → Has xs x → p x ≡ true
passes_at p [] x all h = absurd h
passes_at p (y ∷ xs) x all h = go (p y) refl all h (passes_at p xs x)
  where
    go : (b : Bool) → p y ≡ b → (b && list_all p xs) ≡ true → Has (y ∷ xs) x
        → (list_all p xs ≡ true → Has xs x → p x ≡ true) → p x ≡ true
    go true is all (inl e) more = ap p e ∙ is
    go true is all (inr h) more = more all h
    go false is all h more = absurd (true≢false (sym all))

-- a key of another tree
abbrev IsElsewhere : ℕ → Option ParentKey → Type 0
IsElsewhere tree key = IfSome key (λ k. (k.0 == tree) ≡ false)

keyed : (tree : ℕ) (t : Table) → (t.tree == tree) ≡ false → (places : Option (List ℕ))
    → IsElsewhere tree (option_and_then (key_in t) places)
keyed tree t other None = tt
keyed tree t other (Some places) = go (declared_order t places)
  where
    go : (o : Option _) → IsElsewhere tree (option_map (λ o. (t.tree, places, o)) o)
    go None = tt
    go (Some o) = other

no_work : (tree : ℕ) (moves : List (Row × Row)) (child : Table) (ref : Reference) (deed : Option Deed)
    (key : Option ParentKey) → IsElsewhere tree key → work_by 0 tree moves child ref deed key ≡ None
no_work tree moves child ref None key other = refl
no_work tree moves child ref (Some deed) None other = refl
no_work tree moves child ref (Some deed) (Some key) other = rw other

none_of : {X Y : Type 0} (f : X → Option Y) (xs : List X) → AllByRecursion (λ x. f x ≡ None) xs → filter_map f xs ≡ []
none_of f [] all = refl
none_of f (x ∷ xs) all = rw (all.0, none_of f xs all.1)

all_none : {X Y : Type 0} (f : X → List Y) (xs : List X) → AllByRecursion (λ x. f x ≡ []) xs → flat_map f xs ≡ []
all_none f [] all = refl
all_none f (x ∷ xs) all = rw (all.0, all_none f xs all.1)

module _ (schema : Schema) (form : TableForm) (has : HasTable schema form) where
  parent_elsewhere : (child : Table) (ref : Reference) → Has schema.tables child → Has child.references ref
      → IsElsewhere has.tree (parent_key schema.tables ref)
  parent_elsewhere child ref there refers = go (find (λ t. same_name t.name ref.parent) schema.tables) refl
    where
      go : (parent : Option Table) → find (λ t. same_name t.name ref.parent) schema.tables ≡ parent
          → IsElsewhere has.tree (option_and_then (λ t. option_and_then (key_in t)
          (key_places t ref.parent_columns)) parent)
      go None is = tt
      go (Some t) is = keyed has.tree t (sym (apart (t.tree == has.tree) refl)) (key_places t ref.parent_columns)
        where
          apart : (b : Bool) → (t.tree == has.tree) ≡ b → false ≡ (t.tree == has.tree)
          apart false e = sym e
          apart true e =
              let found = has_found (λ t. same_name t.name ref.parent) schema.tables t is in
              let named = passes_at (is_apart form has.tree) schema.tables t has.alone found.0 in
              let same : bytes_eq t.name form.name ≡ true = rw e at named in
              let names : t.name ≡ form.name = (bytes_eq-Decides t.name form.name).0 same in
              let free = passes_at (λ (r : Reference). not (same_name form.name r.parent)) child.references ref
              (passes_at (refers_not form.name) schema.tables child has.unreferred there) refers in
              absurd (true≢false (sym free ∙ ap not (subst (λ name. same_name name ref.parent ≡ true) names found.1)))

  pub no_works : (keys : Keys) (olds news : List Row) → works schema keys 0 has.tree olds news ≡ []
  no_works keys olds news = all_none _ schema.tables
      (all_from _ schema.tables (λ child there. none_of _ child.references (all_from _ child.references (λ ref refers.
      no_work has.tree (pairs olds news) child ref _ (parent_key schema.tables ref)
      (parent_elsewhere child ref there refers)))))
