-- What was in the database before the tables were made is still there after commands.
use Rattle.std.proofs.Common.{◌≡◌, inl, inr, List, [], ◌∷◌, ◌==◌, true, false, refl, sym, ap, subst, ◌∙◌}
use Rattle.std.proofs.lemmas.Bool.{cases_Bool, eq-eqb, true≢false}
use Rattle.std.proofs.lemmas.Slice.Eq.{bytes_eq-Decides}
use Rattle.std.specs.List.{list_all}
use Rattle.std.specs.Str.{bytes_eq}
use Rattle.sqlite.specs.Effect.{Database}
use Rattle.sqlite_catalog.specs.Change.{is_used}
use Rattle.sqlite_rules.proofs.ListLemmas.{all_from, all_has, has_got}
use Rattle.sqlite_rules.specs.Lists.{Has}
use Rattle.sqlite_schema.specs.Names.{same_name}
use Rattle.sqlite_schema.specs.declared.schema.Schema.{Schema}
use Rattle.sqlite_schema.specs.declared.schema.Table.{Table}
use Rattle.sqlite_trees.specs.Tree.{IsAscending}
use Rattle.vet_base.specs.Words.{Name}
use Rattle.vet_tables.proofs.Makes.{named_itself}
use Rattle.vet_tables.proofs.Making.{no_own}
use Rattle.vet_tables.proofs.Unreferred.{passes_at}
use Rattle.vet_tables.specs.Cells.{RowsValue}
use Rattle.vet_tables.specs.Contents.{IsOther, KeepsOthers}
use Rattle.vet_tables.specs.Extends.{SparesOthers}
use Rattle.vet_tables.specs.Form.{table_of}
use Rattle.vet_tables.specs.Forms.{form_of}
use Rattle.vet_tables.specs.Free.{AreFree}
use Rattle.vet_tables.specs.Has.{is_apart, refers_not}
use Rattle.vet_store.specs.Stands.{Holds}

-- names are free if it is false that they are not
pub free_after_all : (schema : Schema) → ((AreFree schema → ⊥) → ⊥) → AreFree schema
free_after_all schema twice name low = record {
  unused = elim (cases_Bool (is_used schema (form_of name).name)) [
    | inl used ↦ absurd (twice (λ free. true≢false (sym used ∙ (free name low).unused)))
    | inr unused ↦ unused
  ];
  unreferred = elim (cases_Bool (list_all (refers_not (form_of name).name) schema.tables)) [
    | inl unreferred ↦ unreferred
    | inr referred ↦ absurd (twice (λ free. true≢false (sym (free name low).unreferred ∙ referred)))
  ];
}

-- where no two tables have one name, two of this name are one
module _ (name : Name) (itself : same_name name name ≡ true) where
  alike : (a b : Table) → a.name ≡ name → b.name ≡ name → same_name a.name b.name ≡ true
  alike a b one two = ap (λ word. same_name word b.name) one ∙ ap (same_name name) two ∙ itself

  one_named : (tables : List Table) (a b : Table) → IsAscending (λ s t. same_name s.name t.name ≡ false) tables
      → Has tables a → Has tables b → a.name ≡ name → b.name ≡ name → a ≡ b
  one_named [] a b once h k one two = absurd h
  one_named (t ∷ tables) a b once (inl h) (inl k) one two = h ∙ sym k
  one_named (t ∷ tables) a b once (inl h) (inr k) one two =
      let first = ap (λ (u : Table). u.name) (sym h) ∙ one in
      absurd (true≢false (sym (alike t b first two)
      ∙ all_has (λ u. same_name t.name u.name ≡ false) tables b once.0 k))
  one_named (t ∷ tables) a b once (inr h) (inl k) one two =
      let first = ap (λ (u : Table). u.name) (sym k) ∙ two in
      absurd (true≢false (sym (alike t a first one)
      ∙ all_has (λ u. same_name t.name u.name ≡ false) tables a once.0 h))
  one_named (t ∷ tables) a b once (inr h) (inr k) one two = one_named tables a b once.1 h k one two

-- the tables were made where no name was taken, and then only rows of theirs were changed
module _ (old mid new : Database) (rows : RowsValue) (free : AreFree old.schema) (made : SparesOthers old mid)
    (holds : Holds mid rows) (kept : KeepsOthers mid new) where
  is_other : (t : Table) → Has old.schema.tables t → IsOther mid.schema t
  is_other t h n own owned named same =
      let has = holds.has n in
      let there = has_got mid.schema.tables has.at (table_of (form_of n) has.tree) has.there in
      let one : own ≡ table_of (form_of n) has.tree = one_named (form_of n).name (named_itself n) mid.schema.tables own
      (table_of (form_of n) has.tree) holds.sound.lists.listed.named owned there named refl in
      let tree : t.tree ≡ has.tree = same ∙ ap (λ (u : Table). u.tree) one in
      let equal : (t.tree == has.tree) ≡ true = eq-eqb t.tree has.tree tree in
      let passed = passes_at (is_apart (form_of n) has.tree) mid.schema.tables t has.alone (made.tables t h) in
      let taken : bytes_eq t.name (form_of n).name ≡ true = rw equal at passed in
      no_own old.schema free t n t h ((bytes_eq-Decides t.name (form_of n).name).0 taken) refl

  pub still_spared : SparesOthers old new
  still_spared = record {
    tables = λ t h. subst (λ (s : Schema). Has s.tables t) (sym kept.schema) (made.tables t h);
    indexes = λ i h. subst (λ (s : Schema). Has s.indexes i) (sym kept.schema) (made.indexes i h);
    views = λ w h. subst (λ (s : Schema). Has s.views w) (sym kept.schema) (made.views w h);
    rows = all_from (λ t. new.trees t.tree ≡ old.trees t.tree) old.schema.tables (λ t h.
        kept.rows t (made.tables t h) (is_other t h)
        ∙ all_has (λ t. mid.trees t.tree ≡ old.trees t.tree) old.schema.tables t made.rows h);
  }
