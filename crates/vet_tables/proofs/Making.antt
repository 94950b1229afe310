-- The tables are made one after another.
use Rattle.std.proofs.Common.{◌≡◌, false, inl, inr, List, [], ◌++◌, ◌+◌, ◌<◌, ◌≤◌, ℕ, IsTrue, None, Ok, Err, Result}
use Rattle.std.proofs.Common.{OnOk, refl, sym, ap, subst, ◌∙◌, arith, eq-or-lt_of_le}
use Rattle.std.proofs.lemmas.Bool.{true≢false}
use Rattle.sqlite.specs.Command.TheVariants.{CreateTable}
use Rattle.sqlite.specs.Does.{Does}
use Rattle.sqlite.specs.Effect.{Database}
use Rattle.sqlite.specs.State.{ExecutesInside, State, mode_of}
use Rattle.sqlite.specs.declared.error.Error.{Error}
use Rattle.sqlite_catalog.proofs.ListFacts.{none_placed}
use Rattle.sqlite_catalog.specs.Change.{is_used}
use Rattle.sqlite_rules.specs.Lists.{Has}
use Rattle.sqlite_schema.specs.Names.{same_name}
use Rattle.sqlite_schema.specs.declared.schema.Schema.{Schema}
use Rattle.sqlite_schema.specs.declared.schema.Table.{Table}
use Rattle.vet_tables.proofs.Creates.{create_is, text_whole}
use Rattle.vet_tables.proofs.Extends.{extends_none, extends_then, has_either, has_front, still_has, still_rows, unused}
use Rattle.vet_tables.proofs.Extends.{unused_before}
use Rattle.vet_tables.proofs.Makes.{finds, finds_unused, named_itself}
use Rattle.vet_tables.proofs.Steps.{ran}
use Rattle.vet_tables.proofs.TablePlaces.{same_or_other}
use Rattle.vet_tables.specs.Contents.{IsOther}
use Rattle.vet_tables.specs.Extends.{Extends}
use Rattle.vet_tables.specs.Forms.{code, form_of}
use Rattle.vet_tables.specs.Free.{AreFree}
use Rattle.vet_tables.specs.Has.{HasTable}
use Rattle.vet_tables.specs.Makes.{MakesTable, MakesTables}
use Rattle.vet_tables.specs.Texts.{create_text}
use Rattle.vet_tables.specs.declared.table_name.TableName.{TableName}

make_step : (n : TableName) (old new : State) (count : ℕ)
    → ExecutesInside 0 (create_text (form_of n)) [] old new (Ok count) → MakesTable old new n
make_step n old new count h =
    let run = ran (create_text (form_of n)) [] old new CreateTable count (create_is n old.now.schema) h.0 in
    let write = run.2 in
    let done = subst (λ t. Does old.step_limit (mode_of old) [] old.now t None CreateTable
    (Ok (write.tally, new.now))) (text_whole n old.now.schema run.0 run.1) write.changed in
    record {
      was_open = h.1.was_open;
      is_open = h.1.is_open;
      committed = h.1.committed_is;
      inside = rw h.1.mode;
      sound = write.sound;
      unused = finds_unused n old.step_limit (mode_of old) old.now new.now write.tally done;
      gains = finds n old.step_limit (mode_of old) old.now new.now write.tally done;
    }

pub makes : (n : TableName) (old new : State) (r : Result ℕ Error)
    → ExecutesInside 0 (create_text (form_of n)) [] old new r → OnOk r (MakesTable old new n)
makes n old new (Err e) h = tt
makes n old new (Ok count) h = make_step n old new count h

pub makes_none : (a : State) (first : ℕ) → IsTrue a.is_open → IsTrue a.in_transaction → MakesTables a a first first
makes_none a first serves inside = record {
  was_open = serves;
  is_open = serves;
  committed = refl;
  inside = inside;
  sound = λ sound. sound;
  unused = λ n high low. absurd (omega (arith, high, low));
  extends = extends_none a.now;
  has = λ sound free n high low. absurd (omega (arith, high, low));
  frees = λ free. free;
  only = λ t there. inl there;
}

pub makes_more : (a b c : State) (first k : ℕ) (n : TableName) → first ≤ k → code n ≡ k → MakesTables a b first k
    → MakesTable b c n → MakesTables a c first (k + 1)
makes_more a b c first k n begun place one two = record {
  was_open = one.was_open;
  is_open = two.is_open;
  committed = two.committed ∙ one.committed;
  inside = two.inside;
  sound = λ sound. two.sound;
  unused = λ m high low. elim (same_or_other m n) [
    | inl same ↦
        subst (λ name. is_used a.now.schema (form_of name).name ≡ false) (sym same)
        (unused_before a.now b.now (form_of n).name one.extends two.unused)
    | inr apart ↦ one.unused m high (below m apart low)
  ];
  extends = extends_then a.now b.now c.now one.extends two.gains.extends;
  has = λ sound free m high low. elim (same_or_other m n) [
    | inl same ↦
        subst (λ name. (h : HasTable c.now.schema (form_of name)) × (c.now.trees h.tree ≡ [])) (sym same)
        (two.gains.has (one.sound sound) (one.frees free n (omega (arith, place))))
    | inr apart ↦
        let was = one.has sound free m high (below m apart low) in (
          still_has b.now c.now (form_of m) two.gains.extends was.0,
          still_rows b.now c.now (form_of m) two.gains.extends was.0 ∙ was.1,
        )
  ];
  frees = λ free m high. two.gains.frees m (λ e. omega (arith, high, place, e))
      (one.frees free m (omega (arith, high)));
  only = λ t there. elim (two.gains.only t there) [
    | inl old ↦ one.only t old
    | inr made ↦ inr (n, (omega (arith, begun, place), made))
  ];
}
  where
    below : (m : TableName) → (code m ≡ code n → ⊥) → code m < k + 1 → code m < k
    below m apart low = elim (eq-or-lt_of_le {n = code m} {m = k} (omega (arith, low))) [
      | inl same ↦ absurd
          (apart (same ∙ sym place))
      | inr less ↦ less
    ]

pub in_longer : {X : Type 0} (xs more ys : List X) → ys ≡ xs ++ more → (x : X) → Has xs x → Has ys x
in_longer xs more ys e x h = subst (λ zs. Has zs x) (sym e) (has_front xs more x h)

-- where the names are free, no table is one of ours
pub no_own : (schema : Schema) → AreFree schema → (t : Table) → IsOther schema t
no_own schema free t n own owned named same =
    let none = unused schema (form_of n).name (free n (omega arith)).unused in
    let unlike = none_placed (λ (u : Table). same_name u.name (form_of n).name) schema.tables 0 own none.0 owned in
    absurd (true≢false (sym (ap (λ name. same_name name (form_of n).name) named ∙ named_itself n) ∙ unlike))

-- a table that was there, and is none of ours, is none of the new ones either
pub still_other : (a b : Database) (more : Extends a b) (t : Table) → Has a.schema.tables t → IsOther a.schema t
    → IsOther b.schema t
still_other a b more t there other n own owned named same =
    elim (has_either a.schema.tables more.tables own (subst (λ ts. Has ts own) more.tables_are owned)) [
      | inl old ↦ other n own old named same
      | inr new ↦ more.fresh own new t there same
    ]
