-- A connection to files that are empty shows a database with nothing in it.
use Rattle.std.proofs.Common.{List, [], ◌∷◌, length, true, ◌≡◌, refl, sym, ap, ◌∙◌, arith, inl, inr}
use Rattle.std.specs.List.{AllZip}
use Rattle.sqlite_disk.specs.declared.Disk.{Ghosts}
use Rattle.sqlite_disk.specs.declared.Files.{Files}
use Rattle.sqlite_catalog.specs.Listing.{IsIndexRow, IsTableRow, IsViewRow, Lists}
use Rattle.sqlite_pool.proofs.StateLemmas.{clean_is}
use Rattle.sqlite_pool.specs.Pool.{files as pool_files}
use Rattle.sqlite_schema.specs.declared.schema.Schema.{Schema}
use Rattle.sqlite_store.specs.declared.store.FileStore.{FileStore}
use Rattle.sqlite_trees.specs.Objects.{catalog_tree}
use Rattle.sqlite.specs.Files.{Finds, IsOpened, file_state, image_of}
use Rattle.sqlite.specs.Held.{Held}
use Rattle.sqlite.specs.State.{HasCleanDisk}
use Rattle.sqlite.specs.Steps.{IsEmpty}
use Rattle.sqlite_trees.proofs.Doubt.{no_doubt}
use Rattle.vet_tables.specs.Free.{AreFree}

-- a disk that never takes a wrong answer as true is clean at any time
pub files_are_clean : {D : Type 0} {g : Ghosts D} → ((f : D) → g.is_clean f ≡ true) → (c : Held (FileStore D g))
    → HasCleanDisk (file_state c)
files_are_clean honest c =
    let files = pool_files c.store.pool in
    no_doubt _ (clean_is c.store.pool ∙ rw (honest files.0, honest files.1) refl)

of_none : {A B : Type 0} (R : A → B → Type 0) (ys : List B) → AllZip R [] ys → ys ≡ []
of_none R [] h = refl
of_none R (y ∷ ys) h = absurd h

no_object : (schema : Schema) → schema.tables ≡ [] → schema.indexes ≡ [] → schema.views ≡ []
    → schema ≡ record { tables = []; indexes = []; views = [] }
no_object schema tables indexes views = rw (sym tables, sym indexes, sym views) refl

of_nothing : (schema : Schema) → Lists [] schema → schema ≡ record { tables = []; indexes = []; views = [] }
of_nothing schema lists =
    no_object schema (of_none IsTableRow schema.tables lists.listed.tables)
    (of_none (IsIndexRow schema.tables) schema.indexes lists.listed.indexes)
    (of_none IsViewRow schema.views lists.listed.views)

pub shows_nothing : {D : Type 0} {g : Ghosts D} (files : Files D) (c : Held (FileStore D g))
    → (image_of g files).db ≡ [] → IsOpened c → Finds files c → IsEmpty (file_state c)
shows_nothing files c none opened finds =
    let sound = (opened.1 opened.0.is_open).1 in
    let unlisted : (file_state c).committed.trees catalog_tree ≡ [] = elim finds.reads [
      | inl held ↦ absurd (omega (arith, held.3.found.present, ap length none))
      | inr nothing ↦ nothing.1.1
    ] in
    let same = ap (λ db. db.schema) opened.0.clean in
    (opened.0, opened.1, same ∙ of_nothing _ (rw unlisted at sound.lists))

-- in a schema with nothing in it no name is taken
pub free_of_nothing : (schema : Schema) → schema ≡ record { tables = []; indexes = []; views = [] } → AreFree schema
free_of_nothing schema none name behind = rw none (record { unused = refl; unreferred = refl })
