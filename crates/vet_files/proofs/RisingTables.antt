-- The tables that stand in a table whose keys rise.
use Rattle.std.proofs.Common.{ℕ, List, Ordering, Less, Equal, Greater, Option, Some, None, IfOk}
use Rattle.std.specs.Prelude.{IfSome, Ok, Err}
use Rattle.std.specs.Cmp.Lexicographic.{slice_cmp}
use Rattle.std.specs.Ordering.{match_ordering, nat_cmp}
use Rattle.std.specs.Str.{is_utf8}
use Rattle.std.proofs.lemmas.Bool.{cond_both}
use Rattle.toml.specs.Data.{Data, string, integer, float, boolean, datetime, array, table, Members, no_members, member}
use Rattle.toml.specs.Data.{as_table, get_member}
use Rattle.toml.specs.Parse.{parse_document}
use Rattle.vet_base.specs.Gives.{Told, found_or}
use Rattle.vet_base.specs.declared.refusal.Refusal.{Refusal}
use Rattle.vet_base.specs.declared.refusal.Refusal.TheVariants.{TomlRefused}
use Rattle.vet_files.specs.Audits.{document_told}
use Rattle.vet_files.specs.Field.{fault}
use Rattle.vet_files.specs.Lists.{RisesAt, table_at, table_of}
use Rattle.vet_files.specs.Walk.{KeysRise}
use Rattle.vet_files.proofs.Rising.{Rises, Rising, rising-keys}
use Rattle.vet_files.proofs.RisingTexts.{document-rises}

-- what stands at a key
get-rises : (key : List ℕ) (ms : Members) → Rising ms → IfSome (get_member key ms) Rises
get-rises key no_members h = tt
get-rises key (member l d rest) h = step (slice_cmp nat_cmp key l) (get-rises key rest h.1.1)
  where
    step : (o : Ordering) → IfSome (get_member key rest) Rises
        → IfSome (match_ordering o (get_member key rest) (Some d) (get_member key rest)) Rises
    step Less more = more
    step Equal more = h.1.0
    step Greater more = more

-- a value that is a table
pub as_table-rises : (refusal : Refusal) (d : Data) → Rises d → IfOk (found_or refusal (as_table d)) Rising
as_table-rises refusal (string s) h = tt
as_table-rises refusal (integer z) h = tt
as_table-rises refusal (float x) h = tt
as_table-rises refusal (boolean b) h = tt
as_table-rises refusal (datetime t) h = tt
as_table-rises refusal (array ds) h = tt
as_table-rises refusal (table ms) h = h

table_of-rises : (path key : List ℕ) (o : Option Data) → IfSome o Rises → IfOk (table_of path key o) Rising
table_of-rises path key None h = tt
table_of-rises path key (Some d) h = as_table-rises (fault path key) d h

-- the table at a key
pub table_at-rises : (path key : List ℕ) (ms : Members) → Rising ms → IfOk (table_at path key ms) Rising
table_at-rises path key ms h = table_of-rises path key (get_member key ms) (get-rises key ms h)

pub rising-at : (path key : List ℕ) (ms : Members) → Rising ms → RisesAt path key ms
rising-at path key ms h = only-keys (table_at path key ms) (table_at-rises path key ms h)
  where
    only-keys : (told : Told Members) → IfOk told Rising → IfOk told KeysRise
    only-keys (Ok inner) rise = rising-keys inner rise
    only-keys (Err refusal) rise = tt

-- the table of a file
found-rises : (o : Option Members) → IfSome o Rising → IfOk (found_or TomlRefused o) Rising
found-rises None h = tt
found-rises (Some ms) h = h

pub file-rises : (bytes : List ℕ) → IfOk (document_told bytes) Rising
file-rises bytes =
    found-rises _ (cond_both (is_utf8 bytes) (parse_document bytes) None (λ o. IfSome o Rising)
    (λ _. document-rises bytes) (λ _. tt))
