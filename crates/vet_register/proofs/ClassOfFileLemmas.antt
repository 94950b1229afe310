-- What a file without unknown criteria gives.
use Rattle.std.proofs.Common.{◌≡◌, ◌∙◌, ℕ, Bool, false, List, None, Ok, Err, sym, ap, inl, inr}
use Rattle.std.specs.Prelude.{IfOk, IfErr}
use Rattle.std.specs.declared.result.Result.{Result}
use Rattle.vet_base.specs.Gives.{Gives, Told}
use Rattle.vet_base.specs.declared.refusal.Refusal.{Refusal}
use Rattle.vet_base.specs.declared.refusal.Refusal.TheVariants.{NoMemory}
use Rattle.std.proofs.lemmas.Bool.{cases_Bool}
use Rattle.std.specs.FinMap as map
use Rattle.std.specs.List.{All}
use Rattle.std.specs.Prelude.{nat_lt}
use Rattle.vet_base.specs.Criteria.{Criteria}
use Rattle.vet_base.specs.CriteriaChanges.{is_built_in}
use Rattle.vet_base.specs.declared.limits.TheConstants.{MOST_CRITERIA}
use Rattle.vet_base.specs.Defined.{defined, least_undefined, lesser, table_told}
use Rattle.vet_entries.specs.declared.entry.Entry.{Entry}
use Rattle.vet_files.specs.declared.audits_file.AuditsContent.{AuditsContent}
use Rattle.vet_register.specs.ClassOfFile.{checked, unknown_in, unknown_name}
use Rattle.vet_base.proofs.Telling.{all_known}
use Rattle.vet_register.proofs.UnknownNames.{lesser-None, none_left, table_of}

-- where no name is unknown, each is known that a criterion implies
pub all_defined : (table : Criteria) (word : List ℕ) (content : AuditsContent) → unknown_name (map.contains_key table)
    word content ≡ None
    → least_undefined (map.contains_key table) content.criteria ≡ None
all_defined table word content e =
    let implied = least_undefined (map.contains_key table) content.criteria in
    let least = lesser (unknown_in (map.contains_key table) word) implied in
    (lesser-None (unknown_in (map.contains_key table) word) implied
    (none_left (map.contains_key table) (λ (e : Entry). e.criteria) least content.entries e).0).1

-- ---- what the names that are known tell

-- the least name that isn't known, where what is known are the table's names
pub by_table : (has : List ℕ → Bool) (word : List ℕ) (content : AuditsContent) →
    ((n : List ℕ) → has n ≡ map.contains_key (defined content.criteria) n)
    → unknown_name has word content ≡ unknown_name (map.contains_key (defined content.criteria)) word content
by_table has word content same = ap (λ k. unknown_name k word content) (λ i n. same n i)

-- ---- what is known where the check has passed

-- there are few criteria, and no name is unknown
pub passed : (word : List ℕ) (content : AuditsContent) → checked word content ≡ Ok tt
    → (nat_lt MOST_CRITERIA (map.len (defined content.criteria)) ≡ false) ×
    (unknown_name (map.contains_key (defined content.criteria)) word content ≡ None)
passed word content e = elim (cases_Bool (nat_lt MOST_CRITERIA (map.len (defined content.criteria)))) [
  | inl many ↦ let e' = rw many at e in cc e'
  | inr few ↦ (few, all_known _ (let e' = rw few at e in e'))
]

-- the file's table is that of its criteria
pub table_passed : (word : List ℕ) (content : AuditsContent) → checked word content ≡ Ok tt → All
    (λ c. is_built_in c.name ≡ false) content.criteria
    → table_told content.criteria ≡ Ok (defined content.criteria)
table_passed word content e further =
    let both = passed word content e in
    table_of content.criteria both.0 (all_defined (defined content.criteria) word content both.1) further

-- ---- the answer

pub answered : {A : Type 0} (answer : Result A Refusal) (found : A) (told : Told A) → told ≡ Ok found → IfOk answer
    (λ x. x ≡ found) → IfErr answer (λ e. e ≡ NoMemory)
    → Gives (λ x. x) told answer
answered (Ok x) found told is same memory = is ∙ ap Ok (sym same)
answered (Err e) found told is same memory = inl memory
