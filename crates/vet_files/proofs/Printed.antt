-- What holds of a printed text.
use Rattle.std.proofs.Common.{◌≡◌, ℕ, List, [], ◌∷◌, Result, Ok, Err, IfOk, nat_cmp, refl, ap}
use Rattle.std.specs.Cmp.Lexicographic.{slice_cmp}
use Rattle.std.specs.FinSet as set
use Rattle.vet_base.specs.Items.{SameItems}
use Rattle.vet_entries.specs.declared.entry.Entry.{Entry}
use Rattle.vet_entries.specs.declared.peer_settings.PeerSettings.{PeerSettings}
use Rattle.vet_files.specs.declared.audits_file.AuditsContent.{AuditsContent}
use Rattle.vet_files.specs.declared.config_file.ConfigContent.{ConfigContent}
use Rattle.vet_files.specs.declared.imports_file.ImportsContent.{ImportsContent}
use Rattle.vet_files.specs.declared.read.whose.Whose.TheVariants.{Ours}
use Rattle.vet_files.specs.Audits.{audits_told, document_told}
use Rattle.vet_files.specs.AuditsTable.{audits_table}
use Rattle.vet_files.specs.Config.{config_told}
use Rattle.vet_files.specs.ConfigTable.{config_table}
use Rattle.vet_files.specs.Imports.{imports_told}
use Rattle.vet_files.specs.ImportsTable.{imports_table}
use Rattle.vet_files.specs.ReadAgain.{GivesBack, ReadsAudits, ReadsConfig, ReadsImports}
use Rattle.vet_files.specs.SameContent.{IsAudits, IsConfig, IsImports, SameAudits, SameConfig, SameImports, taken}
use Rattle.vet_files.proofs.ConfigReadBack.{config_read_again}
use Rattle.vet_files.proofs.ImportsReadBack.{imports_read_again}
use Rattle.vet_files.proofs.AuditsReadBack.{audits_read_back}
use Rattle.std.specs.Prelude.{codes}

pub ok_then : {A E : Type 0} (P Q : A → Type 0) (r : Result A E) → ((a : A) → P a → Q a) → IfOk r P → IfOk r Q
ok_then P Q (Ok a) next h = next a h
ok_then P Q (Err e) next h = tt

-- where nothing is excluded, all is taken
taken_all : (es : List Entry) → taken set.empty es ≡ es
taken_all [] = refl
taken_all (e ∷ es) = rw (set.contains-empty (slice_cmp nat_cmp) e.«package»)
    (ap (λ (xs : List Entry). e ∷ xs) (taken_all es))

-- a text whose table is that of a content is read as this content
pub audits_back : (content : AuditsContent) (text : List ℕ) → ReadsAudits set.empty content.criteria content.entries
    → IsAudits content
    → document_told text ≡ Ok (audits_table content) → GivesBack audits_told (SameAudits content) text
audits_back content text reads stands told =
    let (found, (back, (criteria, entries))) = audits_read_back Ours (codes "top") [] set.empty content.criteria
    content.entries stands reads.each_criterion reads.audits reads.wildcards reads.trusted in
    let all : SameItems content.entries found.entries = rw (taken_all content.entries) at entries in
    (found, (rw told back, (criteria, all)))

pub config_back : (content : ConfigContent) (text : List ℕ) → ReadsConfig content → IsConfig content
    → document_told text ≡ Ok (config_table content) → GivesBack config_told (SameConfig content) text
config_back content text reads stands told =
    let (found, (back, same)) = config_read_again content stands reads in
    (found, (rw told back, same))

pub imports_back : (settings : List PeerSettings) (content : ImportsContent) (text : List ℕ)
    → ReadsImports settings content → IsImports content
    → document_told text ≡ Ok (imports_table settings content)
    → GivesBack imports_told (SameImports settings content) text
imports_back settings content text reads stands told =
    let (found, (back, same)) = imports_read_again settings content stands reads in
    (found, (rw told back, same))
