-- Files that say what is held change nothing, and so do files again that were put in place.
use Rattle.std.proofs.Common.{◌≡◌, ◌∙◌, ℕ, ◌+◌, Bool, true, false, not, List, [], ◌∷◌, map, Ok, is_some, sym, ap, refl}
use Rattle.std.specs.FinMap as table
use Rattle.std.specs.List.{All, list_all}
use Rattle.std.proofs.lemmas.Bool.{not-false}
use Rattle.std.proofs.lemmas.List.Elements.{All-cons, All-nil}
use Rattle.std.proofs.lemmas.List.Folds.{list_all-map}
use Rattle.vet_base.specs.declared.criterion.Criterion.{Criterion}
use Rattle.vet_base.specs.declared.refusal.Refusal.TheVariants.{UnknownPeer}
use Rattle.vet_base.specs.CriteriaChanges.{is_built_in, known}
use Rattle.vet_base.specs.Day.{DayValue}
use Rattle.vet_base.specs.Defined.{defined}
use Rattle.vet_base.specs.FurtherCriteria.{further}
use Rattle.vet_base.specs.Gives.{refuse_if}
use Rattle.vet_base.specs.Items.{NamedOnce, SameItems}
use Rattle.vet_base.specs.Keyed.{item_of}
use Rattle.vet_base.proofs.DefinedLaws.{told_is_table}
use Rattle.vet_base.proofs.FurtherLaws.{further_are_defined}
use Rattle.vet_base.proofs.Rising.{R}
use Rattle.vet_base.proofs.Telling.{not_refused, then_told}
use Rattle.vet_entries.specs.declared.entry.Source.TheVariants.{Own, Peer}
use Rattle.vet_entries.specs.declared.held_peer.HeldPeer.{HeldPeer}
use Rattle.vet_entries.specs.declared.peer_settings.PeerSettings.{PeerSettings}
use Rattle.vet_entries.specs.PeerSettings.{settings_name}
use Rattle.vet_entries.proofs.ImportLaws.{holds_its_content}
use Rattle.vet_files.specs.FilesContent.{FilesValue, IsFiles, content_for, each_is_set}
use Rattle.vet_files.specs.declared.imports_file.ImportedPeer.{ImportedPeer}
use Rattle.vet_register.specs.declared.command.Action.TheVariants.{ReplaceFiles}
use Rattle.vet_register.specs.Already.{has_files}
use Rattle.vet_register.specs.Machine.{held_after, next, number_after}
use Rattle.vet_register.specs.NamesOfFiles.{unknown_of_files}
use Rattle.vet_register.specs.RepeatedFiles.{HeldFilesAreAlready, RepeatedFilesAreAlready, SameContents, SayTheSame}
use Rattle.vet_register.specs.RepeatedFiles.{SayWhatIsHeld, SaysWhatIsHeld, replace_on}
use Rattle.vet_register.specs.Replacing.{held_of_peer, new_of_peer, new_own, peer_after, peers_after}
use Rattle.vet_register.specs.State.{State}
use Rattle.vet_register.specs.Verdict.{files_references, judged}
use Rattle.vet_register.proofs.DatedEntries.{left_undated}
use Rattle.vet_register.proofs.Effects.{passed}
use Rattle.vet_register.proofs.FilesPassed.{files_fit, files_know, files_records, files_table}
use Rattle.vet_register.proofs.HeldEffects.{sound_held}
use Rattle.vet_register.proofs.FilesEffects.{content_readable}
use Rattle.vet_register.proofs.HeldFilesLaws.{files_decided}
use Rattle.vet_register.proofs.RepeatLaws.{judged_accepted, just_where_held, same_as_of}

-- files are told that what they hold is held already just where they say what is held
pub held_files_are_already : HeldFilesAreAlready
held_files_are_already s day f sound is =
    let just = just_where_held s day (ReplaceFiles f) (has_files s.held f) refl in
    let held = files_decided s.held s.next_entry sound.held f is in
    (λ h. held.0 (just.0 h), λ say. just.1 (held.1 say))

-- ---- what files leave

same_through : {X : Type 0} (xs ys zs : List X) → SameItems xs ys → SameItems ys zs → SameItems xs zs
same_through xs ys zs first second = (λ x i. second.0 x (first.0 x i), λ x i. first.1 x (second.1 x i))

-- criteria that are the same as others are those that the others define
same_as_defined : (cs ds : List Criterion) → NamedOnce (λ c. c.name) ds → All (λ c. is_built_in c.name ≡ false) ds →
    SameItems cs ds → SameItems cs (further (defined ds))
same_as_defined cs ds once free same =
    let defines = (further_are_defined ds once free).0 in
    same_through cs ds (further (defined ds)) same (defines.1, defines.0)

-- the peers after have the settings that the files give
settings_stay : (k : ℕ) (peers : List HeldPeer) (contents : List ImportedPeer) (ps : List PeerSettings) → map
    (λ (x : HeldPeer). x.settings) (peers_after k peers contents ps) ≡ ps
settings_stay k peers contents [] = refl
settings_stay k peers contents (p ∷ ps) = ap (λ (rest : List PeerSettings). p ∷ rest)
    (settings_stay (k + new_of_peer peers contents p) peers contents ps)

-- whether peers are set depends on their names alone
set_by_name : (f again : FilesValue) → SayTheSame again f → each_is_set f ≡ true → each_is_set again ≡ true
set_by_name f again same set =
    let is_set_in : List PeerSettings → List ℕ → Bool = λ settings name. is_some
    (item_of R settings_name settings name) in
    let name_of : ImportedPeer → List ℕ = λ p. p.name in
    sym (list_all-map (is_set_in again.settings) name_of again.contents)
    ∙ (λ i. list_all (is_set_in (same.settings i)) (same.peers i))
    ∙ list_all-map (is_set_in f.settings) name_of f.contents
    ∙ set

-- files that were accepted set each peer
set_accepted : (f : FilesValue) → files_references f ≡ Ok tt → each_is_set f ≡ true
set_accepted f h =
    let names = known (unknown_of_files (table.contains_key (defined f.criteria)) f) in
    not-false (each_is_set f)
    (not_refused (not (each_is_set f)) UnknownPeer
    (then_told names (λ _. refuse_if (not (each_is_set f)) UnknownPeer) tt h).1)

module _ (peers : List HeldPeer) (f again : FilesValue) (is : IsFiles f)
    (same : (name : List ℕ) → SameContents (content_for again.contents name) (content_for f.contents name)) where
  -- files that say the same of a peer say what is held of it after
  one_says : (k : ℕ) (p : PeerSettings) → SaysWhatIsHeld again.contents (peer_after k peers f.contents p)
  one_says k p =
      let given = content_for f.contents p.name in
      let said = content_for again.contents p.name in
      let can = content_readable f is p.name in
      let left = holds_its_content p.name k (held_of_peer peers p) given in (
        same_as_defined said.criteria given.criteria can.named_once can.further (same p.name).0,
        same_through _ _ _ (same_as_of (Peer p.name) said.entries given.entries (same p.name).1) left.0,
      )

  each_says : (k : ℕ) (ps : List PeerSettings) → All (SaysWhatIsHeld again.contents) (peers_after k peers f.contents ps)
  each_says k [] = All-nil (SaysWhatIsHeld again.contents)
  each_says k (p ∷ ps) =
      let next = k + new_of_peer peers f.contents p in
      All-cons (SaysWhatIsHeld again.contents) (peer_after k peers f.contents p)
      (peers_after next peers f.contents ps) (one_says k p) (each_says next ps)

-- files that say the same as others say what is held after these
say_what_is_left : (s : State) (day : DayValue) (f again : FilesValue) → IsFiles f → SayTheSame again f → each_is_set f
    ≡ true → SayWhatIsHeld (held_after s day (ReplaceFiles f)) again
say_what_is_left s day f again is same set =
    let facts = s.held.facts in
    let k = s.next_entry + new_own facts f in
    record {
      criteria = same_as_defined again.criteria f.criteria is.named_once is.further same.criteria;
      entries = same_through _ _ _ (same_as_of Own again.entries f.entries same.entries)
          (left_undated f.entries is.undated s.next_entry facts.entries);
      settings = same.settings ∙ sym (settings_stay k facts.peers f.contents f.settings);
      set = set_by_name f again same set;
      contents = each_says facts.peers f again is same.contents k f.settings;
      publishers = same.publishers;
      policies = same.policies;
      tool = same.tool;
    }

-- after files were put in place, files that say the same change nothing
pub repeated_files_are_already : RepeatedFilesAreAlready
repeated_files_are_already s day later f again sound is are same told =
    let a = ReplaceFiles f in
    let accepted = judged_accepted s day a (judged s day a) told in
    let p = passed s day a accepted in
    let fit = files_fit s f p.limits in
    let defines = told_is_table f.criteria (files_table f is fit.criteria (files_know f p.references)) in
    let held = sound_held s day a accepted sound is defines (files_records f is fit.records) in
    let just = just_where_held (next s (replace_on day f)) later (ReplaceFiles again)
    (has_files (held_after s day a) again) refl in
    just.1 ((files_decided (held_after s day a) (number_after s a) held again are).1
    (say_what_is_left s day f again is same (set_accepted f p.references)))
