-- What is judged of three files, and how their contents stand to what is held of peers.
use Rattle.std.proofs.Common.{◌≡◌, ◌⊎◌, ◌∙◌, ℕ, ◌+◌, ◌≤◌, ◌&&◌, ◌||◌, Bool, true, false, cond, is_some, not, List, []}
use Rattle.std.proofs.Common.{◌∷◌, map, Option, Some, None, Result, Ok, Err, inl, inr, refl, sym, ap, subst, arith}
use Rattle.std.specs.FinMap as table
use Rattle.std.specs.List.{find, list_all, list_any, sum_by}
use Rattle.std.specs.Option.{option_map_or}
use Rattle.std.specs.Prelude.{MatchOption, nat_lt}
use Rattle.std.proofs.lemmas.Bool.{cases_Bool, ltb-true}
use Rattle.std.proofs.lemmas.List.{length-map}
use Rattle.std.proofs.lemmas.List.Sums.{sum_by-cons, sum_by-le-sum_by}
use Rattle.vet_base.specs.declared.limits.TheConstants.{LAST_NUMBER}
use Rattle.vet_base.specs.declared.refusal.Refusal.{Refusal}
use Rattle.vet_base.specs.declared.refusal.Refusal.TheVariants.{NoMemory, UnknownCriterion}
use Rattle.vet_base.specs.Criteria.{Criteria}
use Rattle.vet_base.specs.Day.{DayValue}
use Rattle.vet_base.specs.Gives.{Answers, Gives, Told, ◌>>=◌}
use Rattle.vet_base.specs.Names.{members}
use Rattle.vet_desk.specs.declared.review.Review.{Review}
use Rattle.vet_desk.specs.Review.{is_closed}
use Rattle.vet_entries.specs.declared.entry.Source.TheVariants.{Own, Peer}
use Rattle.vet_entries.specs.declared.facts.HeldEntry.{HeldEntry}
use Rattle.vet_entries.specs.declared.held_peer.HeldPeer.{HeldPeer}
use Rattle.vet_entries.specs.declared.peer_settings.PeerSettings.{PeerSettings}
use Rattle.vet_entries.specs.Entry.{of_source}
use Rattle.vet_entries.specs.Facts.{Facts}
use Rattle.vet_entries.specs.HeldPeer.{as_peers, holding_or_none, peer_of}
use Rattle.vet_entries.specs.Import.{ComparisonValue, same_content}
use Rattle.vet_entries.specs.PeerSettings.{settings_eq}
use Rattle.vet_entries.specs.Replaced.{as_of, is_dated, is_new}
use Rattle.vet_files.specs.FilesContent.{FilesValue, content_for}
use Rattle.vet_files.specs.declared.imports_file.ImportedPeer.{ImportedPeer}
use Rattle.vet_register.specs.declared.command.Action.TheVariants.{ReplaceFiles}
use Rattle.vet_register.specs.declared.files_comparison.FilesComparison.{FilesComparison}
use Rattle.vet_register.specs.declared.verdict.Answer.TheVariants.{Already, Accepted}
use Rattle.vet_register.specs.Already.{has_files, has_peer, has_settings}
use Rattle.vet_register.specs.Machine.{numbers_given}
use Rattle.vet_register.specs.Replacing.{compared_peer, count_of_peer, entries_in_files, held_of_peer, new_of_files}
use Rattle.vet_register.specs.Replacing.{new_of_peer}
use Rattle.vet_register.specs.ReplacingFound.{AreAccepted, IsCompared}
use Rattle.vet_register.specs.State.{State}
use Rattle.vet_register.specs.Verdict.{checked, held_or, judged, names_beyond}
use Rattle.vet_register.proofs.Effects.{passed}
use Rattle.vet_register.proofs.FilesPassed.{files_fit}
use Rattle.vet_register.proofs.Lists.{filter-fewer}

-- what is found of files is how they were accepted
pub accepted_files : (s : State) (day : DayValue) (f : FilesValue) (o : Option FilesComparison) (c : FilesComparison)
    → o ≡ Some c
    → MatchOption o (judged s day (ReplaceFiles f) ≡ Ok (Already None)) (AreAccepted s day f) → AreAccepted s day f c
accepted_files s day f None c e h = cc e
accepted_files s day f (Some x) c e h = subst (AreAccepted s day f) (cc e) h

module _ (peers : List HeldPeer) (contents : List ImportedPeer) where
  abbrev new_count : ComparisonValue → ℕ
  new_count c = c.new_count

  new_among : (ps : List PeerSettings) → sum_by new_count (map (compared_peer peers contents) ps) ≡ sum_by
      (new_of_peer peers contents) ps
  new_among [] = refl
  new_among (p ∷ ps) =
      omega (
        arith,
        sum_by-cons new_count (compared_peer peers contents p) (map (compared_peer peers contents) ps),
        new_among ps,
        sum_by-cons (new_of_peer peers contents) p ps,
      )

  -- settings and content are held just where the settings are, and nothing changes by the content
  one_held : (p : PeerSettings) → (has_settings peers p && (compared_peer peers contents p).is_same) ≡ has_peer peers
      contents p
  one_held p = by (peer_of peers p.name)
    where
      by : (o : Option HeldPeer) →
          (option_map_or (λ (x : HeldPeer). settings_eq x.settings p) o false && same_content p.name
          (holding_or_none o) (content_for contents p.name))
          ≡ (option_map_or (λ (x : HeldPeer). settings_eq x.settings p) o false && option_map_or
          (λ (x : HeldPeer). same_content p.name x.content (content_for contents p.name)) o false)
      by None = refl
      by (Some x) = refl

  pub each_held : (ps : List PeerSettings)
      → (list_all (has_settings peers) ps && list_all (λ (c : ComparisonValue). c.is_same)
      (map (compared_peer peers contents) ps)) ≡ list_all (has_peer peers contents) ps
  each_held [] = refl
  each_held (p ∷ ps) =
      both (has_settings peers p) (list_all (has_settings peers) ps) (compared_peer peers contents p).is_same
      (list_all (λ (c : ComparisonValue). c.is_same) (map (compared_peer peers contents) ps))
      ∙ (λ i. one_held p i && each_held ps i)
    where
      both : (a b c d : Bool) → ((a && b) && (c && d)) ≡ ((a && c) && (b && d))
      both true true c d = refl
      both true false true d = refl
      both true false false d = refl
      both false b c d = refl

-- as many entries are new as are found so
pub files_new : (s : State) (f : FilesValue) (c : FilesComparison) → IsCompared s.held.facts f c
    → c.own.new_count + sum_by (λ (v : ComparisonValue). v.new_count) c.peers.items ≡ new_of_files s.held.facts f
files_new s f c h =
    let facts = s.held.facts in
    omega (
      arith,
      ap (λ (v : ComparisonValue). v.new_count) h.own,
      ap (sum_by (λ (v : ComparisonValue). v.new_count))
          h.peers,
      new_among facts.peers f.contents f.settings,
    )

-- and there are numbers for them
pub files_numbered : (s : State) (day : DayValue) (f : FilesValue) (c : FilesComparison) → AreAccepted s day f c
    → s.next_entry + numbers_given s (ReplaceFiles f) ≤ LAST_NUMBER + 1
files_numbered s day f c a = (files_fit s f (passed s day (ReplaceFiles f) a.told).limits).number

-- ---- tests and answers

pub not_more : (most n : ℕ) → n ≤ most → nat_lt most n ≡ false
not_more most n h = elim (cases_Bool (nat_lt most n)) [
  | inl more ↦ absurd (omega (arith, h, ltb-true most n more))
  | inr no_more ↦ no_more
]

pub second_fails : (a b : Bool) → b ≡ false → (a && b) ≡ false
second_fails true b h = h
second_fails false b h = refl

-- if something acceptable is refused, memory ran out
pub memory_wants : {A : Type 0} (t : Told A) (x : A) (e : Refusal) → t ≡ Ok x → Gives (λ y. y) t (Err e) → e ≡ NoMemory
memory_wants t x e told (inl lacks) = lacks
memory_wants t x e told (inr refused) = cc (sym told ∙ refused)

-- a refusal is told before what comes after
pub refuses_first : (t then : Told (Unit {0})) (f : Refusal) → Answers t (Err f) → Gives (λ u. u) (t >>= λ _. then)
    (Err f)
refuses_first (Ok u) then f h = cc h
refuses_first (Err (UnknownCriterion n)) then f (inl h) = inr (sym h)
refuses_first (Err (UnknownCriterion n)) then f (inr h) = inl (cc h)
refuses_first (Err e) then f h = inr (sym h)

-- what is told is an answer
pub gives_itself : (t : Told (Unit {0})) (answer : Result (Unit {0}) Refusal) → answer ≡ t → Gives (λ u. u) t answer
gives_itself (Ok u) answer h = rw h refl
gives_itself (Err e) answer h = rw h (inr refl)

-- what is kept names a criterion that a table lacks exactly if it names one that another table of the same names lacks
pub same_beyond : (s : State) (a b : Criteria) → ((n : List ℕ) → table.contains_key a n ≡ table.contains_key b n)
    → names_beyond s a ≡ names_beyond s b
same_beyond s a b keys = λ i.
    list_any (λ (r : Review). not (is_closed r.state) && is_some (find (λ n. not (keys n i)) (members r.criteria)))
    s.desk.reviews
    || list_any
    (λ (h : HeldEntry). is_dated h && is_some (find (λ n. not (keys n i)) (members h.entry.criteria)))
    s.held.facts.entries

-- what files are asked is what is judged of them, where they are not held
pub judged_by : (s : State) (day : DayValue) (f : FilesValue) → has_files s.held f ≡ false
    → judged s day (ReplaceFiles f) ≡ (checked s day (ReplaceFiles f) >>= λ _. Ok Accepted)
judged_by s day f none = ap
    (λ b. held_or (cond b (Some None) (let free : Option (Option ℕ) = None in free)) (checked s day (ReplaceFiles f)))
    none

pub refused_files : (s : State) (day : DayValue) (f : FilesValue) (e : Refusal) → has_files s.held f ≡ false
    → Gives (λ u. u) (checked s day (ReplaceFiles f)) (Err e) → (e ≡ NoMemory) ⊎ (judged s day (ReplaceFiles f) ≡ Err e)
refused_files s day f e none (inl lacks) = inl lacks
refused_files s day f e none (inr refused) = inr (judged_by s day f none ∙ ap (λ t. t >>= λ _. Ok Accepted) refused)

-- no more entries are new than there are
pub no_more_new : (facts : Facts) (f : FilesValue) → new_of_files facts f ≤ entries_in_files f
no_more_new facts f =
    omega (
      arith,
      filter-fewer (is_new facts.entries) (as_of Own f.entries),
      length-map f.entries (of_source Own),
      sum_by-le-sum_by (new_of_peer facts.peers f.contents) (count_of_peer f.contents) f.settings (λ p.
          (let held = (held_of_peer facts.peers p).entries in
          let entries = (content_for f.contents p.name).entries in
          omega (
            arith,
            filter-fewer (is_new held) (as_peers p.name entries),
            length-map entries
                (of_source (Peer p.name)),
          ))),
    )
