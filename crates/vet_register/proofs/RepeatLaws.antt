-- What is held already changes nothing, and so an import of it.
use Rattle.std.proofs.Common.{◌≡◌, ◌↔◌, ℕ, true, false, Bool, cond, is_none, List, Option, Some, None, Ok, Err, refl}
use Rattle.std.proofs.Common.{sym, ap, subst, ◌∙◌}
use Rattle.std.specs.Option.{option_map_or}
use Rattle.std.proofs.lemmas.Bool.{false≢true}
use Rattle.vet_base.specs.declared.refusal.Refusal.TheVariants.{UnknownPeer}
use Rattle.vet_base.specs.Day.{DayValue}
use Rattle.vet_base.specs.Gives.{Told, ◌>>=◌}
use Rattle.vet_base.specs.Items.{IsIn, SameItems}
use Rattle.vet_base.proofs.Telling.{not_refused}
use Rattle.vet_entries.specs.declared.entry.Entry.{Entry}
use Rattle.vet_entries.specs.declared.entry.Source.{Source}
use Rattle.vet_entries.specs.declared.entry.Source.TheVariants.{Peer}
use Rattle.vet_entries.specs.declared.held_peer.HeldPeer.{HeldPeer}
use Rattle.vet_entries.specs.Entry.{of_source}
use Rattle.vet_entries.specs.HeldPeer.{as_peers, holding_or_none, imported, peer_of, with_content_of}
use Rattle.vet_entries.specs.Holding.{HoldingValue}
use Rattle.vet_entries.specs.Import.{same_content}
use Rattle.vet_entries.specs.ImportLaws.{entries_of}
use Rattle.vet_entries.specs.PeerContent.{PeerContentValue}
use Rattle.vet_entries.specs.Replaced.{as_of}
use Rattle.vet_base.proofs.ItemLemmas.{in_map, map_in}
use Rattle.vet_entries.proofs.ImportLaws.{holds_its_content}
use Rattle.vet_entries.proofs.PeerLaws.{found_name, found_own}
use Rattle.vet_entries.proofs.SameContent.{same_items_are_same}
use Rattle.vet_register.specs.declared.command.Action.{Action}
use Rattle.vet_register.specs.declared.command.Action.TheVariants.{ImportPeer}
use Rattle.vet_register.specs.declared.command.Command.{Command}
use Rattle.vet_register.specs.declared.verdict.Answer.{Answer}
use Rattle.vet_register.specs.declared.verdict.Answer.TheVariants.{Already, Accepted}
use Rattle.vet_register.specs.Machine.{next}
use Rattle.vet_register.specs.Repeats.{ChangesNothing, HeldContentIsAlready, RepeatedImportIsAlready, import_on}
use Rattle.vet_register.specs.Runs.{left}
use Rattle.vet_register.specs.State.{State}
use Rattle.vet_register.specs.Already.{has_content}
use Rattle.vet_register.specs.Verdict.{checked, fitting, held_or, moves_fit, verdict}
use Rattle.vet_register.proofs.Effects.{passed}

-- ---- what is told where something is held

-- the verdict of an action by whether a test finds held what it asks for
abbrev told_if : State → DayValue → Action → Bool → Told Answer
told_if s day a b = held_or (cond b (Some None) (let none : Option (Option ℕ) = None in none)) (checked s day a) >>=
    fitting s day a

module _ (s : State) (day : DayValue) (a : Action) where
  abbrev c : Command
  c = record { day = day; action = a }

  changes_nothing : verdict s c ≡ Ok (Already None) → ChangesNothing s c
  changes_nothing told = (told, ap (left s c) told)

  never_already : (t : Told (Unit {0})) (n : Option ℕ)
      → ((t >>= λ _. Ok Accepted) >>= fitting s day a) ≡ Ok (Already n) → ⊥
  never_already (Err e) n h = cc h
  never_already (Ok u) n h = by (fit_of s a) h
    where
      fit_of : State → Action → Told (Unit {0})
      fit_of s a = moves_fit s day a

      by : (t : Told (Unit {0})) → (t >>= λ _. Ok Accepted) ≡ Ok (Already n) → ⊥
      by (Err e) h = cc h
      by (Ok u) h = cc h

  held_so : (b : Bool) → told_if s day a b ≡ Ok (Already None) → b ≡ true
  held_so true h = refl
  held_so false h = absurd (never_already (checked s day a) None h)

  -- it changes nothing just where the test finds it
  pub just_where_held : (b : Bool) → verdict s c ≡ told_if s day a b → ChangesNothing s c ↔ (b ≡ true)
  just_where_held b is = (λ h. held_so b (sym is ∙ h.0), λ t. changes_nothing (is ∙ ap (told_if s day a) t))

compares : (peers : List HeldPeer) (name : List ℕ) (content : PeerContentValue) (peer : HeldPeer) → peer_of peers name
    ≡ Some peer
    → has_content peers name content ≡ same_content name peer.content content
compares peers name content peer found = ap
    (λ o. option_map_or (λ (p : HeldPeer). same_content name p.content content) o false) found

pub held_is_already : HeldContentIsAlready
held_is_already s day name content peer criteria is found table once further =
    let same = same_items_are_same name peer.content content criteria is table once further in
    let held = compares s.held.facts.peers name content peer found in
    let just = just_where_held s day (ImportPeer name content) (has_content s.held.facts.peers name content) refl in
    (λ h. same.0 (sym held ∙ just.0 h), λ items. just.1 (held ∙ same.1 items))

-- ---- what an import leaves

-- the same entries are the same as those of a source
pub same_as_of : (source : Source) (xs ys : List Entry) → SameItems xs ys → SameItems (as_of source xs)
    (as_of source ys)
same_as_of source xs ys same = (
  λ e i. (let m = in_map (of_source source) xs e i in subst (λ x. IsIn x (as_of source ys)) (sym m.1.1)
      (map_in (of_source source) ys m.0 (same.0 m.0 m.1.0))),
  λ e i. (let m = in_map (of_source source) ys e i in subst (λ x. IsIn x (as_of source xs)) (sym m.1.1)
      (map_in (of_source source) xs m.0 (same.1 m.0 m.1.0))),
)

pub judged_accepted : (s : State) (day : DayValue) (a : Action) (t : Told Answer)
    → (t >>= fitting s day a) ≡ Ok Accepted → t ≡ Ok Accepted
judged_accepted s day a (Err e) h = cc h
judged_accepted s day a (Ok (Already n)) h = cc h
judged_accepted s day a (Ok Accepted) h = refl

-- the peer that is held after its import
held_after : (peers : List HeldPeer) (name : List ℕ) (n : ℕ) (content : PeerContentValue) (o : Option HeldPeer) →
    peer_of peers name ≡ o → is_none o ≡ false
    → (p : HeldPeer) × ((peer_of (with_content_of o (imported name n content (holding_or_none o)) peers) name ≡ Some p)
    × (p.content ≡ imported name n content (holding_or_none o)))
held_after peers name n content None e some = absurd (false≢true (sym some))
held_after peers name n content (Some x) e some =
    let new : HeldPeer = record x { content = imported name n content x.content } in
    let after = with_content_of (Some x) (imported name n content x.content) peers in
    (new, (ap (peer_of after) (sym (found_name peers name x e)) ∙ found_own peers new, refl))

pub repeated_is_already : RepeatedImportIsAlready
repeated_is_already s day later name content again is repeats criteria entries told =
    let p = passed s day (ImportPeer name content) (judged_accepted s day (ImportPeer name content) _ told) in
    let o = peer_of s.held.facts.peers name in
    let some : is_none o ≡ false = not_refused (is_none o) UnknownPeer p.references in
    let held = held_after s.held.facts.peers name s.next_entry content o refl some in
    let left = holds_its_content name s.next_entry (holding_or_none o) content in
    let theirs = same_as_of (Peer name) again.entries content.entries entries in
    let stays : SameItems (as_peers name content.entries) (entries_of held.0.content.entries) =
    subst (λ (h : HoldingValue). SameItems (as_peers name content.entries) (entries_of h.entries)) (sym held.1.1)
    left.0 in
    (held_is_already (next s (import_on day name content)) later name again held.0 content.criteria repeats held.1.0
    (ap (λ h. h.table) held.1.1) is.named_once is.further).1
    (criteria, (λ e i. stays.0 e (theirs.0 e i), λ e i. theirs.1 e (stays.1 e i)))
