-- What is judged of an import.
use Rattle.std.proofs.Common.{◌≡◌, ℕ, ◌+◌, ◌≤◌, is_none, List, [], ◌∷◌, filter, length, Option, Some, None, Ok, Err}
use Rattle.std.proofs.Common.{refl, ap, subst, ◌∙◌, arith}
use Rattle.std.specs.List.{All}
use Rattle.std.proofs.lemmas.List.{length-map}
use Rattle.vet_base.specs.declared.refusal.Refusal.TheVariants.{UnknownPeer}
use Rattle.vet_base.specs.Day.{DayValue}
use Rattle.vet_base.specs.Gives.{Told, ◌>>=◌}
use Rattle.vet_entries.specs.declared.entry.Entry.{Entry}
use Rattle.vet_entries.specs.declared.entry.Source.TheVariants.{Peer}
use Rattle.vet_entries.specs.declared.held_peer.HeldPeer.{HeldPeer}
use Rattle.vet_entries.specs.HeldPeer.{as_peers, is_new, new_entries, peer_of}
use Rattle.vet_entries.specs.PeerContent.{PeerContentValue}
use Rattle.vet_entries.proofs.PeerLaws.{found_name}
use Rattle.vet_base.proofs.Telling.{not_refused}
use Rattle.vet_base.specs.declared.limits.TheConstants.{LAST_NUMBER}
use Rattle.vet_entries.specs.Facts.{IsHeld}
use Rattle.vet_register.proofs.Effects.{import_passed, passed}
use Rattle.vet_register.proofs.Lists.{some_item}
use Rattle.vet_register.proofs.PeerEffects.{found_sound}
use Rattle.std.specs.Prelude.{MatchOption}
use Rattle.vet_entries.specs.Import.{ComparisonValue}
use Rattle.vet_register.specs.Importing.{IsAccepted}
use Rattle.vet_register.specs.Machine.{numbers_given}
use Rattle.vet_register.specs.declared.verdict.Answer.TheVariants.{Already, Accepted}
use Rattle.vet_register.specs.declared.command.Action.TheVariants.{DropPeer, ImportPeer}
use Rattle.vet_register.specs.Sound.{ArePeers, IsFrom, IsGiven}
use Rattle.vet_register.specs.State.{State}
use Rattle.vet_register.specs.Verdict.{held_or, import_limits, judged}

-- its entries are the peer's, and their numbers lie below the next one
pub found_from : (peers : List HeldPeer) (next : ℕ) (name : List ℕ) (p : HeldPeer) → ArePeers peers next → peer_of
    peers name ≡ Some p
    → All (IsFrom (Peer name)) p.content.entries
found_from peers next name p are found =
    subst (λ n. All (IsFrom (Peer n)) p.content.entries) (found_name peers name p found)
    (found_sound peers name next p are found).entries.from

pub found_given : (peers : List HeldPeer) (next : ℕ) (name : List ℕ) (p : HeldPeer) → ArePeers peers next → peer_of
    peers name ≡ Some p
    → All (IsGiven next) p.content.entries
found_given peers next name p are found = (found_sound peers name next p are found).entries.numbers_given

-- where nothing is held, all entries are new
all_new : (entries : List Entry) → filter (is_new []) entries ≡ entries
all_new [] = refl
all_new (e ∷ rest) = ap (λ es. e ∷ es) (all_new rest)

pub new_to_none : (name : List ℕ) (entries : List Entry) → length (new_entries name [] entries) ≡ length entries
new_to_none name entries = ap length (all_new (as_peers name entries)) ∙ length-map entries _

-- an import from a peer that is not held is told of its limits, and then that
pub judged_unheld : (s : State) (day : DayValue) (name : List ℕ) (content : PeerContentValue) → peer_of
    s.held.facts.peers name ≡ None
    → judged s day (ImportPeer name content) ≡
    (import_limits s name (length content.entries) (length content.entries) >>= λ _. Err UnknownPeer)
judged_unheld s day name content none = rw (none, new_to_none name content.entries)
    (after (import_limits s name (length content.entries) (length content.entries)))
  where
    after : (t : Told (Unit {0})) → held_or None (t >>= λ _. Err UnknownPeer) ≡ (t >>= λ _. Err UnknownPeer)
    after (Ok u) = refl
    after (Err e) = refl

-- a peer that is dropped is held
pub drop_held : (s : State) (day : DayValue) (name : List ℕ) → judged s day (DropPeer name) ≡ Ok Accepted → IsHeld
    name s.held.facts
drop_held s day name told =
    some_item (peer_of s.held.facts.peers name)
    (not_refused (is_none (peer_of s.held.facts.peers name)) UnknownPeer
    (passed s day (DropPeer name) told).references)

-- the numbers that an import gives are within the limit
pub numbers_fit : (s : State) (day : DayValue) (name : List ℕ) (content : PeerContentValue) → judged s day
    (ImportPeer name content) ≡ Ok Accepted
    → s.next_entry + numbers_given s (ImportPeer name content) ≤ LAST_NUMBER + 1
numbers_fit s day name content told =
    (import_passed s name content (passed s day (ImportPeer name content) told).limits).number

-- what is found of an import is how it was accepted
pub accepted_import : (s : State) (day : DayValue) (name : List ℕ) (content : PeerContentValue)
    (o : Option ComparisonValue) (c : ComparisonValue) → o ≡ Some c
    → MatchOption o (judged s day (ImportPeer name content) ≡ Ok (Already None)) (IsAccepted s day name content) →
    IsAccepted s day name content c
accepted_import s day name content None c e h = cc e
accepted_import s day name content (Some x) c e h = subst (IsAccepted s day name content) (cc e) h

-- as many numbers are given as entries are new
pub numbers_found : (s : State) (day : DayValue) (name : List ℕ) (content : PeerContentValue) (c : ComparisonValue) →
    IsAccepted s day name content c
    → (c.new_count ≡ numbers_given s (ImportPeer name content)) × (s.next_entry + c.new_count ≤ LAST_NUMBER + 1)
numbers_found s day name content c a =
    let same : c.new_count ≡ numbers_given s (ImportPeer name content) = ap (λ (v : ComparisonValue). v.new_count)
    a.compared in
    (same, omega (arith, same, numbers_fit s day name content a.told))
