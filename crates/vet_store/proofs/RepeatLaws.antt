-- A command whose content is held in its turn changes nothing.
use Rattle.std.proofs.Common.{◌≡◌, List, Ok, ap, sym, subst, ◌∙◌, inl, inr}
use Rattle.vet_base.specs.Day.{DayValue}
use Rattle.vet_base.specs.FurtherCriteria.{further}
use Rattle.vet_base.specs.Gives.{Told, ◌>>=◌}
use Rattle.vet_base.specs.Items.{SameItems}
use Rattle.vet_base.specs.Words.{Name}
use Rattle.vet_base.proofs.FurtherLaws.{further_are_defined}
use Rattle.vet_entries.specs.PeerContent.{PeerContentValue, IsPeerContent}
use Rattle.vet_register.specs.declared.command.Action.{Action}
use Rattle.vet_register.specs.declared.command.Action.TheVariants.{ImportPeer, ReplaceFiles}
use Rattle.vet_register.specs.declared.command.Command.{Command}
use Rattle.vet_register.specs.declared.command.Outcome.{Outcome}
use Rattle.vet_register.specs.Repeats.{ChangesNothing, import_on}
use Rattle.vet_register.specs.Runs.{outcome_by}
use Rattle.vet_register.specs.Sound.{IsSound}
use Rattle.vet_register.specs.State.{State}
use Rattle.vet_register.proofs.PeerEffects.{found_sound}
use Rattle.vet_register.proofs.RepeatLaws.{held_is_already}
use Rattle.vet_register.proofs.RepeatedFilesLaws.{held_files_are_already}
use Rattle.vet_store.specs.Repeats.{IsHeldOf, IsReadable, Repeats, RepeatsStay}
use Rattle.vet_store.specs.Runs.{IsTurn}

same_through : {X : Type 0} (xs ys zs : List X) → SameItems xs ys → SameItems ys zs → SameItems xs zs
same_through xs ys zs first second = (λ x i. second.0 x (first.0 x i), λ x i. first.1 x (second.1 x i))

import_changes_nothing : (s : State) (day : DayValue) (name : Name) (content : PeerContentValue) → IsSound s
    → IsPeerContent content.criteria content.entries → IsHeldOf s.held.facts.peers name content
    → ChangesNothing s (import_on day name content)
import_changes_nothing s day name content sound is held =
    let peer = found_sound s.held.facts.peers name s.next_entry held.peer sound.held.facts.peers held.found in
    let first = peer.content.0 in
    let of = peer.content.1 in
    let defines = (further_are_defined first.criteria of.readable.named_once of.readable.further).0 in
    let table : further held.peer.content.table ≡ _ = ap further of.criteria in
    (held_is_already s day name content held.peer first.criteria is held.found of.criteria of.readable.named_once
    of.readable.further).1 (
      same_through content.criteria (further held.peer.content.table) first.criteria held.criteria
          (subst (λ cs. SameItems cs first.criteria) (sym table) defines),
      held.entries,
    )

changes_nothing : (s : State) (day : DayValue) (action : Action) → IsSound s → IsReadable action → Repeats s action
    → ChangesNothing s (record { day = day; action = action })
changes_nothing s day (ImportPeer name content) sound is held = import_changes_nothing s day name content sound is held
changes_nothing s day (ReplaceFiles files) sound is held = (held_files_are_already s day files sound is).1 held
changes_nothing s day _ sound is held = absurd held

pub repeats_stay : (s end : State) (c : Command) (a : Told Outcome) → IsSound s → IsReadable c.action
    → IsTurn s c a end → RepeatsStay s c a end
repeats_stay s end c a sound is (inl (tells, to)) held =
    let stays = changes_nothing s c.day c.action sound is held in
    (inl (tells ∙ ap (λ t. t >>= λ x. Ok (outcome_by s c x)) stays.0), to ∙ stays.1)
repeats_stay s end c a sound is (inr (fails, to)) held = (inr fails, to)
