-- What the parts of a preparation leave, one after the other.
use Rattle.std.proofs.Common.{◌≡◌, Bool, subst, ◌∙◌, Ok}
use Rattle.vet_base.specs.Gives.{Told}
use Rattle.vet_graph.specs.Keeping.{Keeping}
use Rattle.vet_register.specs.declared.command.Command.{Command}
use Rattle.vet_register.specs.declared.edits.Asked.{Asked}
use Rattle.vet_register.specs.declared.edits.Asked.TheVariants as asked
use Rattle.vet_register.specs.declared.edits.Effect.{Effect}
use Rattle.vet_register.specs.declared.verdict.Answer.{Answer}
use Rattle.vet_register.specs.declared.verdict.Answer.TheVariants.{Accepted}
use Rattle.vet_register.specs.Held.{HeldEditsFit}
use Rattle.vet_register.specs.RegisterView.{Asks, AsksBy, IsEffect, KeepsPrepared, KeepsReady, KeepsRoom, RegisterView}
use Rattle.vet_register.specs.State.{State}
use Rattle.vet_register.specs.Verdict.{judged, wants_memory}
use Rattle.vet_register.proofs.Asking.{accepted}
use Rattle.vet_register.proofs.AskingDesk.{room_onward}
use Rattle.vet_register.proofs.Prepared.{prepared_stays, same_keeper}

-- a command that has an effect was accepted
pub effect_of : {K : Type 0} {r : RegisterView K} (s : State) (c : Command) {x : Asked} {e : Effect}
    → x ≡ asked.Effect e → Asks s r c.day c.action (judged s c.day c.action) (Ok x)
    → (judged s c.day c.action ≡ Ok Accepted) × IsEffect r c.day c.action e
effect_of {r = r} s c {x = x} {e = e} is asks = by (wants_memory s c.action) (judged s c.day c.action) asks
  where
    by : (wants : Bool) (t : Told Answer) → AsksBy wants r c.day c.action t (Ok x)
        → (t ≡ Ok Accepted) × IsEffect r c.day c.action e
    by wants t asks =
        accepted r c.day c.action wants t e (subst (λ (y : Asked). AsksBy wants r c.day c.action t (Ok y)) is asks)

-- no room is lost by three things, one after another, that each lose none
pub rooms_onward : {K : Type 0} (a b c d : RegisterView K) → KeepsRoom a b → KeepsRoom b c → KeepsRoom c d
    → KeepsRoom a d
rooms_onward a b c d h k l = room_onward a c d (room_onward a b c h k) l

module _ (law : HeldEditsFit) {K U : Type 0} (keeping : Keeping K U) (old first : RegisterView K)
    (state : first.state ≡ old.state) (keeper : first.keeper ≡ old.keeper) (room : KeepsRoom old first) where
  -- what was prepared before stays so by the first part
  pub asked_stays : KeepsPrepared keeping old first
  asked_stays = prepared_stays law keeping old first state (same_keeper keeping old first keeper) room

  module _ (second : RegisterView K) (further : second.state ≡ first.state) (ready : KeepsReady keeping first second)
      (more : KeepsRoom first second) where
    room_stays : KeepsRoom old second
    room_stays = room_onward old first second room more

    still_ready : KeepsReady keeping old second
    still_ready u facts demand h = ready u facts demand (same_keeper keeping old first keeper u facts demand h)

    -- by a second
    pub planned_stays : KeepsPrepared keeping old second
    planned_stays = prepared_stays law keeping old second (further ∙ state) still_ready room_stays

    module _ (third : RegisterView K) (last : third.state ≡ second.state) (same : third.keeper ≡ second.keeper)
        (most : KeepsRoom second third) where
      -- and by a third
      pub changed_stays : KeepsPrepared keeping old third
      changed_stays = prepared_stays law keeping old third (last ∙ further ∙ state)
          (λ u facts demand h. same_keeper keeping second third same u facts demand (still_ready u facts demand h))
          (rooms_onward old first second third room more most)
