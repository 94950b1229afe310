-- From what opening a store ensures to what it comes to, of the connection that is given back.
use Rattle.std.proofs.Common.{◌≡◌, ◌⊎◌, inr, Bool, false, IsTrue, IfErr, IfOk, Result, Ok, Err, sym, subst}
use Rattle.sqlite.specs.Held.{Held, state}
use Rattle.sqlite.specs.State.{HasCleanDisk, Survives}
use Rattle.sqlite_trees.specs.declared.store.Store.{Ghosts}
use Rattle.vet_base.specs.declared.refusal.Refusal.{Refusal}
use Rattle.vet_base.specs.declared.refusal.Refusal.TheVariants.{NoMemory, NotARegister}
use Rattle.vet_register.specs.State.{State}
use Rattle.vet_rows.specs.RowsOf.{rows_of}
use Rattle.vet_store.specs.Opened.{IsStored}
use Rattle.vet_store.specs.Runs.{IsOfStore}
use Rattle.vet_store.specs.TakenOver.{IsOpened, IsTakenOver}
use Rattle.vet_tables.specs.Read.{Rests}
use Rattle.vet_store.specs.Tied.{IsTied}
use Rattle.vet_base.specs.Words.{Text}
use Rattle.vet_tables.specs.Versions.{HasSomeVersion}
use Rattle.vetd_commands.specs.Opening.{IsNotOpened, IsOpenedAs}
use Rattle.vetd_words.specs.View.{Shows}
use Rattle.vetd_commands.specs.Viewing.{IsNotShown, IsShown}
use Rattle.vetd_words.specs.declared.view.View.{View}

module _ {S : Type 0} (g : Ghosts S) (before : Held S) where
  -- a store that was opened
  pub is_opened : (conn : Held S) (shut : Bool) (register : State)
      → (HasCleanDisk (state g conn) → IsStored (state g before).now register)
      → (HasCleanDisk (state g conn) → (t : State) → IsStored (state g before).now t → register ≡ t)
      → (shut ≡ false) × IsTied (state g conn) shut (rows_of register)
      → (HasCleanDisk (state g conn) → IsOpened (state g before) (state g conn) register)
      → Survives (state g before) (state g conn) (IsTakenOver (state g before)) → IsOpenedAs g before register conn
  is_opened conn shut register found only tables opened crash = record {
    stored = found;
    only = only;
    tables = subst (λ (b : Bool). IsTied (state g conn) b (rows_of register)) tables.0 tables.1;
    opened = opened;
    crash = crash;
  }

  -- a store that was not opened, of the parts of its refusal
  pub is_not_opened : (conn after : Held S) (told refusal : Refusal) → refusal ≡ told → after ≡ conn
      → ((HasSomeVersion (state g before).now.schema → ⊥) → (told ≡ NotARegister) × (conn ≡ before))
      → (told ≡ NotARegister → HasCleanDisk (state g conn) → (t : State) → IsStored (state g before).now t → ⊥)
      → IsOfStore told ⊎ (told ≡ NotARegister)
      → (HasCleanDisk (state g conn) → IsTrue (state g conn).is_open
      → Rests (state g conn) × ((state g conn).now ≡ (state g before).now))
      → Survives (state g before) (state g conn) (IsTakenOver (state g before))
      → IsNotOpened g before refusal after
  is_not_opened conn after told refusal same left foreign none why as_before crash =
      subst (λ (h : Held S). IsNotOpened g before refusal h) (sym left)
      (subst (λ (r : Refusal). IsNotOpened g before r conn) (sym same)
      record {
        foreign = foreign;
        why = why;
        none = none;
        stays = record { as_before = as_before; crash = crash };
      })

  -- a text that shows the register that was opened
  pub is_shown : (view : View) {T : Type 0} (text : T → Text) (conn after : Held S) (register : State)
      (told : Result T Refusal) → after ≡ conn → IsOpenedAs g before register conn
      → IfOk told (λ t. Shows view register (text t)) → IfOk told (λ t. IsShown g before view (text t) after)
  is_shown view text conn after register (Err refusal) same opened shows = tt
  is_shown view text conn after register (Ok t) same opened shows =
      subst (λ (h : Held S). IsShown g before view (text t) h) (sym same)
      record { register = register; opened = opened; shows = shows }

  -- of a text that was not made, since memory ran out
  pub is_not_shown : {T : Type 0} (conn after : Held S) (register : State) (told : Result T Refusal) → after ≡ conn
      → IsOpenedAs g before register conn → IfErr told (λ refusal. refusal ≡ NoMemory)
      → IfErr told (λ refusal. IsNotShown g before refusal after)
  is_not_shown conn after register (Ok t) same opened memory = tt
  is_not_shown conn after register (Err refusal) same opened memory =
      inr (memory, (register, subst (λ (h : Held S). IsOpenedAs g before register h) (sym same) opened))
