-- What came more is served in the state and at the listener that were left.
use Rattle.std.proofs.Common.{◌≡◌, ◌+◌, false, true, List, [], ◌∷◌, ◌++◌, Option, Result, Ok, Err, map, arith, ap, refl}
use Rattle.std.proofs.Common.{sym, subst, ◌∙◌}
use Rattle.std.proofs.lemmas.List.{map-append}
use Rattle.vet_base.specs.Day.{DayValue}
use Rattle.vet_http.specs.declared.serve.Connection.{Connection}
use Rattle.vet_http.specs.declared.serve.Served.{Served}
use Rattle.vet_register.specs.State.{State}
use Rattle.vet_requests.specs.declared.io_fault.IoFault.{IoFault}
use Rattle.vetd_program.specs.Serving.{Clients, Comes, IsServedClient, ServesEach, Turn, is_lost, replied, whole}
use Rattle.vetd_program.specs.declared.clients.arrival.Arrival.{Arrival}
use Rattle.vetd_program.specs.declared.clients.arrival.Arrival.TheVariants.{Client, Failed, Lost}

pub lost_more : {R W : Type 0} (came : List (Arrival R W)) (next : Arrival R W) → is_lost came ≡ false
    → is_lost (came ++ next ∷ []) ≡ is_lost (next ∷ [])
lost_more [] next none = refl
lost_more (Lost ∷ came) next none = cc
lost_more (Failed ∷ came) next none = lost_more came next none
lost_more (Client was ∷ came) next none = lost_more came next none

whole_more : (answers more : List (Result Served IoFault)) → whole (answers ++ more) ≡ whole answers + whole more
whole_more [] more = omega arith
whole_more (Ok served ∷ answers) more =
    let same = whole_more answers more in omega (arith, same)
whole_more (Err fault ∷ answers) more = whole_more answers more

pub replied_more : (turns more : List Turn) → replied (turns ++ more) ≡ replied turns + replied more
replied_more turns more =
    ap whole (map-append (λ (t : Turn). t.answer) turns more)
    ∙ whole_more (map (λ (t : Turn). t.answer) turns) (map (λ (t : Turn). t.answer) more)

module _ {N L R W : Type 0} (clients : Clients N L R W) (told : Option DayValue) where
  pub serves_more : (came : List (Arrival R W)) (turns more : List Turn) (next : Arrival R W) (s mid end : State)
      (l m l' : L) → is_lost came ≡ false → ServesEach clients told s l came turns mid m
      → ServesEach clients told mid m (next ∷ []) more end l'
      → ServesEach clients told s l (came ++ next ∷ []) (turns ++ more) end l'
  serves_more [] [] more next s mid end l m l' none first second =
      subst (λ (u : State). ServesEach clients told u l (next ∷ []) more end l') first.0
      (subst (λ (k : L). ServesEach clients told mid k (next ∷ []) more end l') first.1 second)
  serves_more [] (t ∷ turns) more next s mid end l m l' none first second = absurd first
  serves_more (Failed ∷ came) turns more next s mid end l m l' none (k, (comes, rest)) second =
      (k, (comes, serves_more came turns more next s mid end k m l' none rest second))
  serves_more (Lost ∷ came) turns more next s mid end l m l' none first second =
      absurd (let two : true ≡ false = none in cc)
  serves_more (Client was ∷ came) [] more next s mid end l m l' none first second = absurd first
  serves_more (Client was ∷ came) (t ∷ turns) more next s mid end l m l' none
      (held, (comes, (after, (k, (is, rest))))) second =
      (held, (comes, (after, (k, (is, serves_more came turns more next after mid end k m l' none rest second)))))

  -- where what listened is lost nobody is served
  pub lost_alone : (arrival : Arrival R W) (s : State) (l l' : L) → arrival ≡ Lost → Comes clients told l arrival l'
      → ServesEach clients told s l (arrival ∷ []) [] s l'
  lost_alone arrival s l l' is comes =
      subst (λ (a : Arrival R W). ServesEach clients told s l (a ∷ []) [] s l') (sym is)
      (refl, subst (λ (a : Arrival R W). Comes clients told l a l') is comes)

  -- a client that came was served
  pub one_client : (arrival : Arrival R W) (was : Connection R W) (t : Turn) (s end : State) (l held l' : L)
      → arrival ≡ Client was → Comes clients told l arrival held → IsServedClient clients s held was t end l'
      → ServesEach clients told s l (arrival ∷ []) (t ∷ []) end l'
  one_client arrival was t s end l held l' is comes served =
      subst (λ (a : Arrival R W). ServesEach clients told s l (a ∷ []) (t ∷ []) end l') (sym is)
      (held, (subst (λ (a : Arrival R W). Comes clients told l a held) is comes, (end, (l', (served, (refl, refl))))))

  -- where none came nobody was
  pub no_client : (arrival : Arrival R W) (s : State) (l l' : L) → arrival ≡ Failed → Comes clients told l arrival l'
      → ServesEach clients told s l (arrival ∷ []) [] s l'
  no_client arrival s l l' is comes =
      subst (λ (a : Arrival R W). ServesEach clients told s l (a ∷ []) [] s l') (sym is)
      (l', (subst (λ (a : Arrival R W). Comes clients told l a l') is comes, (refl, refl)))

  -- and of that loss alone nobody was
  pub none_at_loss : (arrival : Arrival R W) (turns : List Turn) (s end : State) (l l' : L)
      → is_lost (arrival ∷ []) ≡ true → ServesEach clients told s l (arrival ∷ []) turns end l' → replied turns ≡ 0
  none_at_loss Lost [] s end l l' lost h = refl
  none_at_loss Lost (t ∷ turns) s end l l' lost h = absurd h
  none_at_loss Failed turns s end l l' lost h = absurd (let two : false ≡ true = lost in cc)
  none_at_loss (Client was) turns s end l l' lost h = absurd (let two : false ≡ true = lost in cc)
