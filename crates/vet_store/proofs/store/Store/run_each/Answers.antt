use Rattle.std.proofs.Common.{◌≡◌, ◌∙◌, ◌+◌, ◌++◌, ◌∷◌, [], Err, ap, arith, inl, refl, subst, suc, sym, take}
use Rattle.std.proofs.Math.Seq.{take-suc}
use Rattle.std.proofs.lemmas.List.{take_all}
use Rattle.sqlite.specs.Held.{state}
use Rattle.vet_base.specs.declared.refusal.Refusal.TheVariants.{StoreRefused}
use Rattle.vet_store.specs.Crash.{LeavesRun}
use Rattle.vet_store.specs.Exact.{IsExactTurn}
use Rattle.vet_store.specs.Repeats.{IsTurnWithRepeats}
use Rattle.vet_store.specs.Runs.{AreRefused, Each, IsTurn}
use Rattle.vet_store.specs.StoreView.{StoreView}
use Rattle.vet_store.proofs.Crashes.{leaves_more, was_unshut}
use Rattle.vet_tables.proofs.Readings.{all_pushed}
use Rattle.vet_store.proofs.Running.{each_more, each_weaker, ran_of}
use Rattle.vet_store.proofs.Tying.{others_as_were, others_then}
use Rattle.vet_store.proofs.store.Store.run_each.Goals as goal

pub loop-command-init : goal.loop-command-init
loop-command-init g c =
    let s = c.args.self.now in
    let first = s.register.state in
    let empty : c.reserve.new.self.items ≡ [] = c.reserve.ensures.items ∙ c.new-answers.ensures.items in
    record {
      turns = subst (λ answers. Each IsTurnWithRepeats first [] answers first) (sym empty) refl;
      answered = c.reserve.ensures.len ∙ c.new-answers.ensures.len;
      room = omega (arith, c.in_ok-reserve.ensures.ok, c.reserve.ensures.len, c.new-answers.ensures.len);
      leaves = λ unshut. subst (λ answers. LeavesRun (state g.S.Store s.conn) s.shut first [] answers first) (sym empty)
          (inl (unshut, λ clean. c.tables_are_of_register.ensures.leaves clean unshut));
      others = others_as_were (state g.S.Store s.conn);
      closed = λ is. refl;
      refused = λ is. rw empty tt;
      exact = λ unshut still. subst (λ answers. Each IsExactTurn first [] answers first) (sym empty) refl;
    }

pub loop-command-preserved : goal.loop-command-preserved
loop-command-preserved g c =
    let inv = c.loop-command.invariant in
    let first = c.args.self.now.register.state in
    let mid = c.loop-command.self in
    let last = c.run-answer.new.self in
    let xs = c.args.commands.now in
    let i = c.loop-command.command-index in
    let x = c.command-item.result in
    let a = c.run-answer.result in
    let so_far = c.loop-command.answers.items in
    let pushed = c.push_reserved.ensures in
    let ran = c.run-answer.ensures in
    let one_more : i + 1 ≡ suc i = omega arith in
    let commands : take (i + 1) xs ≡ take i xs ++ x ∷ [] = ap (λ k. take k xs) one_more ∙ take-suc xs i x
    c.loop-command-test.true ∙ ap (λ y. take i xs ++ y ∷ []) (sym c.command-item.is) in
    let more = each_more IsTurnWithRepeats first mid.register.state last.register.state (take i xs) so_far x a inv.turns
    (ran.turn, ran.repeats) in
    let before = ran_of first mid.register.state (take i xs) so_far (each_weaker IsTurnWithRepeats IsTurn
    (λ t command answer end both. both.0) first mid.register.state (take i xs) so_far inv.turns) in
    record {
      turns = subst (λ answers. Each IsTurnWithRepeats first (take (i + 1) xs) answers last.register.state)
          (sym pushed.items) (subst (λ cs. Each IsTurnWithRepeats first cs (so_far ++ a ∷ []) last.register.state)
          (sym commands) more);
      answered = omega (arith, pushed.len, inv.answered);
      room = omega (arith, pushed.capacity, inv.room);
      leaves = λ unshut.
          let left = leaves_more (state g.S.Store mid.conn) (state g.S.Store last.conn) mid.shut last.shut first
          mid.register.state last.register.state (take i xs) so_far x a before (inv.exact unshut)
          (inv.leaves unshut) (record {
            turn = ran.turn;
            tied = ran.tables;
            shuts = ran.shuts;
            shuts_only = ran.shuts_only;
            either = ran.leaves;
            refused = λ is. (ran.closed is).0;
            same = λ is. let same = (ran.closed is).1 in (
              ap (λ (v : StoreView _ _). state g.S.Store v.conn) same,
              (ap (λ (v : StoreView _ _). v.shut) same, ap (λ (v : StoreView _ _). v.register.state) same),
            );
          }) in
          subst (λ answers. LeavesRun (state g.S.Store last.conn) last.shut first (take (i + 1) xs) answers
          last.register.state) (sym pushed.items)
          (subst (λ cs. LeavesRun (state g.S.Store last.conn) last.shut first cs (so_far ++ a ∷ [])
          last.register.state)
          (sym commands) left);
      others = others_then (state g.S.Store c.args.self.now.conn) (state g.S.Store mid.conn)
          (state g.S.Store last.conn) inv.others ran.others;
      closed = λ is. (ran.closed (rw (inv.closed is) is)).1 ∙ inv.closed is;
      refused = λ is. subst AreRefused (sym pushed.items)
          (all_pushed (λ answer. answer ≡ Err StoreRefused) so_far a (inv.refused is)
          (ran.closed (rw (inv.closed is) is)).0);
      exact = λ unshut still.
          let served = was_unshut mid.shut last.shut
          (λ is. ap (λ (v : StoreView _ _). v.shut) (ran.closed is).1) still in
          let exact = each_more IsExactTurn first mid.register.state last.register.state (take i xs) so_far x a
          (inv.exact unshut served) (ran.turn, ran.exact served) in
          subst (λ answers. Each IsExactTurn first (take (i + 1) xs) answers last.register.state) (sym pushed.items)
          (subst (λ cs. Each IsExactTurn first cs (so_far ++ a ∷ []) last.register.state) (sym commands) exact);
    }

pub returns-clause-exact : goal.returns-clause-exact
returns-clause-exact g c unshut still =
    let last = c.loop-command.self in
    let xs = c.args.commands.now in
    let all : take c.loop-command.command-index xs ≡ xs = take_all c.loop-command.command-index xs
    (omega (arith, c.loop-command-test.false)) in
    subst (λ cs. Each IsExactTurn c.args.self.now.register.state cs c.loop-command.answers.items last.register.state)
    all (c.loop-command.invariant.exact unshut still)

pub returns-clause-leaves : goal.returns-clause-leaves
returns-clause-leaves g c unshut =
    let last = c.loop-command.self in
    let xs = c.args.commands.now in
    let all : take c.loop-command.command-index xs ≡ xs = take_all c.loop-command.command-index xs
    (omega (arith, c.loop-command-test.false)) in
    subst (λ cs. LeavesRun (state g.S.Store last.conn) last.shut c.args.self.now.register.state cs
    c.loop-command.answers.items last.register.state) all (c.loop-command.invariant.leaves unshut)
