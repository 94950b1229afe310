-- What was printed as clients were served, from what each step wrote.
use Rattle.std.proofs.Common.{◌≡◌, ◌∙◌, [], Bool, ap, refl, subst}
use Rattle.std.proofs.KnownBytes.{Appends-nil}
use Rattle.sqlite.specs.Held.{state}
use Rattle.vetd_program.proofs.DoneTurnLemmas.{never_shut}
use Rattle.vetd_program.specs.DoneTurns.{LeavesWhereShut}
use Rattle.vetd_program.specs.Serving.{AreServed, clients_of, replied, served_line}
use Rattle.vetd_words.specs.Answer.{NoPort}
use Rattle.vetd_program.proofs.Sitting.{classes_of, lost_in_between, lost_written, no_port, sat_in_part, sat_whole}
use Rattle.vetd_program.proofs.Sitting.{unheard}
use Rattle.vet_store.proofs.Tying.{others_as_were}
use Rattle.vetd_program.proofs.serve_run.serve_at_port.Goals as goal

pub returns-in-None-clause-written : goal.returns-in-None-clause-written
returns-in-None-clause-written g c =
    let held = c.headline_holds.ensures in
    let classes = classes_of c.args.store.now.register.state held.classes held.adds_up held.balance in
    let store = c.args.store.now in
    let s = store.register.state in
    let out = g.W.Write.contents c.args.writer.now in
    let told = c.tell_network.ensures in
    let conn = state g.S.Store store.conn in
    let leaves = LeavesWhereShut store.shut store.shut conn s in
    let network = c.args.network.now in
    let network' = c.listen.new.self in
    let clients = clients_of g.N.Network.may_listen g.N.Network.may_come g.N.Network.may_release
    g.N.Network.may_close g.N.Reader.Read.remaining g.N.Writer.Write.contents in
    lost_written clients network network' c.args.service leaves s s ((network' ≡ network) × (store ≡ store)) [] out out
    _ _ NoPort tt
    (no_port clients network network' c.args.service leaves s classes (never_shut store.shut conn s [])
    c.in-None.ensures)
    c.tell_network.result (Appends-nil out) told.status told.told told.part told.faults

pub returns-in-Err-clause-written : goal.returns-in-Err-clause-written
returns-in-Err-clause-written g c =
    let held = c.headline_holds.ensures in
    let classes = classes_of c.args.store.now.register.state held.classes held.adds_up held.balance in
    let store = c.args.store.now in
    let written = c.in-Err.ensures in
    let conn = state g.S.Store store.conn in
    let s = store.register.state in
    let network' = c.close.new.self in
    let clients = clients_of g.N.Network.may_listen g.N.Network.may_come g.N.Network.may_release
    g.N.Network.may_close g.N.Reader.Read.remaining g.N.Writer.Write.contents in
    unheard clients c.args.network.now network' c.args.service (LeavesWhereShut store.shut store.shut conn s) s
    c.in-Some.listener c.in-Some.listener c.listen.new.self c.in-Some.ensures c.close.ensures refl classes
    (never_shut store.shut conn s []) ((network' ≡ c.args.network.now) × (store ≡ store)) _ c.in-Err.fault
    c.as_bytes.result.now _ _ _ (c.as_bytes.ensures.value ∙ c.in_ok-lines.ensures.listening) refl written.faults
    written.part

pub returns-then-summary-clause-written : goal.returns-then-summary-clause-written
returns-then-summary-clause-written g c =
    let clients = clients_of g.N.Network.may_listen g.N.Network.may_come g.N.Network.may_release
    g.N.Network.may_close g.N.Reader.Read.remaining g.N.Writer.Write.contents in
    let first = c.args.store.now in
    let last = c.serve_each-summary.new.store in
    let held = c.headline_holds-2.ensures in
    let classes = classes_of last.register.state held.classes held.adds_up held.balance in
    let conn = state g.S.Store last.conn in
    let end = last.register.state in
    let network' = c.close-2.new.self in
    let told = c.tell_network-then-summary.ensures in
    let served = subst (λ (lost : Bool). (served : AreServed clients c.args.service.day c.args.service.connections
    first.register.state c.in-Some.listener lost end c.serve_each-summary.new.listener)
    × ((c.serve_each-summary.result.served ≡ replied served.turns)
    × LeavesWhereShut first.shut last.shut conn end served.turns)) c.if-summary.true
    c.serve_each-summary.ensures.served in
    lost_in_between clients c.args.network.now network' c.args.service
    (LeavesWhereShut first.shut last.shut conn end) first.register.state c.in-Some.listener
    c.serve_each-summary.new.listener c.listen.new.self c.in-Some.ensures c.close-2.ensures end classes
    ((network' ≡ c.args.network.now) × (last ≡ first)) served.0 served.1.1
    c.as_bytes.result.now c.tell_network-then-summary.result _ _ _ _
    (c.as_bytes.ensures.value ∙ c.in_ok-lines.ensures.listening) c.in_default.ensures.whole told.status told.told
    told.part told.faults

pub returns-in_err-write_whole-clause-written : goal.returns-in_err-write_whole-clause-written
returns-in_err-write_whole-clause-written g c =
    let clients = clients_of g.N.Network.may_listen g.N.Network.may_come g.N.Network.may_release
    g.N.Network.may_close g.N.Reader.Read.remaining g.N.Writer.Write.contents in
    let first = c.args.store.now in
    let last = c.serve_each-summary.new.store in
    let held = c.headline_holds-2.ensures in
    let classes = classes_of last.register.state held.classes held.adds_up held.balance in
    let conn = state g.S.Store last.conn in
    let end = last.register.state in
    let network' = c.close-2.new.self in
    let served = subst (λ (lost : Bool). (served : AreServed clients c.args.service.day c.args.service.connections
    first.register.state c.in-Some.listener lost end c.serve_each-summary.new.listener)
    × ((c.serve_each-summary.result.served ≡ replied served.turns)
    × LeavesWhereShut first.shut last.shut conn end served.turns)) c.if-summary.false
    c.serve_each-summary.ensures.served in
    let written = c.in_err-write_whole.ensures in
    sat_in_part clients c.args.network.now network' c.args.service
    (LeavesWhereShut first.shut last.shut conn end) first.register.state c.in-Some.listener
    c.serve_each-summary.new.listener c.listen.new.self c.in-Some.ensures c.close-2.ensures end classes
    ((network' ≡ c.args.network.now) × (last ≡ first)) served.0 served.1.1
    c.as_bytes.result.now c.as_bytes-2.result.now (c.as_bytes.ensures.value ∙ c.in_ok-lines.ensures.listening)
    (c.as_bytes-2.ensures.value ∙ c.served.ensures ∙ ap served_line served.1.0)
    c.from_residual-in_err-write_whole.result c.in_err-write_whole.field-0.0 _ _ _ _
    c.from_residual-in_err-write_whole.ensures.1 written.faults c.in_default.ensures.whole written.part

pub returns-clause-written : goal.returns-clause-written
returns-clause-written g c =
    let clients = clients_of g.N.Network.may_listen g.N.Network.may_come g.N.Network.may_release
    g.N.Network.may_close g.N.Reader.Read.remaining g.N.Writer.Write.contents in
    let first = c.args.store.now in
    let last = c.serve_each-summary.new.store in
    let held = c.headline_holds-2.ensures in
    let classes = classes_of last.register.state held.classes held.adds_up held.balance in
    let conn = state g.S.Store last.conn in
    let end = last.register.state in
    let network' = c.close-2.new.self in
    let served = subst (λ (lost : Bool). (served : AreServed clients c.args.service.day c.args.service.connections
    first.register.state c.in-Some.listener lost end c.serve_each-summary.new.listener)
    × ((c.serve_each-summary.result.served ≡ replied served.turns)
    × LeavesWhereShut first.shut last.shut conn end served.turns)) c.if-summary.false
    c.serve_each-summary.ensures.served in
    sat_whole clients c.args.network.now network' c.args.service
    (LeavesWhereShut first.shut last.shut conn end) first.register.state c.in-Some.listener
    c.serve_each-summary.new.listener c.listen.new.self c.in-Some.ensures c.close-2.ensures end classes
    ((network' ≡ c.args.network.now) × (last ≡ first)) served.0 served.1.1
    c.as_bytes.result.now c.as_bytes-2.result.now (c.as_bytes.ensures.value ∙ c.in_ok-lines.ensures.listening)
    (c.as_bytes-2.ensures.value ∙ c.served.ensures ∙ ap served_line served.1.0) _ _ _ _
    c.in_default.ensures.whole c.in_ok-write_whole.ensures.whole

-- ---- all else in the database

pub returns-in_err-room-clause-others : goal.returns-in_err-room-clause-others
returns-in_err-room-clause-others g c = others_as_were (state g.S.Store c.args.store.now.conn)
