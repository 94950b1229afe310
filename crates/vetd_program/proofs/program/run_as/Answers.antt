-- What was written of the answer to words of a file.
use Rattle.std.proofs.Common.{◌≡◌, ◌∙◌, ℕ, [], None, Result, Ok, Err, IfErr, IfOk, map, refl, rules, subst, sym}
use Rattle.vet_requests.specs.Input.{heard}
use Rattle.vet_requests.specs.declared.io_fault.IoFault.{IoFault}
use Rattle.vet_requests.specs.declared.io_fault.IoFault.TheVariants.{Output}
use Rattle.vetd_words.specs.Answer.{Answers, IsWritten, Says, Stops}
use Rattle.vetd_words.specs.Asked.{asked_by}
use Rattle.vetd_program.specs.Program.{AnswersAs, AsksNothing, IsUntoldAs}
use Rattle.vetd_program.specs.Serving.{clients_of}
use Rattle.vetd_program.specs.declared.program.ProgramCommand.{ProgramCommand}
use Rattle.vetd_program.specs.declared.program.ProgramCommand.TheVariants.{Apply, File, New, Serve, Show}
use Rattle.vet_requests.proofs.ReadLemmas.{hands_nothing}
use Rattle.vetd_words.proofs.Answered.{is_written}
use Rattle.vetd_program.proofs.program.run_as.Goals as goal
use Rattle.vetd_commands.specs.Making.{FoundBy, GivenBy}

with_status : (r : Result ℕ IoFault) (P : ℕ → Type 0) (Q : Type 0) → Q → IfOk r P → IfOk r (λ status. P status × Q)
with_status (Ok status) P Q q p = (p, q)
with_status (Err fault) P Q q p = tt

with_part : (r : Result ℕ IoFault) (P Q : Type 0) → Q → IfErr r (λ fault. fault ≡ Output → P)
    → IfErr r (λ fault. fault ≡ Output → P × Q)
with_part (Ok status) P Q q p = tt
with_part (Err fault) P Q q p = λ output. (p output, q)

pub returns-in-File-clause-written : goal.returns-in-File-clause-written
returns-in-File-clause-written g c =
    let gives = GivenBy (g.D.Databases.may_give c.args.databases.now) in
    let finds = FoundBy (g.D.Databases.may_find c.args.databases.now) in
    let seen = heard g.R.Read.remaining c.args.reader.now in
    let seen' = heard g.R.Read.remaining c.command_run.new.reader in
    let words = map g.T.AsStr.text c.args.words.now in
    let clients = clients_of g.N.Network.may_listen g.N.Network.may_come g.N.Network.may_release
    g.N.Network.may_close g.N.Reader.Read.remaining g.N.Writer.Write.contents in
    let network = c.args.network.now in
    let answers = Answers seen seen' (asked_by c.in-File.kind words) in
    let r = c.command_run.result in
    let out = g.W.Write.contents c.args.writer.now in
    let out' = g.W.Write.contents c.command_run.new.writer in
    let errors = g.E.Write.contents c.args.errors.now in
    let errors' = g.E.Write.contents c.command_run.new.errors in
    subst (λ (command : ProgramCommand). IsWritten
    (AnswersAs g.S.Store gives finds clients network network seen seen' words None command)
    (IsUntoldAs g.S.Store gives finds clients network network seen seen' words None command) r out out' errors errors')
    (sym c.in-File.is)
    (is_written (AnswersAs g.S.Store gives finds clients network network seen seen' words None (File c.in-File.kind))
    (IsUntoldAs g.S.Store gives finds clients network network seen seen' words None (File c.in-File.kind)) r out out'
    errors errors'
    (with_status r (λ status. answers (λ answer. Says answer status out out' errors errors')) _ refl
    c.command_run.ensures.says)
    (with_part r (answers (λ answer. Stops answer out out' errors errors')) _ refl c.command_run.ensures.part)
    c.command_run.ensures.silent refl)

pub returns-in-New-clause-written : goal.returns-in-New-clause-written
returns-in-New-clause-written g c =
    let gives = GivenBy (g.D.Databases.may_give c.args.databases.now) in
    let finds = FoundBy (g.D.Databases.may_find c.args.databases.now) in
    let seen = heard g.R.Read.remaining c.args.reader.now in
    let seen' = heard g.R.Read.remaining c.args.reader.now in
    let words = map g.T.AsStr.text c.args.words.now in
    let clients = clients_of g.N.Network.may_listen g.N.Network.may_come g.N.Network.may_release
    g.N.Network.may_close g.N.Reader.Read.remaining g.N.Writer.Write.contents in
    let network = c.args.network.now in
    let network' = c.args.network.now in
    let left = c.new_run.result.conn in
    subst (λ (command : ProgramCommand). IsWritten
    (AnswersAs g.S.Store gives finds clients network network' seen seen' words left command)
    (IsUntoldAs g.S.Store gives finds clients network network' seen seen' words left command) c.new_run.result.status
    (g.W.Write.contents c.args.writer.now) (g.W.Write.contents c.new_run.new.writer)
    (g.E.Write.contents c.args.errors.now) (g.E.Write.contents c.new_run.new.errors)) (sym c.in-New.is)
    c.new_run.ensures.written

pub returns-in-Apply-clause-written : goal.returns-in-Apply-clause-written
returns-in-Apply-clause-written g c =
    let gives = GivenBy (g.D.Databases.may_give c.args.databases.now) in
    let finds = FoundBy (g.D.Databases.may_find c.args.databases.now) in
    let seen = heard g.R.Read.remaining c.args.reader.now in
    let seen' = heard g.R.Read.remaining c.apply_run.new.reader in
    let words = map g.T.AsStr.text c.args.words.now in
    let clients = clients_of g.N.Network.may_listen g.N.Network.may_come g.N.Network.may_release
    g.N.Network.may_close g.N.Reader.Read.remaining g.N.Writer.Write.contents in
    let network = c.args.network.now in
    let network' = c.args.network.now in
    let left = c.apply_run.result.conn in
    subst (λ (command : ProgramCommand). IsWritten
    (AnswersAs g.S.Store gives finds clients network network' seen seen' words left command)
    (IsUntoldAs g.S.Store gives finds clients network network' seen seen' words left command) c.apply_run.result.status
    (g.W.Write.contents c.args.writer.now) (g.W.Write.contents c.apply_run.new.writer)
    (g.E.Write.contents c.args.errors.now) (g.E.Write.contents c.apply_run.new.errors)) (sym c.in-Apply.is)
    c.apply_run.ensures.written

pub returns-in-Show-clause-written : goal.returns-in-Show-clause-written
returns-in-Show-clause-written g c =
    let gives = GivenBy (g.D.Databases.may_give c.args.databases.now) in
    let finds = FoundBy (g.D.Databases.may_find c.args.databases.now) in
    let seen = heard g.R.Read.remaining c.args.reader.now in
    let seen' = heard g.R.Read.remaining c.args.reader.now in
    let words = map g.T.AsStr.text c.args.words.now in
    let clients = clients_of g.N.Network.may_listen g.N.Network.may_come g.N.Network.may_release
    g.N.Network.may_close g.N.Reader.Read.remaining g.N.Writer.Write.contents in
    let network = c.args.network.now in
    let network' = c.args.network.now in
    let left = c.view_run.result.conn in
    subst (λ (command : ProgramCommand). IsWritten
    (AnswersAs g.S.Store gives finds clients network network' seen seen' words left command)
    (IsUntoldAs g.S.Store gives finds clients network network' seen seen' words left command) c.view_run.result.status
    (g.W.Write.contents c.args.writer.now) (g.W.Write.contents c.view_run.new.writer)
    (g.E.Write.contents c.args.errors.now) (g.E.Write.contents c.view_run.new.errors)) (sym c.in-Show.is)
    c.view_run.ensures.written

pub returns-in-Serve-clause-written : goal.returns-in-Serve-clause-written
returns-in-Serve-clause-written g c =
    let gives = GivenBy (g.D.Databases.may_give c.args.databases.now) in
    let finds = FoundBy (g.D.Databases.may_find c.args.databases.now) in
    let seen = heard g.R.Read.remaining c.args.reader.now in
    let seen' = heard g.R.Read.remaining c.args.reader.now in
    let words = map g.T.AsStr.text c.args.words.now in
    let clients = clients_of g.N.Network.may_listen g.N.Network.may_come g.N.Network.may_release
    g.N.Network.may_close g.N.Reader.Read.remaining g.N.Writer.Write.contents in
    let network = c.args.network.now in
    let network' = c.serve_run.new.network in
    let left = c.serve_run.result.conn in
    subst (λ (command : ProgramCommand). IsWritten
    (AnswersAs g.S.Store gives finds clients network network' seen seen' words left command)
    (IsUntoldAs g.S.Store gives finds clients network network' seen seen' words left command) c.serve_run.result.status
    (g.W.Write.contents c.args.writer.now) (g.W.Write.contents c.serve_run.new.writer)
    (g.E.Write.contents c.args.errors.now) (g.E.Write.contents c.serve_run.new.errors)) (sym c.in-Serve.is)
    c.serve_run.ensures.written

pub returns-in-New-clause-bounded : goal.returns-in-New-clause-bounded
returns-in-New-clause-bounded g c = ([], (search rules, hands_nothing (heard g.R.Read.remaining c.args.reader.now)))

pub returns-in-Show-clause-bounded : goal.returns-in-Show-clause-bounded
returns-in-Show-clause-bounded g c = ([], (search rules, hands_nothing (heard g.R.Read.remaining c.args.reader.now)))

pub returns-in-Serve-clause-bounded : goal.returns-in-Serve-clause-bounded
returns-in-Serve-clause-bounded g c = ([], (search rules, hands_nothing (heard g.R.Read.remaining c.args.reader.now)))

-- ---- the network, the databases, and the two writers

pub returns-in-File-clause-alone : goal.returns-in-File-clause-alone
returns-in-File-clause-alone g c = λ other. refl

pub returns-in-File-clause-unopened : goal.returns-in-File-clause-unopened
returns-in-File-clause-unopened g c = λ kind is. refl

pub returns-in-File-clause-help : goal.returns-in-File-clause-help
returns-in-File-clause-help g c = c.command_run.ensures.help

pub returns-in-File-clause-wrong : goal.returns-in-File-clause-wrong
returns-in-File-clause-wrong g c = λ nothing none.
    let words = map g.T.AsStr.text c.args.words.now in
    c.command_run.ensures.wrong
    (subst (λ (command : ProgramCommand). AsksNothing command words) c.in-File.is nothing) none

pub returns-in-New-clause-alone : goal.returns-in-New-clause-alone
returns-in-New-clause-alone g c = λ other. refl

pub returns-in-New-clause-unopened : goal.returns-in-New-clause-unopened
returns-in-New-clause-unopened g c = λ kind is. absurd (let two : File kind ≡ New = sym is ∙ c.in-New.is in cc)

pub returns-in-New-clause-help : goal.returns-in-New-clause-help
returns-in-New-clause-help g c = c.new_run.ensures.help

pub returns-in-New-clause-wrong : goal.returns-in-New-clause-wrong
returns-in-New-clause-wrong g c = λ nothing none.
    let words = map g.T.AsStr.text c.args.words.now in
    c.new_run.ensures.wrong (subst (λ (command : ProgramCommand). AsksNothing command words) c.in-New.is nothing) none

pub returns-in-Apply-clause-alone : goal.returns-in-Apply-clause-alone
returns-in-Apply-clause-alone g c = λ other. refl

pub returns-in-Apply-clause-unopened : goal.returns-in-Apply-clause-unopened
returns-in-Apply-clause-unopened g c = λ kind is. absurd (let two : File kind ≡ Apply = sym is ∙ c.in-Apply.is in cc)

pub returns-in-Apply-clause-help : goal.returns-in-Apply-clause-help
returns-in-Apply-clause-help g c = c.apply_run.ensures.help

pub returns-in-Apply-clause-wrong : goal.returns-in-Apply-clause-wrong
returns-in-Apply-clause-wrong g c = λ nothing none.
    let words = map g.T.AsStr.text c.args.words.now in
    c.apply_run.ensures.wrong
    (subst (λ (command : ProgramCommand). AsksNothing command words) c.in-Apply.is nothing) none

pub returns-in-Show-clause-alone : goal.returns-in-Show-clause-alone
returns-in-Show-clause-alone g c = λ other. refl

pub returns-in-Show-clause-unopened : goal.returns-in-Show-clause-unopened
returns-in-Show-clause-unopened g c = λ kind is.
    absurd (let two : File kind ≡ Show c.in-Show.kind = sym is ∙ c.in-Show.is in cc)

pub returns-in-Show-clause-help : goal.returns-in-Show-clause-help
returns-in-Show-clause-help g c = c.view_run.ensures.help

pub returns-in-Show-clause-wrong : goal.returns-in-Show-clause-wrong
returns-in-Show-clause-wrong g c = λ nothing none.
    let words = map g.T.AsStr.text c.args.words.now in
    c.view_run.ensures.wrong (subst (λ (command : ProgramCommand). AsksNothing command words) c.in-Show.is nothing) none

pub returns-in-Serve-clause-alone : goal.returns-in-Serve-clause-alone
returns-in-Serve-clause-alone g c = λ other. absurd (other c.in-Serve.is)

pub returns-in-Serve-clause-unopened : goal.returns-in-Serve-clause-unopened
returns-in-Serve-clause-unopened g c = λ kind is. absurd (let two : File kind ≡ Serve = sym is ∙ c.in-Serve.is in cc)

pub returns-in-Serve-clause-help : goal.returns-in-Serve-clause-help
returns-in-Serve-clause-help g c = c.serve_run.ensures.help

pub returns-in-Serve-clause-wrong : goal.returns-in-Serve-clause-wrong
returns-in-Serve-clause-wrong g c = λ nothing none.
    let words = map g.T.AsStr.text c.args.words.now in
    c.serve_run.ensures.wrong
    (subst (λ (command : ProgramCommand). AsksNothing command words) c.in-Serve.is nothing) none
