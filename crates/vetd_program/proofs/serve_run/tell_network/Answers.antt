-- The line is the bytes that were written, or whose front was.
use Rattle.std.proofs.Common.{Err, List, Ok, OnErr, Result, subst, ℕ}
use Rattle.std.specs.Io.KnownBytes.{Appends}
use Rattle.vet_http.specs.Output.{AppendsPart}
use Rattle.vet_requests.specs.declared.io_fault.IoFault.{IoFault}
use Rattle.vetd_program.proofs.serve_run.tell_network.Goals as goal

on_err : (r : Result ℕ IoFault) (P : Type 0) → P → OnErr r P
on_err (Ok status) P holds = tt
on_err (Err fault) P holds = holds

pub returns-in_err-write_whole-clause-part : goal.returns-in_err-write_whole-clause-part
returns-in_err-write_whole-clause-part g c =
    let old = g.E.Write.contents c.args.errors.now in
    let new = g.E.Write.contents c.write_whole.new.writer in
    on_err c.from_residual.result _ (subst (λ (line : List ℕ). AppendsPart old new line) c.as_bytes.ensures.value
    c.in_err-write_whole.ensures.part)

pub returns-clause-told : goal.returns-clause-told
returns-clause-told g c =
    let old = g.E.Write.contents c.args.errors.now in
    let new = g.E.Write.contents c.write_whole.new.writer in
    subst (λ (line : List ℕ). Appends old new line) c.as_bytes.ensures.value c.in_ok-write_whole.ensures.whole
