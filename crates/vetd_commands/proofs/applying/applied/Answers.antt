-- The answer to a document over a register that was opened, or why none was.
use Rattle.std.proofs.Common.{inl, string_bytes}
use Rattle.std.specs.Option.{option_copied}
use Rattle.vetd_commands.proofs.Applied.{over_opened}
use Rattle.vetd_commands.proofs.Opened.{is_not_opened, is_opened}
use Rattle.vetd_commands.proofs.applying.applied.Goals as goal

pub returns-in-Err : goal.returns-in-Err
returns-in-Err g c =
    inl (is_not_opened g.S.Store c.args.conn c.in-Err.refused.conn c.into_parts-refusal.result.1
    c.in-Err.refused.refusal c.into_parts-refusal.result.0
    c.into_parts-refusal.ensures.refusal c.into_parts-refusal.ensures.conn
    c.in-Err.ensures.foreign c.in-Err.ensures.none c.in-Err.ensures.refused c.in-Err.ensures.as_before
    c.in-Err.ensures.crash)

pub returns : goal.returns
returns g c =
    let conn = c.in-Ok.store.conn in
    let register = c.in-Ok.store.register.state in
    over_opened g.S.Store c.args.document.now c.args.day (option_copied c.args.giver) string_bytes c.args.conn conn
    register c.run_document.result.0 c.run_document.result.1
    (is_opened g.S.Store c.args.conn conn c.in-Ok.store.shut register c.in-Ok.ensures.found c.in-Ok.ensures.only
    c.in-Ok.ensures.tables c.in-Ok.ensures.opened c.in-Ok.ensures.crash)
    c.run_document.ensures
