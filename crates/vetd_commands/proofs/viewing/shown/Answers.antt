-- What was shown of a store that was opened, of the connection that is given back.
use Rattle.std.proofs.Common.{IfOk, inl, string_bytes}
use Rattle.vetd_words.specs.View.{Shows}
use Rattle.vetd_commands.proofs.Opened.{is_not_opened, is_not_shown, is_opened, is_shown}
use Rattle.vetd_commands.proofs.viewing.shown.Goals as goal

pub returns-in-Ok-clause-shown : goal.returns-in-Ok-clause-shown
returns-in-Ok-clause-shown g c =
    let conn = c.in-Ok.store.conn in
    let register = c.in-Ok.store.register.state in
    let shows : IfOk c.text-shown.result (λ text. Shows c.args.view register (string_bytes text)) =
    rw c.register.ensures at c.text-shown.ensures.shows in
    is_shown g.S.Store c.args.conn c.args.view string_bytes conn c.close.result register c.text-shown.result
    c.close.ensures.conn
    (is_opened g.S.Store c.args.conn conn c.in-Ok.store.shut register c.in-Ok.ensures.found c.in-Ok.ensures.only
    c.in-Ok.ensures.tables c.in-Ok.ensures.opened c.in-Ok.ensures.crash) shows

pub returns-in-Ok-clause-refused : goal.returns-in-Ok-clause-refused
returns-in-Ok-clause-refused g c =
    let conn = c.in-Ok.store.conn in
    let register = c.in-Ok.store.register.state in
    is_not_shown g.S.Store c.args.conn conn c.close.result register c.text-shown.result c.close.ensures.conn
    (is_opened g.S.Store c.args.conn conn c.in-Ok.store.shut register c.in-Ok.ensures.found c.in-Ok.ensures.only
    c.in-Ok.ensures.tables c.in-Ok.ensures.opened c.in-Ok.ensures.crash)
    c.text-shown.ensures.memory

pub returns-in-Err-clause-refused : goal.returns-in-Err-clause-refused
returns-in-Err-clause-refused g c =
    inl (is_not_opened g.S.Store c.args.conn c.in-Err.refused.conn c.into_parts-refusal.result.1
    c.in-Err.refused.refusal c.into_parts-refusal.result.0 c.into_parts-refusal.ensures.refusal
    c.into_parts-refusal.ensures.conn c.in-Err.ensures.foreign c.in-Err.ensures.none c.in-Err.ensures.refused
    c.in-Err.ensures.as_before c.in-Err.ensures.crash)
