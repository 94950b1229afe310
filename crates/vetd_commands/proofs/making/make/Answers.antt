-- What a store that was made, or a refusal, ensures of the connection that is given back.
use Rattle.vetd_commands.proofs.MakingLemmas.{is_new_register, is_no_register}
use Rattle.vetd_commands.proofs.making.make.Goals as goal

pub returns-in-Ok-clause-made : goal.returns-in-Ok-clause-made
returns-in-Ok-clause-made g c =
    is_new_register g.S.Store c.args.moves_limit c.args.conn c.in-Ok.store.conn c.close.result c.in-Ok.store.shut
    c.in-Ok.store.register.state c.close.ensures.conn c.in-Ok.ensures.start c.in-Ok.ensures.taken
    c.in-Ok.ensures.tables
    c.in-Ok.ensures.others c.in-Ok.ensures.crash

pub returns-in-Err-clause-refused : goal.returns-in-Err-clause-refused
returns-in-Err-clause-refused g c =
    is_no_register g.S.Store c.args.moves_limit c.args.conn c.in-Err.refused.conn c.into_parts-refusal.result.1
    c.in-Err.refused.refusal c.into_parts-refusal.result.0
    c.into_parts-refusal.ensures.refusal c.into_parts-refusal.ensures.conn
    c.in-Err.ensures.taken c.in-Err.ensures.refused c.in-Err.ensures.as_before c.in-Err.ensures.crash
