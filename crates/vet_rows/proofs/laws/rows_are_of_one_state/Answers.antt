use Rattle.std.proofs.Common.{◌∙◌, sym}
use Rattle.vet_rows.proofs.laws.rows_are_of_one_state.Goals as goal
use Rattle.vet_tables.specs.declared.version.TablesVersion.TheVariants.{Second}

pub returns-in-Ok-clause-one : goal.returns-in-Ok-clause-one
returns-in-Ok-clause-one c s t sound_s sound_t held_s held_t same_s same_t =
    sym (c.in-Ok.ensures.back Second s sound_s held_s same_s) ∙ c.in-Ok.ensures.back Second t sound_t held_t same_t

pub returns-clause-back : goal.returns-clause-back
returns-clause-back c s sound_s held_s same_s = c.in-Err.ensures.back Second s sound_s held_s same_s
