use Rattle.vet_base.proofs.DayLemmas.{read_day-text}
use Rattle.vet_base.proofs.day.day_text_reads_back.Goals as goal

pub returns : goal.returns
returns c = rw (← c.day.view_is) (read_day-text _ c.day.invariant)
