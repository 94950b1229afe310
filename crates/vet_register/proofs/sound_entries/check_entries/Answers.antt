use Rattle.vet_register.proofs.Checked.{no_register, refuted}
use Rattle.vet_register.proofs.Readable.{said_differ, spoken_differ}
use Rattle.vet_register.proofs.sound_entries.check_entries.Goals as goal

pub returns-then-not-branch : goal.returns-then-not-branch
returns-then-not-branch c =
    no_register (λ sound. refuted c.in_ok-are_distinct.ensures c.if-not-branch.true
    (spoken_differ c.args.source.now c.args.entries.now sound.from sound.different))

pub returns : goal.returns
returns c = record {
  from = c.are_from.ensures.0 c.if-not-are_from.false;
  different = said_differ c.args.entries.now (c.in_ok-are_distinct.ensures.0 c.if-not-branch.false);
  numbers_rise = c.requires;
  numbers_given = c.are_given.ensures.0 c.if-not-are_given.false;
}
