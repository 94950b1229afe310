use Rattle.std.proofs.Common.{subst}
use Rattle.vet_files.proofs.EntriesRead.{FlagRead, NotesRead}
use Rattle.vet_files.proofs.write.entry_tables.audit_table.Goals as goal

pub returns-clause-read : goal.returns-clause-read
returns-clause-read g c = (
  record {
    named = c.in_ok-table.ensures.named;
    criteria = c.in_ok-table.ensures.read;
    notes = subst NotesRead c.as_ref-2.ensures.value c.in_ok-put_some-2.ensures.read;
    importable = subst FlagRead c.as_ref.ensures.value c.in_ok-put_some.ensures.read;
    who = c.in_ok-put_texts.ensures.read;
  },
  c.in_ok-put.ensures.read,
)
