-- A read leaves a connection that rests as it was.
use Rattle.std.proofs.Common.{◌∙◌, [], inl, inr, sym}
use Rattle.sqlite.specs.State.{FailsToQuery, IsNotRun, IsRolledBack, IsUnchanged, State}
use Rattle.sqlite.specs.declared.error.Error.{Error}
use Rattle.vet_tables.proofs.Readings.{quiet}
use Rattle.vet_tables.specs.Forms.{form_of}
use Rattle.vet_tables.specs.Read.{KeepsRest}
use Rattle.vet_tables.specs.Texts.{select_text}
use Rattle.vet_tables.specs.declared.table_name.TableName.{TableName}

pub keeps_unchanged : (old new : State) → IsUnchanged old new → KeepsRest old new
keeps_unchanged old new h = record {
  was_open = λ _. h.0.was_open;
  rests = λ serves was. record {
    is_open = serves;
    autocommit = h.0.mode ∙ was.autocommit;
    settled = h.0.now_is ∙ was.settled ∙ sym h.0.committed_is;
  };
  same = λ _ _. h.0.now_is;
}

pub keeps_undone : (old new : State) → IsRolledBack old new → KeepsRest old new
keeps_undone old new h = record {
  was_open = h.was_open;
  rests = λ serves was. record {
    is_open = serves;
    autocommit = h.autocommit;
    settled = (h.undone serves).0 ∙ sym (h.undone serves).1;
  };
  same = λ serves was. (h.undone serves).0 ∙ sym was.settled;
}

pub keeps_then : (a b c : State) → KeepsRest a b → KeepsRest b c → KeepsRest a c
keeps_then a b c h k = record {
  was_open = λ serves. h.was_open (k.was_open serves);
  rests = λ serves was. k.rests serves (h.rests (k.was_open serves) was);
  same = λ serves was. k.same serves (h.rests (k.was_open serves) was) ∙ h.same (k.was_open serves) was;
}

-- so does one that fails to begin
pub keeps_failed : (n : TableName) (old new : State) (e : Error) → FailsToQuery (select_text (form_of n)) [] old new e
    → KeepsRest old new
unfolding FailsToQuery IsNotRun
keeps_failed n old new e (inl (inl h)) = keeps_unchanged old new h.1
keeps_failed n old new e (inl (inr h)) = keeps_undone old new h.3
keeps_failed n old new e (inr h) =
    let shows = rw (quiet n old.now.schema h.0 h.1.is) at h.2 in
    keeps_unchanged old new shows.3
