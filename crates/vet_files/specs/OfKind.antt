-- An entry and its kind (ours).
use Rattle.vet_entries.specs.declared.entry.Entry.{Entry}
use Rattle.vet_entries.specs.declared.kind.Kind.{Kind}

-- the entry with this kind
abbrev pub of_kind : Entry → Kind → Entry
of_kind e what = record {
  source = e.source;
  «package» = e.«package»;
  kind = what;
  criteria = e.criteria;
  notes =
      e.notes;
}
