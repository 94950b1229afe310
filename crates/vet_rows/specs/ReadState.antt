-- The parts of a state (ours).
use Rattle.std.specs.Prelude.{List}
use Rattle.vet_demand.specs.declared.policies.KeyedPolicy.{KeyedPolicy}
use Rattle.vet_demand.specs.declared.project.NamedProject.{NamedProject}
use Rattle.vet_desk.specs.Desk.{DeskState}
use Rattle.vet_entries.specs.Facts.{Facts}
use Rattle.vet_register.specs.State.{State}
use Rattle.vet_register.specs.declared.moves.RecordedMove.{RecordedMove}
use Rattle.vet_rows.specs.declared.meta.Meta.{Meta}
use Rattle.vet_tables.specs.declared.version.TablesVersion.{TablesVersion}

-- everything that a state has only one of, in tables of a version
abbrev pub meta_in : TablesVersion → State → Meta
meta_in version s = record {
  version = version;
  numbers = record {
    step = s.step;
    next_entry = s.next_entry;
    next_review = s.desk.next_review;
    moves_limit = s.moves_limit;
  };
  first = s.first;
  settings = s.held.settings;
}

-- the state of these parts
abbrev pub state_in : Meta → Facts → List KeyedPolicy → List NamedProject → DeskState → List RecordedMove → State
state_in meta facts policies projects desk moves = record {
  held = record { facts = facts; policies = policies; projects = projects; settings = meta.settings };
  desk = desk;
  step = meta.numbers.step;
  next_entry = meta.numbers.next_entry;
  moves_limit = meta.numbers.moves_limit;
  first = meta.first;
  moves = moves;
}
