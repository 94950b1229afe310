-- The forms of the fourteen tables (ours).
use Rattle.std.specs.Prelude.{List, [], ◌∷◌, codes, ℕ}
use Rattle.sqlite_schema.specs.declared.schema.Kind.TheVariants.{Blob, Integer, Text}
use Rattle.vet_tables.specs.Form.{TableForm}
use Rattle.vet_tables.specs.declared.table_name.DaysTable.TheVariants.{Today, Lasts}
use Rattle.vet_tables.specs.declared.table_name.DemandTable.TheVariants.{Policies, Nodes, Edges}
use Rattle.vet_tables.specs.declared.table_name.DeskTable.TheVariants.{Members, Reviews}
use Rattle.vet_tables.specs.declared.table_name.FactsTable.TheVariants.{Criteria, Entries, Publishers, Peers}
use Rattle.vet_tables.specs.declared.table_name.TableName.{TableName}
use Rattle.vet_tables.specs.declared.table_name.TableName.TheVariants.{Meta, Facts, Demand, Standing, Moves, Desk, Days}

abbrev pub form_of : TableName → TableForm
form_of Meta = record {
  name = codes "meta";
  columns = (codes "one", Integer) ∷ (codes "version", Integer) ∷ (codes "step", Integer)
      ∷ (codes "next_entry", Integer)
      ∷ (codes "next_review", Integer) ∷ (codes "moves_limit", Integer) ∷ (codes "first0", Integer)
      ∷ (codes "first1", Integer)
      ∷ (codes "first2", Integer) ∷ (codes "first3", Integer) ∷ (codes "first4", Integer) ∷ (codes "vet_version", Blob)
      ∷ (codes "default_criteria", Blob) ∷ [];
  key = 1;
}
form_of (Facts Criteria) = record {
  name = codes "criteria";
  columns = (codes "peer", Text) ∷ (codes "name", Text) ∷ (codes "about", Blob) ∷ (codes "url", Blob)
      ∷ (codes "implies", Blob) ∷ [];
  key = 2;
}
form_of (Facts Entries) = record {
  name = codes "entries";
  columns = (codes "number", Integer) ∷ (codes "peer", Text) ∷ (codes "package", Text) ∷ (codes "kind", Integer)
      ∷ (codes "a", Text) ∷ (codes "b", Text) ∷ (codes "user", Integer) ∷ (codes "day1", Integer)
      ∷ (codes "day2", Integer)
      ∷ (codes "criteria", Blob) ∷ (codes "who", Blob) ∷ (codes "notes", Blob) ∷ (codes "suggest", Integer)
      ∷ (codes "renew", Integer) ∷ (codes "importable", Integer) ∷ [];
  key = 1;
}
form_of (Facts Publishers) = record {
  name = codes "publishers";
  columns = (codes "package", Text) ∷ (codes "version", Text) ∷ (codes "user", Integer) ∷ (codes "day", Integer)
      ∷ (codes "login", Blob) ∷ (codes "name", Blob) ∷ [];
  key = 6;
}
form_of (Demand Policies) = record {
  name = codes "policies";
  columns = (codes "policy", Text) ∷ (codes "as_crates", Integer) ∷ (codes "criteria", Blob) ∷ (codes "dev", Blob)
      ∷ (codes "dependency", Blob) ∷ (codes "notes", Blob) ∷ [];
  key = 1;
}
form_of (Facts Peers) = record {
  name = codes "peers";
  columns = (codes "name", Text) ∷ (codes "url", Blob) ∷ (codes "exclude", Blob) ∷ (codes "map", Blob) ∷ [];
  key = 1;
}
form_of (Demand Nodes) = record {
  name = codes "nodes";
  columns = (codes "project", Text) ∷ (codes "name", Text) ∷ (codes "version", Text) ∷ (codes "party", Integer) ∷ [];
  key = 3;
}
form_of (Demand Edges) = record {
  name = codes "edges";
  columns = (codes "project", Text) ∷ (codes "from_name", Text) ∷ (codes "from_version", Text) ∷ (codes "to_name", Text)
      ∷ (codes "to_version", Text) ∷ (codes "kind", Integer) ∷ [];
  key = 6;
}
form_of Standing = record {
  name = codes "standing";
  columns = (codes "package", Text) ∷ (codes "version", Text) ∷ (codes "criterion", Text) ∷ (codes "class", Integer)
      ∷ [];
  key = 3;
}
form_of Moves = record {
  name = codes "moves";
  columns = (codes "step", Integer) ∷ (codes "package", Text) ∷ (codes "version", Text) ∷ (codes "criterion", Text)
      ∷ (codes "day", Integer) ∷ (codes "before", Integer) ∷ (codes "after", Integer) ∷ [];
  key = 4;
}
form_of (Desk Members) = record { name = codes "members"; columns = (codes "name", Text) ∷ []; key = 1 }
form_of (Desk Reviews) = record {
  name = codes "reviews";
  columns = (codes "number", Integer) ∷ (codes "package", Text) ∷ (codes "version", Text) ∷ (codes "criteria", Blob)
      ∷ (codes "day", Integer) ∷ (codes "state", Integer) ∷ (codes "member", Text) ∷ (codes "entry", Integer) ∷ [];
  key = 1;
}
form_of (Days Today) = record {
  name = codes "today";
  columns = (codes "one", Integer) ∷ (codes "day", Integer) ∷ [];
  key = 1;
}
form_of (Days Lasts) = record {
  name = codes "lasts";
  columns = (codes "entry", Integer) ∷ (codes "day", Integer) ∷ [];
  key = 1;
}

-- the place of a table among all
abbrev pub code : TableName → ℕ
code Meta = 0
code (Facts Criteria) = 1
code (Facts Entries) = 2
code (Facts Publishers) = 3
code (Demand Policies) = 4
code (Facts Peers) = 5
code (Demand Nodes) = 6
code (Demand Edges) = 7
code Standing = 8
code Moves = 9
code (Desk Members) = 10
code (Desk Reviews) = 11
code (Days Today) = 12
code (Days Lasts) = 13

-- all tables, each at its place
abbrev pub tables : List TableName
tables = Meta ∷ Facts Criteria ∷ Facts Entries ∷ Facts Publishers ∷ Demand Policies ∷ Facts Peers ∷ Demand Nodes
    ∷ Demand Edges ∷ Standing ∷ Moves ∷ Desk Members ∷ Desk Reviews ∷ Days Today ∷ Days Lasts ∷ []
