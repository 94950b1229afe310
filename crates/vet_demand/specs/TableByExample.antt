-- A project and its dependency table, by example (ours).
use Rattle.std.specs.Prelude.{[], ◌∷◌, ◌++◌, None, codes}
use Rattle.vet_base.specs.Version.{VersionValue}
use Rattle.vet_base.specs.Words.{Bytes}
use Rattle.vet_demand.specs.Project.{ProjectValue}
use Rattle.vet_demand.specs.declared.project.EdgeKind.TheVariants.{Normal, Dev}
use Rattle.vet_demand.specs.declared.project.Party.TheVariants.{Root, Third}

abbrev pub version_one : VersionValue
version_one = record { parts = (1, 0, 0, [], []); revision = None }

abbrev pub version_tenth : VersionValue
version_tenth = record { parts = (0, 1, 0, [], []); revision = None }

-- a program, a package that its tests use, and a dependency of that package
abbrev pub example_project : ProjectValue
example_project = record {
  nodes =
      record { «package» = codes "a"; version = version_one; party = Third }
      ∷ record { «package» = codes "app"; version = version_tenth; party = Root }
      ∷ record { «package» = codes "b"; version = version_one; party = Third } ∷ [];
  edges = record { from = 0; to = 2; kind = Normal } ∷ record { from = 1; to = 0; kind = Dev } ∷ [];
}

abbrev pub example_table : Bytes
example_table =
    codes "what,n,p,q,r\n"
    ++ codes "node,0,a,1.0.0,third\n"
    ++ codes "node,1,app,0.1.0,root\n"
    ++ codes "node,2,b,1.0.0,third\n"
    ++ codes "edge,0,2,normal,\n"
    ++ codes "edge,1,0,dev,\n"

-- the same by other numbers: an edge occurs twice, and a number, a field and line ends are written differently
abbrev pub other_table : Bytes
other_table =
    codes "what,n,p,q,r\n"
    ++ codes "node,0,app,0.1.0,root\n"
    ++ codes "node,001,\"b\",1.0.0,third\n"
    ++ codes "edge,0,2,dev,\r\n\n"
    ++ codes "edge,2,1,normal,\n"
    ++ codes "node,2,a,1.0.0,third\n"
    ++ codes "edge,2,1,normal,"
