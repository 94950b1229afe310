-- Names for lists of numbers, by their contents (ours).
use Rattle.std.specs.Prelude.{ℕ, List}

-- the bytes of a document
abbrev pub Bytes : Type 0
Bytes = List ℕ

-- the bytes of a text
abbrev pub Text : Type 0
Text = List ℕ

-- the text of a name: of a package, a project, a criterion, a peer or a member
abbrev pub Name : Type 0
Name = List ℕ

-- the text of a key in a table of a document
abbrev pub Key : Type 0
Key = List ℕ

-- the text of a path, which says where a table is in a document
abbrev pub Path : Type 0
Path = List ℕ
