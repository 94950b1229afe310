-- Lists of entries in which each occurs once (ours).
use Rattle.std.specs.Prelude.{Bool, not, List, [], ◌∷◌, if◌then◌else◌}
use Rattle.std.specs.List.{list_any}
use Rattle.vet_entries.specs.declared.entry.Entry.{Entry}
use Rattle.vet_entries.specs.Entry.{entry_eq}

-- the entries that are not among those seen before, each at its first place
abbrev pub firsts : List Entry → List Entry → List Entry
firsts seen [] = []
firsts seen (e ∷ es) = if list_any (entry_eq e) seen then firsts seen es else e ∷ firsts (e ∷ seen) es

-- each entry once, at its first place, in order
abbrev pub distinct : List Entry → List Entry
distinct es = firsts [] es

-- for each entry, whether it is neither among those seen before nor among those before it
abbrev pub are_firsts : List Entry → List Entry → List Bool
are_firsts seen [] = []
are_firsts seen (e ∷ es) = not (list_any (entry_eq e) seen) ∷ are_firsts (e ∷ seen) es
