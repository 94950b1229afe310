-- Equality of criteria (ours).
use Rattle.std.specs.Prelude.{◌&&◌, Bool, Option, nat_eq}
use Rattle.std.specs.Option.{option_eq}
use Rattle.std.specs.Cmp.Lexicographic.{pointwise}
use Rattle.vet_base.specs.declared.criterion.Criterion.{Criterion}
use Rattle.vet_base.specs.Names.{same_names}
use Rattle.vet_base.specs.Words.{Name, Text}

-- the name of a criterion
abbrev pub criterion_name : Criterion → Name
criterion_name c = c.name

-- two texts are the same, or both are absent
abbrev pub same_text : Option Text → Option Text → Bool
same_text = option_eq (pointwise nat_eq)

-- the name, the description, the url and the implied names are the same
abbrev pub criterion_eq : Criterion → Criterion → Bool
criterion_eq a b =
    pointwise nat_eq a.name b.name && same_text a.description b.description && same_text a.url b.url
    && same_names a.implies b.implies
