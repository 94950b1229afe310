-- The number of bits in the word of a set of criteria.
use Rattle.std.specs.Int.{Width, w128}

-- the type of the word; a table has at most as many criteria
abbrev pub width : Width
width = w128
