-- The tables from which files are printed (TOML 1.0.0, Keys, Array, Table; which form a value takes is ours).
use Rattle.std.specs.Prelude.{List, [], ◌∷◌, Option, Some, None, map}
use Rattle.std.specs.FinMap.{put}
use Rattle.std.specs.FinMap.Entries.{by_order}
use Rattle.std.specs.Ordering.{nat_cmp}
use Rattle.std.specs.Cmp.Lexicographic.{slice_cmp}
use Rattle.toml.specs.Data.{Data, string, array, table, Items, Members, no_members, member}
use Rattle.toml.specs.View.{items_of}
use Rattle.vet_base.specs.Names.{NameSet, members}
use Rattle.vet_base.specs.Words.{Key, Text}

-- ---- tables of known keys

-- a key and the value at it; a key without a value is left out
abbrev pub at_key : Key → Option Data → Members → Members
at_key key None rest = rest
at_key key (Some d) rest = member key d rest

-- the table of these keys, which are listed in the order of their bytes
abbrev pub fields : List (Key × Option Data) → Members
fields [] = no_members
fields (f ∷ rest) = at_key f.0 f.1 (fields rest)

-- ---- a key put into a table

-- the table with this value at a key, in the order of the keys' bytes
abbrev pub put_member : Key → Data → Members → Members
put_member key d no_members = member key d no_members
put_member key d (member k e rest) = by_order (slice_cmp nat_cmp key k) (member key d (member k e rest))
    (member k d rest) (member k e (put_member key d rest))

-- the same if there is a value, and otherwise the table unchanged
abbrev pub with_key : Members → Key → Option Data → Members
with_key ms key None = ms
with_key ms key (Some d) = put_member key d ms

-- ---- tables by name

-- the table of these names and values, as they are listed
abbrev pub members_from : List (Key × Data) → Members
members_from [] = no_members
members_from (p ∷ rest) = member p.0 p.1 (members_from rest)

-- each name and value is put in its place, in the order of the names' bytes
abbrev pub put_all : List (Key × Data) → List (Key × Data) → List (Key × Data)
put_all found [] = found
put_all found (p ∷ rest) = put_all (put (slice_cmp nat_cmp) p.0 p.1 found) rest

-- the table of these names and values, in the order of the names' bytes
abbrev pub by_name : List (Key × Data) → Members
by_name pairs = members_from (put_all [] pairs)

-- an empty table is left out
abbrev pub unless_empty : Members → Option Data
unless_empty no_members = None
unless_empty (member k d rest) = Some (table (member k d rest))

-- ---- sets

-- texts as a list
abbrev pub text_items : List Text → Items
text_items texts = items_of (map string texts)

-- a single text as a text, and any other number as a list
abbrev pub one_or_list : List Text → Data
one_or_list (t ∷ []) = string t
one_or_list texts = array (text_items texts)

-- a set, in the order of the bytes
abbrev pub set_data : NameSet → Data
set_data s = one_or_list (members s)

-- a set that is always a list
abbrev pub list_data : NameSet → Data
list_data s = array (text_items (members s))

-- an empty set is left out
abbrev pub unless_none : List Text → Data → Option Data
unless_none [] d = None
unless_none (t ∷ rest) d = Some d

abbrev pub some_set : NameSet → Option Data
some_set s = unless_none (members s) (set_data s)

abbrev pub some_list : NameSet → Option Data
some_list s = unless_none (members s) (list_data s)
