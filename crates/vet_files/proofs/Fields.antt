-- Tables of known keys: how they are built, what is found in them, and that no key of theirs is unknown.
use Rattle.std.proofs.Common.{◌≡◌, ℕ, ◌&&◌, Bool, true, List, [], ◌∷◌, ◌++◌, Option, Some, None, Ordering, Less, Equal}
use Rattle.std.proofs.Common.{Greater, nat_cmp, refl, sym, ap, ◌∙◌, append_assoc, append-nil}
use Rattle.std.specs.Cmp.Lexicographic.{slice_cmp}
use Rattle.std.specs.List.{list_all}
use Rattle.std.specs.Ordering.{is_lt, match_ordering, ordering_reverse}
use Rattle.std.proofs.lemmas.Bool.{and_parts}
use Rattle.std.proofs.lemmas.Cmp.{nat_list_cmp_total}
use Rattle.toml.specs.Data.{Data, Members, no_members, member, get_member}
use Rattle.vet_files.specs.declared.keys.TableKind.{TableKind}
use Rattle.vet_files.specs.Keys.{is_key, unknown_keys}
use Rattle.vet_files.specs.Tables.{at_key, fields, put_member, with_key}

abbrev pub Fields : Type 0
Fields = List (List ℕ × Option Data)

-- ---- built key by key

abbrev pub built : Members → Fields → Members
built ms [] = ms
built ms (f ∷ rest) = built (with_key ms f.0 f.1) rest

-- each of these keys comes before the key
abbrev pub all_before : Fields → List ℕ → Bool
all_before fs key = list_all (λ f. is_lt (slice_cmp nat_cmp f.0 key)) fs

-- and each of these behind it
abbrev pub all_after : Fields → List ℕ → Bool
all_after fs key = list_all (λ f. is_lt (slice_cmp nat_cmp key f.0)) fs

-- each key comes after those in front of it
abbrev pub rises : Fields → Fields → Bool
rises front [] = true
rises front (f ∷ rest) = all_before front f.0 && rises (front ++ f ∷ []) rest

is_less : (o : Ordering) → is_lt o ≡ true → o ≡ Less
is_less Less e = refl
is_less Equal e = cc e
is_less Greater e = cc e

after : (l k : List ℕ) → is_lt (slice_cmp nat_cmp l k) ≡ true → slice_cmp nat_cmp k l ≡ Greater
after l k e = nat_list_cmp_total.antisymm k l ∙ ap ordering_reverse (is_less (slice_cmp nat_cmp l k) e)

without_last : (front : Fields) (k : List ℕ) → fields (front ++ (k, None) ∷ []) ≡ fields front
without_last [] k = refl
without_last ((l, o) ∷ rest) k = ap (at_key l o) (without_last rest k)

put_first : (rest : Fields) (k : List ℕ) (d : Data) → all_after rest k ≡ true
    → put_member k d (fields rest) ≡ member k d (fields rest)
put_first [] k d h = refl
put_first ((l, None) ∷ rest) k d h = put_first rest k d (and_parts _ _ h).1
put_first ((l, Some e) ∷ rest) k d h =
    let (here, more) = and_parts (is_lt (slice_cmp nat_cmp k l)) (all_after rest k) h in
    rw (is_less (slice_cmp nat_cmp k l) here) refl

-- a key is put in its place among others
pub put_between : (front rest : Fields) (k : List ℕ) (d : Data) → all_before front k ≡ true → all_after rest k ≡ true
    → put_member k d (fields (front ++ rest)) ≡ fields (front ++ (k, Some d) ∷ rest)
put_between [] rest k d before behind = put_first rest k d behind
put_between ((l, None) ∷ front) rest k d before behind = put_between front rest k d (and_parts _ _ before).1 behind
put_between ((l, Some e) ∷ front) rest k d before behind =
    let (here, more) = and_parts (is_lt (slice_cmp nat_cmp l k)) (all_before front k) before in
    rw (after l k here) (ap (member l e) (put_between front rest k d more behind))

key_last : (front : Fields) (k : List ℕ) (o : Option Data) → all_before front k ≡ true
    → with_key (fields front) k o ≡ fields (front ++ (k, o) ∷ [])
key_last front k None h = sym (without_last front k)
key_last front k (Some d) h = ap (λ fs. put_member k d (fields fs)) (sym (append-nil front))
    ∙ put_between front [] k d h refl

built_from : (front rest : Fields) → rises front rest ≡ true → built (fields front) rest ≡ fields (front ++ rest)
built_from front [] h = ap fields (sym (append-nil front))
built_from front ((k, o) ∷ rest) h =
    let (here, more) = and_parts (all_before front k) (rises (front ++ (k, o) ∷ []) rest) h in
    ap (λ ms. built ms rest) (key_last front k o here) ∙ built_from (front ++ (k, o) ∷ []) rest more
    ∙ ap fields (append_assoc front ((k, o) ∷ []) rest)

-- keys that are put in their order leave the table of these keys
pub fields_built : (fs : Fields) → rises [] fs ≡ true → built no_members fs ≡ fields fs
fields_built fs h = built_from [] fs h

-- ---- what is found

-- the first value, and where there is none the later one
abbrev pub or_later : Option Data → Option Data → Option Data
or_later None first = first
or_later (Some later) None = Some later
or_later (Some later) (Some d) = Some d

abbrev pub field_at : List ℕ → Fields → Option Data
field_at key [] = None
field_at key (f ∷ rest) = match_ordering (slice_cmp nat_cmp key f.0) (field_at key rest)
    (or_later (field_at key rest) f.1) (field_at key rest)

without : (o : Ordering) (later : Option Data) → later ≡ match_ordering o later (or_later later None) later
without Less later = refl
without Equal None = refl
without Equal (Some d) = refl
without Greater later = refl

with_value : (o : Ordering) (later : Option Data) (d : Data) → match_ordering o later (Some d) later
    ≡ match_ordering o later (or_later later (Some d)) later
with_value Less later d = refl
with_value Equal None d = refl
with_value Equal (Some e) d = refl
with_value Greater later d = refl

pub get_field : (key : List ℕ) (fs : Fields) → get_member key (fields fs) ≡ field_at key fs
get_field key [] = refl
get_field key ((l, None) ∷ rest) = get_field key rest ∙ without (slice_cmp nat_cmp key l) (field_at key rest)
get_field key ((l, Some d) ∷ rest) =
    ap (λ later. match_ordering (slice_cmp nat_cmp key l) later (Some d) later) (get_field key rest)
    ∙ with_value (slice_cmp nat_cmp key l) (field_at key rest) d

-- ---- no key is unknown

abbrev pub all_known : TableKind → Fields → Bool
all_known kind fs = list_all (λ f. is_key kind f.0) fs

pub none_unknown : (kind : TableKind) (fs : Fields) → all_known kind fs ≡ true → unknown_keys kind (fields fs) ≡ 0
none_unknown kind [] h = refl
none_unknown kind ((l, None) ∷ rest) h = none_unknown kind rest (and_parts _ _ h).1
none_unknown kind ((l, Some d) ∷ rest) h =
    let (here, more) = and_parts (is_key kind l) (all_known kind rest) h in
    rw here (none_unknown kind rest more)
