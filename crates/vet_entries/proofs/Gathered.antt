-- Entries gathered from some places, one after another.
use Rattle.std.proofs.Common.{◌≡◌, ℕ, ◌+◌, ◌<◌, List, [], ◌∷◌, ◌++◌, length, get_or, take, drop, refl, ap, ◌∙◌}
use Rattle.std.specs.List.{cons_option, slice_get}
use Rattle.std.proofs.lemmas.List.{at_drop_more, take_more}
use Rattle.std.proofs.lemmas.List.Elements.{filter_map-append}
use Rattle.std.proofs.lemmas.Option.{slice_get_read}
use Rattle.vet_entries.specs.declared.facts.HeldEntry.{HeldEntry}
use Rattle.vet_entries.specs.ByPackage.{gathered}

gathered_first : (entries : List HeldEntry) (place : ℕ) (places : List ℕ) (x : HeldEntry) → place < length entries
    → x ≡ get_or entries place x → gathered entries (place ∷ places) ≡ x ∷ gathered entries places
gathered_first entries place places x l is = ap (λ o. cons_option o (gathered entries places))
    (slice_get_read entries (length entries) place x refl l is)

-- the entries at the places from one on
pub gathered_from : (entries : List HeldEntry) (places : List ℕ) (i : ℕ) (x : HeldEntry) → i < length places
    → get_or places i 0 < length entries → x ≡ get_or entries (get_or places i 0) x
    → gathered entries (drop i places) ≡ x ∷ gathered entries (drop (i + 1) places)
gathered_from entries places i x m l is =
    at_drop_more (gathered entries) places i 0 m ∙ gathered_first entries (get_or places i 0) (drop (i + 1) places) x l
    is

-- the entries at the places up to one
pub gathered_upto : (entries : List HeldEntry) (places : List ℕ) (i : ℕ) (x : HeldEntry) → i < length places
    → get_or places i 0 < length entries → x ≡ get_or entries (get_or places i 0) x
    → gathered entries (take (i + 1) places) ≡ gathered entries (take i places) ++ x ∷ []
gathered_upto entries places i x m l is =
    ap (gathered entries) (take_more places i 0 m)
    ∙ filter_map-append (slice_get entries) (take i places) (get_or places i 0 ∷ [])
    ∙ ap (λ hs. gathered entries (take i places) ++ hs) (gathered_first entries (get_or places i 0) [] x l is)
