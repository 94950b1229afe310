-- Entries of own and of peers, gathered one after another.
use Rattle.std.proofs.Common.{◌≡◌, ℕ, ◌+◌, ◌<◌, List, [], ◌∷◌, ◌++◌, Option, map, length, get_or, take, refl, sym, ap}
use Rattle.std.proofs.Common.{subst, ◌∙◌, arith}
use Rattle.std.specs.List.{All, flat_map}
use Rattle.std.proofs.lemmas.Grind.{flat_map-append}
use Rattle.std.proofs.lemmas.List.{append_assoc, append-nil, get_or_default, map-append, take_more}
use Rattle.std.proofs.lemmas.List.Elements.{All-append, All-cons, All-nil}
use Rattle.vet_entries.specs.declared.facts.HeldEntry.{HeldEntry}
use Rattle.vet_entries.specs.declared.held_peer.HeldPeer.{HeldPeer}
use Rattle.vet_entries.specs.declared.package_entries.Taken.{Taken}
use Rattle.vet_entries.specs.ByPackage.{gathered}
use Rattle.vet_entries.specs.Source.{sourced_at}
use Rattle.vet_entries.specs.Step.{SourcedEntry}
use Rattle.vet_entries.specs.Taken.{all_sourced, peer_at, sourced_entry}
use Rattle.vet_entries.proofs.Gathered.{gathered_upto}

-- the entries at the places up to one
pub sourced_upto : (peer : Option HeldPeer) (entries : List HeldEntry) (places : List ℕ) (i : ℕ) (x : HeldEntry)
    → i < length places → get_or places i 0 < length entries → x ≡ get_or entries (get_or places i 0) x
    → sourced_at peer entries (take (i + 1) places) ≡ sourced_at peer entries (take i places) ++
    (let e : SourcedEntry = record { peer = peer; held = x } in e ∷ [])
sourced_upto peer entries places i x m l is =
    let give : HeldEntry → SourcedEntry = λ h. record { peer = peer; held = h } in
    ap (map give) (gathered_upto entries places i x m l is) ∙ map-append give (gathered entries (take i places))
    (x ∷ [])

-- one more entry is taken
pub one_more_sourced : (peers : List HeldPeer) (peer : Option HeldPeer) (entries : List HeldEntry) (places : List ℕ)
    (i : ℕ) (x : HeldEntry) (before : List SourcedEntry) (taken more : List Taken) (t : Taken)
    → i < length places → get_or places i 0 < length entries → x ≡ get_or entries (get_or places i 0) x
    → more ≡ taken ++ t ∷ [] → peer_at peers t.peer ≡ peer → t.held.now ≡ x
    → all_sourced peers taken ≡ before ++ sourced_at peer entries (take i places)
    → all_sourced peers more ≡ before ++ sourced_at peer entries (take (i + 1) places)
one_more_sourced peers peer entries places i x before taken more t m l is push whose held known =
    let e : SourcedEntry = record { peer = peer; held = x } in
    let same : sourced_entry peers t ≡ e = λ j. record { peer = whose j; held = held j } in
    ap (all_sourced peers) push
    ∙ map-append (sourced_entry peers) taken (t ∷ [])
    ∙ (λ j. known j ++ same j ∷ [])
    ∙ append_assoc before (sourced_at peer entries (take i places)) (e ∷ [])
    ∙ ap (λ es. before ++ es) (sym (sourced_upto peer entries places i x m l is))

-- one more passes
pub All-push : {X : Type 0} (P : X → Type 0) (xs more : List X) (x : X) → more ≡ xs ++ x ∷ [] → All P xs → P x
    → All P more
All-push P xs more x push all h =
    subst (All P) (sym push) (All-append P xs (x ∷ []) all (All-cons P x [] h (All-nil P)))

-- what one more item gives
pub one_more_given : {X Y : Type 0} (give : X → List Y) (xs : List X) (i : ℕ) (before old new : List Y) → i < length xs
    → ((d : X) → new ≡ old ++ give (get_or xs i d)) → old ≡ before ++ flat_map give (take i xs)
    → new ≡ before ++ flat_map give (take (i + 1) xs)
one_more_given give [] i before old new l more so_far = absurd (omega (arith, l))
one_more_given {X} {Y} give (x ∷ xs) i before old new l more so_far =
    let y = get_or (x ∷ xs) i x in
    more x
    ∙ ap (λ ys. ys ++ give y) so_far
    ∙ append_assoc before (flat_map give (take i (x ∷ xs))) (give y)
    ∙ ap (λ (ys : List Y). before ++ ys)
    (ap (λ ys. flat_map give (take i (x ∷ xs)) ++ ys) (sym (append-nil (give y)))
    ∙ sym (flat_map-append give (take i (x ∷ xs)) (y ∷ []))
    ∙ ap (flat_map give) (sym (take_more (x ∷ xs) i x l)))

-- the same, where the item was read
pub one_more_read : {X Y : Type 0} (give : X → List Y) (xs : List X) (i : ℕ) (x : X) (before : List Y) → i < length xs
    → x ≡ get_or xs i x
    → (before ++ flat_map give (take i xs)) ++ give x ≡ before ++ flat_map give (take (i + 1) xs)
one_more_read {X} {Y} give xs i x before l is =
    let old : List Y = before ++ flat_map give (take i xs) in
    one_more_given give xs i before old (old ++ give x) l
    (λ d. ap (λ y. old ++ give y) (is ∙ get_or_default xs i x d l)) refl
