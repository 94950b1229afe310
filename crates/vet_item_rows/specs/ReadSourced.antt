-- One's own items, and those of peers (ours).
use Rattle.std.specs.Prelude.{List, [], ◌∷◌, Option, Some, None}
use Rattle.vet_base.specs.Words.{Name}
use Rattle.vet_entries.specs.declared.entry.Source.{Source}
use Rattle.vet_entries.specs.declared.entry.Source.TheVariants.{Own, Peer}
use Rattle.vet_item_rows.specs.declared.read.gathered.WithKey.{WithKey}
use Rattle.std.specs.List.{flat_map}

-- the peer, if it is one
abbrev pub peer_in : Source → Option Name
peer_in Own = None
peer_in (Peer name) = Some name

-- an item of one's own, and one of a peer under its name: or nothing
abbrev pub own_of : {X : Type 0} → Option Name → X → List X
own_of None x = x ∷ []
own_of (Some name) x = []

abbrev pub filed_of : {X : Type 0} → Option Name → X → List (WithKey Name X)
filed_of None x = []
filed_of (Some name) x = (record { key = name; item = x }) ∷ []

abbrev pub own_one : {X : Type 0} → (X → Source) → X → List X
own_one source_of x = own_of (peer_in (source_of x)) x

abbrev pub of_peers_one : {X : Type 0} → (X → Source) → X → List (WithKey Name X)
of_peers_one source_of x = filed_of (peer_in (source_of x)) x

-- those of some items that are one's own, and those of peers
abbrev pub own_items : {X : Type 0} → (X → Source) → List X → List X
own_items source_of xs = flat_map (own_one source_of) xs

abbrev pub of_peers : {X : Type 0} → (X → Source) → List X → List (WithKey Name X)
of_peers source_of xs = flat_map (of_peers_one source_of) xs
