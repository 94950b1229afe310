use Rattle.std.proofs.Common.{◌≡◌, ◌<◌, ◌+◌, ℕ, List, ◌∷◌, true, false, length, get_or, refl, drop, sym, ap, ◌∙◌}
use Rattle.std.proofs.lemmas.List.{drop_more}
use Rattle.std.specs.Str.{bytes_eq}
use Rattle.vet_entries.specs.declared.peer_settings.PeerSettings.{PeerSettings}
use Rattle.vet_files.specs.ImportsTable.{excluded_of}
use Rattle.vet_files.proofs.write.imports_table.excluded.Goals as goal

-- those left are the one that is looked at and the rest
left : (xs : List PeerSettings) (i : ℕ) (x : PeerSettings) → i < length xs → x ≡ get_or xs i x
    → drop i xs ≡ x ∷ drop (i + 1) xs
left xs i x low at = drop_more xs i x low ∙ ap (λ (y : PeerSettings). y ∷ drop (i + 1) xs) (sym at)

pub returns-then-eq : goal.returns-then-eq
returns-then-eq c =
    let rest = left c.args.settings.now c.peers.peer-index c.peer-item.result c.peers-test.true c.peer-item.is in
    let same : bytes_eq c.args.name.now c.peer-item.result.name ≡ true = sym c.eq.ensures ∙ c.if-eq.true in
    rw (← c.peers.invariant, rest, same) refl

pub peers-preserved : goal.peers-preserved
peers-preserved c =
    let xs = c.args.settings.now in
    let name = c.args.name.now in
    let rest = left xs c.peers.peer-index c.peer-item.result c.peers-test.true c.peer-item.is in
    let other : bytes_eq name c.peer-item.result.name ≡ false = sym c.eq.ensures ∙ c.if-eq.false in
    let next : excluded_of (drop c.peers.peer-index xs) name ≡ excluded_of (drop (c.peers.peer-index + 1) xs) name =
    rw (rest, other) refl in
    sym next ∙ c.peers.invariant
