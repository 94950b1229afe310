-- The settings of a peer: their key, and their equality (ours).
use Rattle.std.specs.Prelude.{◌&&◌, Bool}
use Rattle.std.specs.Str.{bytes_eq}
use Rattle.vet_base.specs.Names.{same_names}
use Rattle.vet_base.specs.Words.{Name}
use Rattle.vet_entries.specs.declared.peer_settings.PeerSettings.{PeerSettings}
use Rattle.vet_entries.specs.CriteriaMap.{map_eq}

-- the name of the peer
abbrev pub settings_name : PeerSettings → Name
settings_name settings = settings.name

-- whether two have the same peer, urls, excluded packages and map
abbrev pub settings_eq : PeerSettings → PeerSettings → Bool
settings_eq a b = bytes_eq a.name b.name &&
    (same_names a.url b.url && (same_names a.exclude b.exclude && map_eq a.map b.map))
