-- The documents of the commands to peers (The Cargo Vet Book, config file: imports; the order of the keys is ours).
use Rattle.std.specs.Prelude.{[], ◌∷◌, Ok}
use Rattle.std.specs.FinMap as map
use Rattle.toml.specs.Data.{Data, Members}
use Rattle.vet_base.specs.Gives.{Told, found_or, ◌>>=◌}
use Rattle.vet_base.specs.Name.{read_name}
use Rattle.vet_base.specs.Words.{Key}
use Rattle.vet_base.specs.declared.refusal.Refusal.TheVariants.{BadName}
use Rattle.vet_entries.specs.CriteriaMap.{NamesByName}
use Rattle.vet_entries.specs.declared.peer_settings.PeerSettings.{PeerSettings}
use Rattle.vet_files.specs.Audits.{or_none}
use Rattle.vet_files.specs.Field.{optional, required, texts}
use Rattle.vet_files.specs.Imports.{peer_content_told}
use Rattle.vet_files.specs.KeyNames.{AUDITS, CRITERIA_MAP, EXCLUDE, URL}
use Rattle.vet_files.specs.Lists.{table_at}
use Rattle.vet_files.specs.Walk.{each_member}
use Rattle.vet_documents.specs.DocumentField.{a_name, any_text, names, only, package_names}
use Rattle.vet_documents.specs.DocumentKeys.{COMMAND, PEER}
use Rattle.vet_register.specs.declared.command.Action.{Action}
use Rattle.vet_register.specs.declared.command.Action.TheVariants.{DropPeer, ImportPeer, SetPeer}

-- the map with one more criterion of the peer, and its names
abbrev pub next_mapped : NamesByName → Key → Data → Told NamesByName
next_mapped found key d =
    found_or BadName (read_name key) >>= λ name.
    names CRITERIA_MAP key d >>= λ criteria.
    Ok (map.insert found name criteria)

-- the map of a peer; an absent one has no items
abbrev pub mapped_told : Members → Told NamesByName
mapped_told ms = table_at COMMAND CRITERIA_MAP ms >>= each_member next_mapped map.empty

-- the settings of a peer
abbrev pub settings_told : Members → Told PeerSettings
settings_told ms =
    required a_name COMMAND PEER ms >>= λ name.
    required texts COMMAND URL ms >>= λ url.
    optional package_names COMMAND EXCLUDE ms >>= λ exclude.
    mapped_told ms >>= λ mapped.
    Ok (record { name = name; url = url; exclude = or_none exclude; map = mapped })

abbrev pub set_peer_told : Members → Told Action
set_peer_told ms =
    settings_told ms >>= λ settings.
    only (PEER ∷ URL ∷ EXCLUDE ∷ CRITERIA_MAP ∷ []) ms >>= λ _.
    Ok (SetPeer settings)

abbrev pub drop_peer_told : Members → Told Action
drop_peer_told ms =
    required a_name COMMAND PEER ms >>= λ name.
    only (PEER ∷ []) ms >>= λ _.
    Ok (DropPeer name)

-- the audits file of a peer is read only if nothing else is at fault
abbrev pub import_peer_told : Members → Told Action
import_peer_told ms =
    required a_name COMMAND PEER ms >>= λ name.
    required any_text COMMAND AUDITS ms >>= λ file.
    only (PEER ∷ AUDITS ∷ []) ms >>= λ _.
    peer_content_told file >>= λ found.
    Ok (ImportPeer name found.content)
