-- The tables of an imports file (The Cargo Vet Book, imports.lock; what is skipped and counted is ours).
use Rattle.std.specs.Prelude.{List, [], ◌++◌, codes, Option, Some, Ok, if◌then◌else◌}
use Rattle.toml.specs.Data.{Data, Members}
use Rattle.vet_base.specs.Gives.{Told, ◌>>=◌}
use Rattle.vet_base.specs.Words.{Bytes, Name, Path}
use Rattle.vet_entries.specs.PublisherRecords.{with_any}
use Rattle.vet_files.specs.KeyNames.{AUDITS, PUBLISHER, TOP, USER_ID, USER_LOGIN, USER_NAME, VERSION, WHEN}
use Rattle.vet_files.specs.Publishers.{in_order}
use Rattle.vet_entries.specs.PeerContent.{PeerContentValue}
use Rattle.vet_entries.specs.declared.publisher.Publisher.{Publisher}
use Rattle.vet_entries.specs.declared.publisher_records.PackagePublishers.{PackagePublishers}
use Rattle.vet_files.specs.Audits.{audits_file_told, document_told, has}
use Rattle.vet_files.specs.declared.audits_file.AuditsContent.{AuditsContent}
use Rattle.vet_files.specs.declared.found.Found.{Found}
use Rattle.vet_files.specs.declared.imports_file.ImportedPeer.{ImportedPeer}
use Rattle.vet_files.specs.declared.imports_file.ImportsContent.{ImportsContent}
use Rattle.vet_files.specs.declared.keys.TableKind.TheVariants as kind
use Rattle.vet_files.specs.declared.read.whose.Whose.TheVariants.{Peers}
use Rattle.vet_files.specs.Field.{a_day, a_text, a_user, a_version, optional, required}
use Rattle.vet_files.specs.Keys.{unknown_keys}
use Rattle.vet_files.specs.Lists.{Reading, each_once, found_one, found_with, named_tables, nothing, skipped}
use Rattle.vet_files.specs.Lists.{table_at, tables_of_package}
use Rattle.vet_files.specs.Notices.{only_keys, sum_of_notices}
use Rattle.vet_files.specs.Walk.{each_member}

-- ---- `publisher`

abbrev pub publisher_of : Path → Members → Told (Found (Option Publisher))
publisher_of path ms =
    required a_version path VERSION ms >>= λ version.
    required a_day path WHEN ms >>= λ day.
    required a_user path USER_ID ms >>= λ user.
    optional a_text path USER_LOGIN ms >>= λ login. optional a_text path USER_NAME ms >>= λ name.
    Ok (found_one (record { version = version; user = user; day = day; login = login; name = name })
    (unknown_keys kind.Publisher ms))

-- the record of a table; it is skipped if it names no user
abbrev pub publisher_told : Reading Publisher
publisher_told name path ms = if has ms USER_ID then publisher_of path ms else Ok skipped

-- a package with its records, each once and in order, or nothing if it has none
abbrev pub published : Name → Found (List Publisher) → Found (List PackagePublishers)
published name found = record { content = with_any name found.content; notices = found.notices }

abbrev pub next_publishers : Found (List PackagePublishers) → Name → Data → Told (Found (List PackagePublishers))
next_publishers found name d =
    tables_of_package publisher_told PUBLISHER name d >>= λ more.
    Ok (found_with found (published name (each_once in_order more)))

abbrev pub publishers_told : Members → Told (Found (List PackagePublishers))
publishers_told ms = table_at TOP PUBLISHER ms >>= each_member next_publishers nothing

-- ---- `audits`

-- the name of a peer
abbrev pub imported_name : ImportedPeer → Name
imported_name peer = peer.name

-- a peer's file as its content
abbrev pub peer_value : AuditsContent → PeerContentValue
peer_value content = record { criteria = content.criteria; entries = content.entries }

abbrev pub peer_file_told : Path → Path → Members → Told (Found PeerContentValue)
peer_file_told path prefix ms =
    audits_file_told Peers path prefix ms >>= λ found.
    Ok (record { content = peer_value found.content; notices = found.notices })

-- a peer with its content
abbrev pub imported : Name → Found PeerContentValue → Found (Option ImportedPeer)
imported name found =
    record { content = Some (record { name = name; content = found.content }); notices = found.notices }

-- a peer whose table has this path; the paths of the tables in it begin with this prefix
abbrev pub imported_from : Name → Path → Path → Members → Told (Found (Option ImportedPeer))
imported_from name path prefix ms = peer_file_told path prefix ms >>= λ more. Ok (imported name more)

abbrev pub imported_table : Reading ImportedPeer
imported_table name path ms = imported_from name path (path ++ codes ".") ms

-- the peers, by their names
abbrev pub imported_told : Members → Told (Found (List ImportedPeer))
imported_told = named_tables imported_table AUDITS

-- ---- the files

-- the content of an imports file's table
abbrev pub imports_file_told : Members → Told (Found ImportsContent)
imports_file_told ms =
    publishers_told ms >>= λ publishers. imported_told ms >>= λ peers.
    Ok (record {
      content = record { publishers = publishers.content; peers = peers.content };
      notices = sum_of_notices (sum_of_notices publishers.notices peers.notices)
          (only_keys (unknown_keys kind.ImportsFile ms));
    })

-- the content of an imports file
abbrev pub imports_told : Bytes → Told (Found ImportsContent)
imports_told bytes = document_told bytes >>= imports_file_told

-- the content of a peer's audits file
abbrev pub peer_content_told : Bytes → Told (Found PeerContentValue)
peer_content_told bytes = document_told bytes >>= peer_file_told TOP []
