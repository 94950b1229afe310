-- What is written of a publisher record is read again as the record.
use Rattle.std.proofs.Common.{◌≡◌, ℕ, pos, List, [], ◌∷◌, ◌++◌, Ok, codes, ap, refl}
use Rattle.std.specs.Option.{IfSome}
use Rattle.toml.specs.Data.{integer, item, push_item, string, table}
use Rattle.vet_base.specs.Day.{day_text}
use Rattle.vet_base.specs.Version.{version_text}
use Rattle.vet_entries.specs.declared.publisher.Publisher.{Publisher}
use Rattle.vet_files.specs.declared.keys.TableKind.TheVariants as kind
use Rattle.vet_files.specs.Field.{a_day, a_text, a_user, a_version}
use Rattle.vet_files.specs.Imports.{publisher_told}
use Rattle.vet_files.specs.ImportsTable.{publisher_fields, publisher_items, publisher_table}
use Rattle.vet_files.specs.Lists.{found_one}
use Rattle.vet_files.specs.ReadAgain.{IsReadAs}
use Rattle.vet_files.proofs.Fields.{get_field, none_unknown}
use Rattle.vet_files.proofs.KeysRead.{optional_read, required_read}

pub publisher_read : (p : Publisher) → IsReadAs a_user (integer (pos p.user)) p.user
    → IfSome p.login (λ x. IsReadAs a_text (string x) x)
    → IfSome p.name (λ x. IsReadAs a_text (string x) x) → IsReadAs a_version (string (version_text p.version)) p.version
    → IsReadAs a_day (string (day_text p.day)) p.day → (name path : List ℕ)
    → publisher_told name path (publisher_table p) ≡ Ok (found_one p 0)
publisher_read p user login full version day name path =
    let fs = publisher_fields p in
    let ms = publisher_table p in
    let versions = required_read a_version (λ v. string (version_text v)) path (codes "version") ms p.version
    (get_field (codes "version") fs) version in
    let days = required_read a_day (λ d. string (day_text d)) path (codes "when") ms p.day (get_field (codes "when") fs)
    day in
    let users = required_read a_user (λ u. integer (pos u)) path (codes "user-id") ms p.user
    (get_field (codes "user-id") fs) user in
    let logins = optional_read a_text string path (codes "user-login") ms p.login (get_field (codes "user-login") fs)
    login in
    let names = optional_read a_text string path (codes "user-name") ms p.name (get_field (codes "user-name") fs) full
    in
    rw (get_field (codes "user-id") fs)
    (rw (versions, days, users, logins, names, none_unknown kind.Publisher fs refl) refl)

-- one more record
pub publisher_items-push : (ps : List Publisher) (p : Publisher)
    → push_item (publisher_items ps) (table (publisher_table p)) ≡ publisher_items (ps ++ p ∷ [])
publisher_items-push [] p = refl
publisher_items-push (q ∷ ps) p = ap (item (table (publisher_table q))) (publisher_items-push ps p)
