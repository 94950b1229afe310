-- The keys that each table of the three files may have (The Cargo Vet Book, audits, config and imports files).
use Rattle.std.specs.Prelude.{ℕ, suc, Bool, List, [], ◌∷◌, if◌then◌else◌}
use Rattle.std.specs.List.{list_any}
use Rattle.std.specs.Str.{bytes_eq}
use Rattle.toml.specs.Data.{Members, no_members, member}
use Rattle.vet_base.specs.Words.{Key}
use Rattle.vet_files.specs.KeyNames.{AUDITS, AUDIT_AS_CRATES_IO, CARGO_VET, CRITERIA, CRITERIA_MAP, DEFAULT_CRITERIA}
use Rattle.vet_files.specs.KeyNames.{DELTA, DEPENDENCY_CRITERIA, DESCRIPTION, DESCRIPTION_URL, DEV_CRITERIA, END}
use Rattle.vet_files.specs.KeyNames.{EXCLUDE, EXEMPTIONS, IMPLIES, IMPORTABLE, IMPORTS, NOTES, POLICY, PUBLISHER, RENEW}
use Rattle.vet_files.specs.KeyNames.{START, SUGGEST, TRUSTED, URL, USER_ID, USER_LOGIN, USER_NAME, VERSION, VIOLATION}
use Rattle.vet_files.specs.KeyNames.{WHEN, WHO, WILDCARD_AUDITS}
use Rattle.vet_files.specs.declared.keys.TableKind.{TableKind}
use Rattle.vet_files.specs.declared.keys.TableKind.TheVariants as kind

-- the keys for which a table of a kind has a meaning
abbrev pub keys_of : TableKind → List Key
keys_of kind.AuditsFile = CRITERIA ∷ AUDITS ∷ WILDCARD_AUDITS ∷ TRUSTED ∷ []
keys_of kind.Criterion = DESCRIPTION ∷ DESCRIPTION_URL ∷ IMPLIES ∷ []
keys_of kind.Audit = CRITERIA ∷ VERSION ∷ DELTA ∷ VIOLATION ∷ WHO ∷ NOTES ∷ IMPORTABLE ∷ []
keys_of kind.Wildcard = CRITERIA ∷ USER_ID ∷ START ∷ END ∷ WHO ∷ RENEW ∷ NOTES ∷ []
keys_of kind.Trusted = CRITERIA ∷ USER_ID ∷ START ∷ END ∷ NOTES ∷ []
keys_of kind.ConfigFile = CARGO_VET ∷ DEFAULT_CRITERIA ∷ IMPORTS ∷ POLICY ∷ EXEMPTIONS ∷ []
keys_of kind.CargoVet = VERSION ∷ []
keys_of kind.Peer = URL ∷ EXCLUDE ∷ CRITERIA_MAP ∷ []
keys_of kind.Policy = AUDIT_AS_CRATES_IO ∷ CRITERIA ∷ DEV_CRITERIA ∷ DEPENDENCY_CRITERIA ∷ NOTES ∷ []
keys_of kind.Exemption = VERSION ∷ CRITERIA ∷ SUGGEST ∷ NOTES ∷ []
keys_of kind.ImportsFile = PUBLISHER ∷ AUDITS ∷ []
keys_of kind.Publisher = VERSION ∷ WHEN ∷ USER_ID ∷ USER_LOGIN ∷ USER_NAME ∷ []

-- whether a table of a kind has a meaning for a key
abbrev pub is_key : TableKind → Key → Bool
is_key kind key = list_any (λ k. bytes_eq k key) (keys_of kind)

-- the number of a table's keys that have no meaning; each counts once, with all that is below it
abbrev pub unknown_keys : TableKind → Members → ℕ
unknown_keys kind no_members = 0
unknown_keys kind (member k d rest) = if is_key kind k then unknown_keys kind rest else suc (unknown_keys kind rest)
