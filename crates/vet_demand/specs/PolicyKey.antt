-- The texts that are keys of policies (The Cargo Vet Book, config), how keys are printed, and their order (ours).
use Rattle.std.specs.Prelude.{ℕ, ◌==◌, Bool, [], ◌∷◌, ◌++◌, length, Option, Some, None, Ok, if◌then◌else◌}
use Rattle.std.specs.List.{position_or_len, before_first, after_first}
use Rattle.std.specs.Option.{option_cmp}
use Rattle.std.specs.Result.{result_ok}
use Rattle.std.specs.Ordering.{nat_cmp, on, then_cmp, eq_by_cmp}
use Rattle.std.specs.Cmp.Lexicographic.{slice_cmp}
use Rattle.std.specs.declared.cmp.Ordering.{Ordering}
use Rattle.vet_base.specs.Gives.{Told, found_or, ◌>>=◌}
use Rattle.vet_base.specs.Name.{read_package_name}
use Rattle.vet_base.specs.Version.{VersionValue, read_version, version_text}
use Rattle.vet_base.specs.VersionOrder.{version_cmp}
use Rattle.vet_base.specs.Words.{Name, Text}
use Rattle.vet_base.specs.declared.refusal.Refusal.TheVariants.{BadName, BadVersion}
use Rattle.vet_demand.specs.declared.policy_key.PolicyKey.{PolicyKey}

-- ---- texts

-- a byte is `:`
abbrev pub is_colon : ℕ → Bool
is_colon b = b == 58

-- the key of a package
abbrev pub plain_key : Text → Told PolicyKey
plain_key text = found_or BadName (read_package_name text) >>= (λ n. Ok (record { «package» = n; version = None }))

-- the key of one version of a package
abbrev pub versioned_key : Name → Text → Told PolicyKey
versioned_key name rest = found_or BadName (read_package_name name)
    >>= (λ n. found_or BadVersion (read_version rest) >>= (λ v. Ok (record { «package» = n; version = Some v })))

-- the key that a text states, or its refusal
abbrev pub key_told : Text → Told PolicyKey
key_told text =
    if position_or_len is_colon text == length text then plain_key text
    else versioned_key (before_first is_colon text) (after_first is_colon text)

-- the key that a text states, if it is well-formed
abbrev pub read_key : Text → Option PolicyKey
read_key text = result_ok (key_told text)

-- the text of a key
abbrev pub key_version_text : Option VersionValue → Text
key_version_text None = []
key_version_text (Some v) = 58 ∷ version_text v

abbrev pub key_text : PolicyKey → Text
key_text k = k.«package» ++ key_version_text k.version

-- ---- the order

-- by version; an absent one comes before any other
abbrev pub versions_cmp : Option VersionValue → Option VersionValue → Ordering
versions_cmp = option_cmp version_cmp

-- by the bytes of the package's name, then a key without a version before one with a version, then by version
abbrev pub policy_key_cmp : PolicyKey → PolicyKey → Ordering
policy_key_cmp = then_cmp (on (λ k. k.«package») (slice_cmp nat_cmp)) (on (λ k. k.version) versions_cmp)

-- whether two keys tie
abbrev pub policy_key_eq : PolicyKey → PolicyKey → Bool
policy_key_eq = eq_by_cmp policy_key_cmp
