-- What is told of a text that is to be a key of a policy.
use Rattle.std.proofs.Common.{◌≡◌, ℕ, ◌<◌, ◌==◌, Bool, true, false, cond, List, length, Option, Some, None, Ok, Err}
use Rattle.std.proofs.Common.{IfErr, refl, sym, ap, ◌∙◌, arith, ne_eqb}
use Rattle.std.specs.List.{position_or_len, before_first, after_first}
use Rattle.std.specs.Result.{result_ok}
use Rattle.std.proofs.lemmas.Bool.{cond-false}
use Rattle.vet_base.specs.Gives.{Told, found_or, ◌>>=◌}
use Rattle.vet_base.specs.Name.{read_package_name}
use Rattle.vet_base.specs.Version.{VersionValue, read_version}
use Rattle.vet_base.specs.declared.refusal.Refusal.{Refusal}
use Rattle.vet_base.specs.declared.refusal.Refusal.TheVariants.{BadName, BadVersion, NoMemory}
use Rattle.vet_demand.specs.declared.policy_key.PolicyKey.{PolicyKey}
use Rattle.vet_demand.specs.PolicyKey.{is_colon, key_told, plain_key, read_key, versioned_key}

-- a key of what was read as a name and as a version
abbrev key_of_name : Option (List ℕ) → Told PolicyKey
key_of_name n = found_or BadName n >>= (λ m. Ok (record { «package» = m; version = None }))

abbrev key_of_parts : Option (List ℕ) → Option VersionValue → Told PolicyKey
key_of_parts n v = found_or BadName n
    >>= (λ m. found_or BadVersion v >>= (λ w. Ok (record { «package» = m; version = Some w })))

parts_refused : (n : Option (List ℕ)) (v : Option VersionValue) (d : Refusal) → (n ≡ None → ⊥)
    → (v ≡ None → d ≡ BadVersion)
    → IfErr (key_of_parts n v) (λ e. ◌≡◌ {A = Told PolicyKey} (Err d) (Err e))
parts_refused None v d some bad = absurd (some refl)
parts_refused (Some n) None d some bad = ap (λ (x : Refusal). Err x) (bad refl)
parts_refused (Some n) (Some v) d some bad = tt

-- where the name is one, a refusal is that of the version
pub version_refused : (name version : List ℕ) (d : Refusal) → (read_package_name name ≡ None → ⊥)
    → (read_version version ≡ None → d ≡ BadVersion)
    → IfErr (versioned_key name version) (λ e. ◌≡◌ {A = Told PolicyKey} (Err d) (Err e))
version_refused name version d = parts_refused (read_package_name name) (read_version version) d

-- what is told of a text with a `:`
pub told_at_colon : (text name version : List ℕ) → position_or_len is_colon text < length text
    → name ≡ before_first is_colon text
    → version ≡ after_first is_colon text → key_told text ≡ versioned_key name version
told_at_colon text name version has first rest =
    cond-false (position_or_len is_colon text == length text) (plain_key text)
    (versioned_key (before_first is_colon text) (after_first is_colon text))
    (ne_eqb _ _ (λ e. omega (arith, has, e)))
    ∙ sym (λ i. versioned_key (first i) (rest i))

never_memory : (b : Bool) (n m : Option (List ℕ)) (v : Option VersionValue)
    → IfErr (cond b (key_of_name n) (key_of_parts m v)) (λ e. e ≡ NoMemory → ⊥)
never_memory true None m v = λ h. cc h
never_memory true (Some n) m v = tt
never_memory false n None v = λ h. cc h
never_memory false n (Some m) None = λ h. cc h
never_memory false n (Some m) (Some v) = tt

clash : (told : Told PolicyKey) (d : Refusal) → IfErr told (λ e. e ≡ NoMemory → ⊥)
    → IfErr told (λ e. ◌≡◌ {A = Told PolicyKey} (Err d) (Err e))
    → d ≡ NoMemory → result_ok told ≡ None → ⊥
clash (Ok k) d h g m none = cc none
clash (Err e) d h g m none = h (cc (g, m))

-- a text that is no key is not refused because memory ran out
pub not_for_memory : (text : List ℕ) (d : Refusal)
    → IfErr (key_told text) (λ e. ◌≡◌ {A = Told PolicyKey} (Err d) (Err e)) → d ≡ NoMemory
    → read_key text ≡ None → ⊥
not_for_memory text d =
    clash (key_told text) d (never_memory (position_or_len is_colon text == length text) (read_package_name text)
    (read_package_name (before_first is_colon text)) (read_version (after_first is_colon text)))
