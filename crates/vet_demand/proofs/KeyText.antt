-- The text of a key is read as that key: a package's name has no `:`.
use Rattle.std.proofs.Common.{◌≡◌, ℕ, suc, ◌+◌, ◌<◌, ◌==◌, nat_le, ◌&&◌, true, false, List, [], ◌∷◌, ◌++◌, length, take}
use Rattle.std.proofs.Common.{drop, Option, Some, None, Ok, refl, sym, ap, subst, ◌∙◌, arith, eq-eqb}
use Rattle.std.specs.List.{list_all, position_or_len, before_first, after_first}
use Rattle.std.specs.Result.{result_ok}
use Rattle.std.proofs.Math.Numerals.{one-add}
use Rattle.std.proofs.Math.Seq.{take-append_seam}
use Rattle.std.proofs.lemmas.Bool.{and_parts, cond-true}
use Rattle.std.proofs.lemmas.Bool.Decides.{nat_tests}
use Rattle.std.proofs.lemmas.List.{append-nil, length-append}
use Rattle.vet_base.specs.Gives.{Told, found_or, ◌>>=◌}
use Rattle.vet_base.specs.Name.{is_package_byte, is_package_name, read_package_name}
use Rattle.vet_base.specs.Version.{VersionValue, read_version, version_text}
use Rattle.vet_base.specs.declared.refusal.Refusal.TheVariants.{BadName, BadVersion}
use Rattle.vet_demand.specs.declared.policy_key.PolicyKey.{PolicyKey}
use Rattle.vet_demand.specs.PolicyKey.{is_colon, key_text, key_told, key_version_text, plain_key, read_key}
use Rattle.vet_demand.specs.PolicyKey.{versioned_key}
use Rattle.vet_demand.proofs.KeyLemmas.{told_at_colon}

no_colon : (b : ℕ) → is_package_byte b ≡ true → is_colon b ≡ false
no_colon b h = grind (arith, nat_tests)

colon_place : (n rest : List ℕ) → list_all is_package_byte n ≡ true
    → position_or_len is_colon (n ++ 58 ∷ rest) ≡ length n
colon_place [] rest h = refl
colon_place (b ∷ n) rest h =
    let (here, more) = and_parts (is_package_byte b) (list_all is_package_byte n) h in
    simp (no_colon b here, one-add) (ap suc (colon_place n rest more))

colon_none : (n : List ℕ) → list_all is_package_byte n ≡ true → position_or_len is_colon n ≡ length n
colon_none [] h = refl
colon_none (b ∷ n) h =
    let (here, more) = and_parts (is_package_byte b) (list_all is_package_byte n) h in
    simp (no_colon b here, one-add) (ap suc (colon_none n more))

drop_front : (v rest : List ℕ) (b : ℕ) → drop (length v + 1) (v ++ b ∷ rest) ≡ rest
drop_front [] rest b = refl
drop_front (x ∷ v) rest b =
    let e : length (x ∷ v) + 1 ≡ suc (length v + 1) = omega arith in
    rw e (drop_front v rest b)

bytes_of : (n : List ℕ) → is_package_name n ≡ true → list_all is_package_byte n ≡ true
bytes_of n h = (and_parts (nat_le 1 (length n) && nat_le (length n) 64) (list_all is_package_byte n) h).1

name_read : (n : List ℕ) → is_package_name n ≡ true → read_package_name n ≡ Some n
name_read n h = cond-true (is_package_name n) (Some n) None h

plain_back : (n : List ℕ) → is_package_name n ≡ true
    → read_key (n ++ []) ≡ Some (record { «package» = n; version = None })
plain_back n h =
    let none = colon_none n (bytes_of n h) in
    let plain : key_told n ≡ plain_key n =
    cond-true (position_or_len is_colon n == length n) (plain_key n)
    (versioned_key (before_first is_colon n) (after_first is_colon n)) (eq-eqb _ _ none) in
    let key : plain_key n ≡ Ok (record { «package» = n; version = None }) =
    ap (λ (o : Option (List ℕ)). let t : Told PolicyKey = found_or BadName o
    >>= (λ m. Ok (record { «package» = m; version = None })) in t) (name_read n h) in
    ap read_key (append-nil n) ∙ ap result_ok (plain ∙ key)

versioned_back : (n : List ℕ) (v : VersionValue) → is_package_name n ≡ true → read_version (version_text v) ≡ Some v
    → read_key (n ++ 58 ∷ version_text v) ≡ Some (record { «package» = n; version = Some v })
versioned_back n v h back =
    let text = n ++ 58 ∷ version_text v in
    let at : position_or_len is_colon text ≡ length n = colon_place n (version_text v) (bytes_of n h) in
    let has : position_or_len is_colon text < length text = omega (arith, at, length-append n (58 ∷ version_text v)) in
    let front : n ≡ before_first is_colon text =
    sym (ap (λ k. take k text) at ∙ take-append_seam n (58 ∷ version_text v)) in
    let rest : version_text v ≡ after_first is_colon text =
    sym (ap (λ k. drop (k + 1) text) at ∙ drop_front n (version_text v) 58) in
    let key : versioned_key n (version_text v) ≡ Ok (record { «package» = n; version = Some v }) =
    λ i. (let t : Told PolicyKey = found_or BadName (name_read n h i)
    >>= (λ m. found_or BadVersion (back i) >>= (λ w. Ok (record { «package» = m; version = Some w }))) in t) in
    ap result_ok (told_at_colon text n (version_text v) has front rest ∙ key)

pub key_back : (k : PolicyKey) → is_package_name k.«package» ≡ true
    → ((v : VersionValue) → k.version ≡ Some v → read_version (version_text v) ≡ Some v)
    → read_key (key_text k) ≡ Some k
key_back k h back = by k.version refl
  where
    with_version : Option VersionValue → Type 0
    with_version o = read_key (k.«package» ++ key_version_text o) ≡ Some
        (record { «package» = k.«package»; version = o })

    by : (o : Option VersionValue) → k.version ≡ o → read_key (key_text k) ≡ Some k
    by None e = subst with_version (sym e) (plain_back k.«package» h)
    by (Some v) e = subst with_version (sym e) (versioned_back k.«package» v h (back v e))
