-- Names, versions and requirements that can be held are texts.
use Rattle.std.proofs.Common.{◌≡◌, ◌==◌, IsUtf8, List, [], ◌∷◌, nat_lt, Option, Some, None}
use Rattle.std.proofs.Common.{Result, Ok, Err, length, true}
use Rattle.std.proofs.Common.{option_map, refl, subst, inl, inr, ℕ}
use Rattle.std.proofs.lemmas.Bool.{cases_Bool}
use Rattle.std.proofs.lemmas.Option.{same_Some}
use Rattle.std.proofs.lemmas.Str.{IsUtf8-from_ascii, IsUtf8-from_is_utf8}
use Rattle.std.specs.List.{after_first, before_first, list_all, position_or_len}
use Rattle.std.specs.Result.{result_ok}
use Rattle.std.specs.Str.{is_utf8}
use Rattle.semver.specs.Parse.{Held, req_of}
use Rattle.semver.specs.declared.error.Error.{Error}
use Rattle.vet_base.specs.Gives.{Told, found_or, ◌>>=◌}
use Rattle.vet_base.specs.Name.{is_package_name, read_package_name}
use Rattle.vet_base.specs.Name as name
use Rattle.vet_base.specs.Req.{IsReq}
use Rattle.vet_base.specs.Version.{IsVersion, VersionValue, read_version, version_text}
use Rattle.vet_base.specs.Words.{Bytes, Name, Text}
use Rattle.vet_base.specs.declared.limits.TheConstants.{MOST_REQ_BYTES}
use Rattle.vet_base.specs.declared.refusal.Refusal.TheVariants.{BadName, BadVersion}
use Rattle.vet_demand.proofs.PlainFields.{is_plain, plain_append, plain_name, plain_utf8, plain_version}
use Rattle.vet_demand.specs.PolicyKey.{is_colon, key_text, key_told, plain_key, read_key, versioned_key}
use Rattle.vet_demand.specs.declared.policy_key.PolicyKey.{PolicyKey}
use Rattle.vet_item_rows.specs.PackedItems.{as_text}
use Rattle.vet_item_rows.specs.Values.{IsName, IsPackage}
use Rattle.vet_store.proofs.ReqTexts.{req_ascii}

-- ---- names

read_as_text : {X : Type 0} (read : Text → Option X) (bytes : Bytes) (x : X) → as_text read bytes ≡ Some x
    → IsUtf8 bytes
read_as_text read bytes x h = elim (cases_Bool (is_utf8 bytes)) [
  | inl text ↦ IsUtf8-from_is_utf8 bytes text
  | inr other ↦ cc (rw other at h)
]

pub name_text : (n : Name) → IsName n → IsUtf8 n
name_text n h = read_as_text name.read_name n n h

pub package_text : (n : Name) → IsPackage n → IsUtf8 n
package_text n h = read_as_text name.read_package_name n n h

-- ---- versions and requirements

pub plain_text : (t : List ℕ) → list_all is_plain t ≡ true → IsUtf8 t
plain_text t h = IsUtf8-from_is_utf8 t (plain_utf8 t h)

pub no_text : IsUtf8 []
no_text = plain_text [] refl

pub version_is_text : (v : VersionValue) → IsVersion v → IsUtf8 (version_text v)
version_is_text v h = plain_text (version_text v) (plain_version (version_text v) v h)

pub req_text : (r : Text) → IsReq r → IsUtf8 r
req_text r h = elim (cases_Bool (nat_lt MOST_REQ_BYTES (length r))) [
  | inl long ↦ cc (rw long at h)
  | inr short ↦ go (req_of r) refl (rw short at h)
]
  where
    go : (k : Result (List Held) Error) → req_of r ≡ k → option_map (λ cs. r) (result_ok k) ≡ Some r → IsUtf8 r
    go (Ok cs) is same = IsUtf8-from_ascii r (req_ascii r cs is)
    go (Err e) is same = cc same

-- ---- keys of policies

abbrev IsPlainKey : PolicyKey → Type 0
IsPlainKey k = list_all is_plain (key_text k) ≡ true

read_plain : (text n : Text) → read_package_name text ≡ Some n → list_all is_plain n ≡ true
read_plain text n h = elim (cases_Bool (is_package_name text)) [
  | inl good ↦ subst (λ t. list_all is_plain t ≡ true) (same_Some text n (rw good at h)) (plain_name text good)
  | inr bad ↦ cc (rw bad at h)
]

told_key : (j k : PolicyKey) → ◌≡◌ {A = Told PolicyKey} (Ok j) (Ok k) → j ≡ k
told_key j k e = cc e

key_alone : (text : Text) (k : PolicyKey) → plain_key text ≡ Ok k → IsPlainKey k
key_alone text k h = go (read_package_name text) refl h
  where
    go : (o : Option Name) → read_package_name text ≡ o
        → (found_or BadName o
        >>= (λ n. let t : Told PolicyKey = Ok (record { «package» = n; version = None }) in t)) ≡ Ok k
        → IsPlainKey k
    go None is same = cc same
    go (Some n) is same =
        subst IsPlainKey (told_key (record { «package» = n; version = None }) k same)
        (plain_append n [] (read_plain text n is) refl)

key_with_version : (front rest : Text) (k : PolicyKey) → versioned_key front rest ≡ Ok k → IsPlainKey k
key_with_version front rest k h = go (read_package_name front) refl (read_version rest) refl h
  where
    go : (o : Option Name) → read_package_name front ≡ o → (w : Option VersionValue) → read_version rest ≡ w
        → (found_or BadName o >>= (λ n. found_or BadVersion w
        >>= (λ v. let t : Told PolicyKey = Ok (record { «package» = n; version = Some v }) in t))) ≡ Ok k
        → IsPlainKey k
    go None is w at same = cc same
    go (Some n) is None at same = cc same
    go (Some n) is (Some v) at same =
        subst IsPlainKey (told_key (record { «package» = n; version = Some v }) k same)
        (plain_append n (58 ∷ version_text v) (read_plain front n is) (plain_version rest v at))

told_plain : (text : Text) (k : PolicyKey) → key_told text ≡ Ok k → IsPlainKey k
told_plain text k same = elim (cases_Bool (position_or_len is_colon text == length text)) [
  | inl alone ↦ key_alone text k (rw alone at same)
  | inr more ↦ key_with_version (before_first is_colon text) (after_first is_colon text) k (rw more at same)
]

pub key_is_text : (k : PolicyKey) → read_key (key_text k) ≡ Some k → IsUtf8 (key_text k)
key_is_text k h = plain_text (key_text k) (by (key_told (key_text k)) refl h)
  where
    by : (t : Told PolicyKey) → key_told (key_text k) ≡ t → result_ok t ≡ Some k → IsPlainKey k
    by (Ok j) is same = told_plain (key_text k) k (rw (same_Some j k same) at is)
    by (Err e) is same = cc same
