-- Which bytes the text of a version has.
use Rattle.std.proofs.Common.{◌≡◌, ℕ, ◌+◌, ◌<◌, ◌^◌, ◌%◌, ◌==◌, ◌||◌, nat_lt, Bool, true, List, [], ◌∷◌, ◌++◌}
use Rattle.std.proofs.Common.{length, map, drop, Some, None, Ok, refl, subst, arith, inl, inr}
use Rattle.std.proofs.lemmas.Bool.{and_parts}
use Rattle.std.proofs.lemmas.Bool.Decides.{nat_tests}
use Rattle.std.proofs.lemmas.Fmt.{decimal_by_steps}
use Rattle.std.proofs.lemmas.List.Folds.{list_all-append}
use Rattle.std.specs.Char.{is_ascii_hexdigit, to_ascii_lowercase}
use Rattle.std.specs.Fmt.{decimal}
use Rattle.std.specs.List.{list_all, before_first, after_first}
use Rattle.semver.specs.Grammar.{IsValid, is_identifier_byte, is_build_identifier, is_pre_identifier, is_pre_release}
use Rattle.semver.specs.Grammar.{is_build}
use Rattle.semver.specs.Identifiers.{marked, parts_text}
use Rattle.semver.specs.Order.{parts}
use Rattle.semver.specs.OrderLaws.{join_dots, join-parts}
use Rattle.semver.specs.Parse.{Parts, version_parts}
use Rattle.semver.proofs.Grammar.{version_parts-sound}
use Rattle.vet_base.specs.Version.{VersionValue, is_at, mark, is_revision, read_version, version_text}
use Rattle.vet_base.proofs.VersionLemmas.{lower_hexes, read_so}
use Rattle.vet_base.proofs.ListLemmas.{all_weaker}

-- an ASCII letter or digit, or one of `-`, `+`, `.`, `:` and `@`
abbrev pub is_version_byte : ℕ → Bool
is_version_byte b = is_identifier_byte b || (b == 43) || (b == 46) || (b == 58) || (b == 64)

bytes_of_append : (xs ys : List ℕ) → list_all is_version_byte xs ≡ true → list_all is_version_byte ys ≡ true
    → list_all is_version_byte (xs ++ ys) ≡ true
bytes_of_append xs ys a b = rw (list_all-append, a) b

bytes_of_digit : (d : ℕ) → d < 10 → list_all is_version_byte ((48 + d) ∷ []) ≡ true
bytes_of_digit d h = grind (arith, nat_tests)

bytes_of_decimal : (n : ℕ) → n < 2 ^ 64 → list_all is_version_byte (decimal n) ≡ true
bytes_of_decimal n small =
    decimal_by_steps (λ _ ds. list_all is_version_byte ds ≡ true)
    (λ k low. bytes_of_digit k low)
    (λ k ds big h. bytes_of_append ds ((48 + k % 10) ∷ []) h (bytes_of_digit (k % 10) (omega arith)))
    n small

byte_of_identifier : (b : ℕ) → is_identifier_byte b ≡ true → is_version_byte b ≡ true
byte_of_identifier b h = grind (arith, nat_tests)

byte_of_hex : (b : ℕ) → is_ascii_hexdigit b ≡ true → is_version_byte b ≡ true
byte_of_hex b h = grind (arith, nat_tests)

bytes_of_part : (part : List ℕ) → is_build_identifier part ≡ true → list_all is_version_byte part ≡ true
bytes_of_part part h =
    all_weaker is_identifier_byte is_version_byte byte_of_identifier part
    (and_parts (nat_lt 0 (length part)) (list_all is_identifier_byte part) h).1

bytes_of_join : (ps : List (List ℕ)) → list_all is_build_identifier ps ≡ true → list_all is_version_byte (join_dots ps)
    ≡ true
unfolding join_dots
bytes_of_join [] h = refl
bytes_of_join (p ∷ []) h = bytes_of_part p (and_parts (is_build_identifier p) true h).0
bytes_of_join (p ∷ next ∷ rest) h =
    let (here, more) = and_parts (is_build_identifier p) (list_all is_build_identifier (next ∷ rest)) h in
    bytes_of_append p (46 ∷ join_dots (next ∷ rest)) (bytes_of_part p here) (bytes_of_join (next ∷ rest) more)

bytes_of_parts : (id : List ℕ) → list_all is_build_identifier (parts id) ≡ true → list_all is_version_byte id ≡ true
bytes_of_parts id h =
    subst (λ (t : List ℕ). list_all is_version_byte t ≡ true) (join-parts id) (bytes_of_join (parts id) h)

bytes_of_build : (id : List ℕ) → is_build id ≡ true → list_all is_version_byte (marked 43 id) ≡ true
bytes_of_build [] h = refl
bytes_of_build (b ∷ r) h = bytes_of_parts (b ∷ r) h

is_build_of_pre : (part : List ℕ) → is_pre_identifier part ≡ true → is_build_identifier part ≡ true
is_build_of_pre part h = (and_parts (is_build_identifier part) _ h).0

bytes_of_pre : (id : List ℕ) → is_pre_release id ≡ true → list_all is_version_byte (marked 45 id) ≡ true
bytes_of_pre [] h = refl
bytes_of_pre (b ∷ r) h =
    bytes_of_parts (b ∷ r) (all_weaker is_pre_identifier is_build_identifier is_build_of_pre (parts (b ∷ r)) h)

bytes_of_parts_text : (p : Parts) → IsValid p → list_all is_version_byte (parts_text p) ≡ true
bytes_of_parts_text p (a, b, c, pre, build) =
    let tail = bytes_of_append (marked 45 p.3) (marked 43 p.4) (bytes_of_pre p.3 pre) (bytes_of_build p.4 build) in
    let patch = bytes_of_append (decimal p.2) (marked 45 p.3 ++ marked 43 p.4) (bytes_of_decimal p.2 c) tail in
    let minor = bytes_of_append (decimal p.1) (46 ∷ (decimal p.2 ++ (marked 45 p.3 ++ marked 43 p.4)))
    (bytes_of_decimal p.1 b) patch in
    bytes_of_append (decimal p.0) (46 ∷ (decimal p.1 ++ (46 ∷ (decimal p.2 ++ (marked 45 p.3 ++ marked 43 p.4)))))
    (bytes_of_decimal p.0 a) minor

bytes_of_plain : (text : List ℕ) (p : Parts) (v : VersionValue) → version_parts text ≡ Ok p → v
    ≡ record { parts = p; revision = None } → list_all is_version_byte (version_text v) ≡ true
bytes_of_plain text p v read same =
    rw same (bytes_of_append (parts_text p) [] (bytes_of_parts_text p (version_parts-sound text p read).1) refl)

bytes_of_revised : (text rev : List ℕ) (p : Parts) (v : VersionValue) → version_parts text ≡ Ok p → is_revision rev
    ≡ true
    → v ≡ record { parts = p; revision = Some (map to_ascii_lowercase rev) }
    → list_all is_version_byte (version_text v) ≡ true
bytes_of_revised text rev p v read revision same =
    let hexes : list_all is_ascii_hexdigit rev ≡ true =
    (and_parts (length rev == 40) (list_all is_ascii_hexdigit rev) revision).1 in
    let small = all_weaker is_ascii_hexdigit is_version_byte byte_of_hex (map to_ascii_lowercase rev)
    (lower_hexes rev hexes) in
    rw same (bytes_of_append (parts_text p) (64 ∷ (mark ++ map to_ascii_lowercase rev))
    (bytes_of_parts_text p (version_parts-sound text p read).1) small)

-- what is read as a version prints such bytes alone
pub version_bytes : (text : List ℕ) (v : VersionValue) → read_version text ≡ Some v
    → list_all is_version_byte (version_text v) ≡ true
version_bytes text v e = elim (read_so text v e).1 [
  | inl h ↦ bytes_of_plain text h.parts v h.read h.same
  | inr h ↦
      bytes_of_revised (before_first is_at text) (drop 4 (after_first is_at text)) h.parts v h.read h.revision h.same
]
