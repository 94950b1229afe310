-- A version's text is read as that version.
use Rattle.std.proofs.Common.{◌≡◌, ◌⊎◌, ℕ, suc, ◌+◌, ◌<◌, ◌≤◌, ◌==◌, ◌&&◌, nat_lt, true, false, List, [], ◌∷◌, ◌++◌}
use Rattle.std.proofs.Common.{length, map, drop, get_or, Some, None, Result, Ok, Err, option_map, nat_eq, refl, sym}
use Rattle.std.proofs.Common.{ap, ◌∙◌}
use Rattle.std.proofs.Common.{arith, inl, inr}
use Rattle.std.proofs.lemmas.Bool.{cases_Bool, and_parts, eqb-true}
use Rattle.std.proofs.lemmas.Bool.Decides.{nat_tests}
use Rattle.std.proofs.lemmas.Grind.{common_steps}
use Rattle.std.proofs.lemmas.List.{append-nil, length-map, length-append, length-drop}
use Rattle.std.proofs.Math.Numerals.{one-add}
use Rattle.std.proofs.Math.Seq.{take-append_seam}
use Rattle.std.proofs.lemmas.List.Folds.{prefix_len-append}
use Rattle.std.proofs.lemmas.List.Sums.{prefix_len-le-length, split_at_first}
use Rattle.std.proofs.lemmas.Str.Ascii.{lowercase-lowercase}
use Rattle.std.specs.List.{list_all, starts_with, position_or_len, before_first, after_first}
use Rattle.std.specs.Result.{result_ok}
use Rattle.std.specs.Char.{is_ascii_hexdigit, to_ascii_lowercase}
use Rattle.std.proofs.lemmas.Option.{same_Some}
use Rattle.semver.specs.declared.error.Error.{Error}
use Rattle.semver.specs.Parse.{Parts, version_parts}
use Rattle.semver.specs.Identifiers.{parts_text}
use Rattle.semver.proofs.Grammar.{version_parts-sound}
use Rattle.vet_base.specs.Version.{VersionValue, is_at, mark, is_revision, read_version, revised_version, version_text}
use Rattle.vet_base.specs.Version.{IsVersion}

lower_hex : (b : ℕ) → is_ascii_hexdigit b ≡ true → is_ascii_hexdigit (to_ascii_lowercase b) ≡ true
lower_hex b h = grind (arith, nat_tests)

pub lower_hexes : (xs : List ℕ) → list_all is_ascii_hexdigit xs ≡ true
    → list_all is_ascii_hexdigit (map to_ascii_lowercase xs) ≡ true
lower_hexes [] h = refl
lower_hexes (b ∷ xs) h =
    let (here, more) = and_parts (is_ascii_hexdigit b) (list_all is_ascii_hexdigit xs) h in
    rw (lower_hex b here, lower_hexes xs more)

lower_twice : (xs : List ℕ) → map to_ascii_lowercase (map to_ascii_lowercase xs) ≡ map to_ascii_lowercase xs
lower_twice [] = refl
lower_twice (b ∷ xs) = rw (lowercase-lowercase b, lower_twice xs)

revision_lower : (xs : List ℕ) → is_revision xs ≡ true → is_revision (map to_ascii_lowercase xs) ≡ true
revision_lower xs h =
    let (len, all) = and_parts (length xs == 40) (list_all is_ascii_hexdigit xs) h in
    rw (length-map xs to_ascii_lowercase, len, lower_hexes xs all)

-- the place of a mark after a text that lacks it
at_place : (v rest : List ℕ) → position_or_len is_at v ≡ length v → position_or_len is_at (v ++ 64 ∷ rest) ≡ length v
at_place v rest none = rw (prefix_len-append, none) (grind (arith, nat_tests, common_steps))

pub drop_front : (v rest : List ℕ) (b : ℕ) → drop (length v + 1) (v ++ b ∷ rest) ≡ rest
drop_front [] rest b = refl
drop_front (x ∷ v) rest b =
    let e : length (x ∷ v) + 1 ≡ suc (length v + 1) = omega arith in
    rw e (drop_front v rest b)

-- what stands before the first mark lacks it
before_none : (text : List ℕ) → position_or_len is_at (before_first is_at text) ≡ length (before_first is_at text)
before_none [] = refl
before_none (b ∷ rest) = elim (cases_Bool (is_at b)) [
  | inl here ↦ rw here
  | inr other ↦ simp (other, one-add) (ap suc (before_none rest))
]

-- V is read back
plain_back : (text : List ℕ) (p : Parts) (v : VersionValue) → nat_lt 256 (length text) ≡ false
    → (position_or_len is_at text == length text) ≡ true
    → version_parts text ≡ Ok p → v ≡ record { parts = p; revision = None } → IsVersion v
plain_back text p v short none read same =
    let sound = version_parts-sound text p read in
    let back : parts_text p ++ [] ≡ text = append-nil (parts_text p) ∙ sound.0 in
    rw (same, back, short, none, read)

-- V with a revision is read back
revised_back : (w rev : List ℕ) (p : Parts) (v : VersionValue) → length w + 45 ≤ 256 → position_or_len is_at w
    ≡ length w
    → version_parts w ≡ Ok p → is_revision rev ≡ true → v
    ≡ record { parts = p; revision = Some (map to_ascii_lowercase rev) } → IsVersion v
revised_back w rev p v short none read revision same =
    let sound : parts_text p ≡ w = (version_parts-sound w p read).0 in
    let small = map to_ascii_lowercase rev in
    let text : List ℕ = w ++ 64 ∷ (mark ++ small) in
    let size : length rev ≡ 40 =
    eqb-true _ _ (and_parts (length rev == 40) (list_all is_ascii_hexdigit rev) revision).0 in
    let len : length text ≡ length w + 45 =
    grind (arith, length-append w (64 ∷ (mark ++ small)), length-map rev to_ascii_lowercase) in
    let place : position_or_len is_at text ≡ length w = at_place w (mark ++ small) none in
    let within : nat_lt 256 (length text) ≡ false = rw len (grind (arith, nat_tests)) in
    let found : (position_or_len is_at text == length text) ≡ false = rw (place, len) (grind (arith, nat_tests)) in
    let front : before_first is_at text ≡ w = rw place (take-append_seam w (64 ∷ (mark ++ small))) in
    let back : after_first is_at text ≡ mark ++ small = rw place (drop_front w (mark ++ small) 64) in
    let hex = revision_lower rev revision in
    let whole : version_text v ≡ text = rw (same, sound) refl in
    let value : revised_version w (mark ++ small) ≡ Some v = rw (hex, read, lower_twice rev, same) refl in
    rw (whole, within, found, front, back) value

-- where V stands before a revision, there is room for 45 more bytes
revised_size : (text : List ℕ) → nat_lt 256 (length text) ≡ false → (position_or_len is_at text == length text) ≡ false
    → is_revision (drop 4 (after_first is_at text)) ≡ true → length (before_first is_at text) + 45 ≤ 256
revised_size text short found revision =
    let rev = drop 4 (after_first is_at text) in
    let size : length rev ≡ 40 =
    eqb-true _ _ (and_parts (length rev == 40) (list_all is_ascii_hexdigit rev) revision).0 in
    let le : position_or_len is_at text ≤ length text = prefix_len-le-length _ text in
    let lt : position_or_len is_at text < length text = grind (arith, nat_tests) in
    let whole = ap length (split_at_first is_at text 0 lt) in
    let parts = length-append (before_first is_at text)
    (get_or text (position_or_len is_at text) 0 ∷ after_first is_at text) in
    let four = length-drop 4 (after_first is_at text) in
    grind (arith, nat_tests)

-- what an answer that was found came from
found_from : (r : Result Parts Error) (f : Parts → VersionValue) (v : VersionValue) → option_map f (result_ok r)
    ≡ Some v
    → (p : Parts) × (r ≡ Ok p) × (v ≡ f p)
found_from (Ok p) f v e = (p, refl, sym (same_Some _ _ e))
found_from (Err x) f v e = cc e

-- a version is read of a text that lacks the mark
pub record IsReadPlain (text : List ℕ) (v : VersionValue) : Type 0 where
  pub parts : Parts
  pub none : (position_or_len is_at text == length text) ≡ true
  pub read : version_parts text ≡ Ok parts
  pub same : v ≡ record { parts = parts; revision = None }

-- or of what stands before it, with a revision behind it
pub record IsReadRevised (text : List ℕ) (v : VersionValue) : Type 0 where
  pub parts : Parts
  pub found : (position_or_len is_at text == length text) ≡ false
  pub revision : is_revision (drop 4 (after_first is_at text)) ≡ true
  pub read : version_parts (before_first is_at text) ≡ Ok parts
  pub same : v ≡ record {
    parts = parts;
    revision = Some (map to_ascii_lowercase (drop 4 (after_first is_at text)));
  }

pub read_so : (text : List ℕ) (v : VersionValue) → read_version text ≡ Some v → (nat_lt 256 (length text) ≡ false)
    × (IsReadPlain text v ⊎ IsReadRevised text v)
read_so text v e = elim (cases_Bool (nat_lt 256 (length text))) [
  | inl long ↦ cc (rw long at e)
  | inr short ↦ (
    short,
    elim (cases_Bool (position_or_len is_at text == length text)) [
      | inl none ↦
          let (p, read, same) = found_from (version_parts text) _ v (rw (short, none) at e) in
          inl (record { parts = p; none = none; read = read; same = same })
      | inr found ↦
          let rev = drop 4 (after_first is_at text) in
          elim (cases_Bool (starts_with nat_eq (after_first is_at text) mark && is_revision rev)) [
            | inr other ↦ cc (rw (short, found, other) at e)
            | inl tests ↦
                let revision : is_revision rev ≡ true =
                (and_parts (starts_with nat_eq (after_first is_at text) mark) (is_revision rev) tests).1 in
                let (p, read, same) = found_from (version_parts (before_first is_at text)) _ v
                (rw (short, found, tests) at e) in
                inr (record { parts = p; found = found; revision = revision; read = read; same = same })
          ]
    ],
  )
]

-- what is read is a version
pub read_version-IsVersion : (text : List ℕ) (v : VersionValue) → read_version text ≡ Some v → IsVersion v
read_version-IsVersion text v e =
    let short = (read_so text v e).0 in
    elim (read_so text v e).1 [
      | inl h ↦ plain_back text h.parts v short h.none h.read h.same
      | inr h ↦
          let rev = drop 4 (after_first is_at text) in
          revised_back (before_first is_at text) rev h.parts v (revised_size text short h.found h.revision)
          (before_none text) h.read h.revision h.same
    ]
