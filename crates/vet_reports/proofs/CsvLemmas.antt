-- Fields between quotes.
use Rattle.std.proofs.Common.{◌≡◌, ℕ, ◌+◌, ◌<◌, List, [], ◌∷◌, ◌++◌, get_or, length, take, refl, ap, ◌∙◌}
use Rattle.std.proofs.Common.{append_assoc, append-nil, cond, Bool, true, false, arith}
use Rattle.std.specs.Prelude.{◌==◌, ◌&&◌, nat_le}
use Rattle.std.specs.Char.{is_ascii_graphic}
use Rattle.std.specs.List.{list_all}
use Rattle.std.proofs.lemmas.Bool.{and_parts}
use Rattle.std.proofs.lemmas.Bool.Decides.{nat_tests}
use Rattle.std.proofs.lemmas.List.{take_more}
use Rattle.csv.specs.Writing.{default_writer, escaped}
use Rattle.vet_base.specs.Name.{is_package_byte, is_package_name}
use Rattle.vet_base.specs.Version.{IsVersion, VersionValue, version_text}
use Rattle.vet_base.proofs.ListLemmas.{all_weaker}
use Rattle.vet_base.proofs.VersionBytes.{is_version_byte, version_bytes}

pub none_escaped : escaped default_writer [] ≡ []
unfolding escaped
none_escaped = refl

one_more : (bytes : List ℕ) (b : ℕ)
    → escaped default_writer (bytes ++ b ∷ []) ≡ escaped default_writer bytes ++ escaped default_writer (b ∷ [])
unfolding escaped
one_more [] b = refl
one_more (c ∷ bytes) b = by (c == 34) (one_more bytes b)
  where
    by : (t : Bool) → escaped default_writer (bytes ++ b ∷ [])
        ≡ escaped default_writer bytes ++ escaped default_writer (b ∷ [])
        → cond t (34 ∷ c ∷ escaped default_writer (bytes ++ b ∷ [])) (c ∷ escaped default_writer (bytes ++ b ∷ []))
        ≡ cond t (34 ∷ c ∷ escaped default_writer bytes) (c ∷ escaped default_writer bytes)
        ++ escaped default_writer (b ∷ [])
    by true more = ap (λ l. 34 ∷ c ∷ l) more
    by false more = ap (λ l. c ∷ l) more

-- one byte further
pub escaped_further : (field : List ℕ) (i : ℕ) → i < length field
    → escaped default_writer (take (i + 1) field)
    ≡ escaped default_writer (take i field) ++ escaped default_writer (get_or field i 0 ∷ [])
escaped_further field i within =
    ap (escaped default_writer) (take_more field i 0 within) ∙ one_more (take i field) (get_or field i 0)

-- ---- the characters of fields

package_visible : (b : ℕ) → is_package_byte b ≡ true → is_ascii_graphic b ≡ true
package_visible b h = grind (arith, nat_tests)

-- those of a package's name are visible
pub visible_package : (name : List ℕ) → is_package_name name ≡ true → list_all is_ascii_graphic name ≡ true
visible_package name h =
    all_weaker is_package_byte is_ascii_graphic package_visible name
    (and_parts (nat_le 1 (length name) && nat_le (length name) 64) (list_all is_package_byte name) h).1

version_visible : (b : ℕ) → is_version_byte b ≡ true → is_ascii_graphic b ≡ true
version_visible b h = grind (arith, nat_tests)

-- and so are those of a version's text
pub visible_version : (v : VersionValue) → IsVersion v → list_all is_ascii_graphic (version_text v) ≡ true
visible_version v own =
    all_weaker is_version_byte is_ascii_graphic version_visible (version_text v) (version_bytes (version_text v) v own)

-- ---- records

-- four fields, each with what ends it, are a record
pub four_fields : (old one two three a b c d : List ℕ) → one ≡ old ++ (a ++ 44 ∷ []) → two ≡ one ++ (b ++ 44 ∷ [])
    → three ≡ two ++ (c ++ 44 ∷ [])
    → three ++ (d ++ 10 ∷ []) ≡ old ++ ((a ++ (44 ∷ (b ++ (44 ∷ (c ++ (44 ∷ (d ++ []))))))) ++ 10 ∷ [])
four_fields old one two three a b c d first second third =
    rw (third, second, first) (simp (append_assoc, append-nil))
