-- What columns say of a package, kind by kind.
use Rattle.std.proofs.Common.{◌≡◌, ◌==◌, ◌∙◌, ℕ, Bool, T, true, false, not, None, Option, Some, Result, eq-eqb, refl}
use Rattle.std.proofs.Common.{sym, ap}
use Rattle.std.specs.Prelude.{pos}
use Rattle.vet_base.specs.Day.{day_number}
use Rattle.vet_base.specs.Version.{VersionValue}
use Rattle.vet_base.specs.Words.{Text}
use Rattle.vet_base.specs.declared.delta.Delta.{Delta}
use Rattle.vet_entries.specs.Kind.{last_day_of}
use Rattle.vet_entries.specs.declared.kind.Audit.{Audit}
use Rattle.vet_entries.specs.declared.kind.Grant.{Grant}
use Rattle.vet_entries.specs.declared.kind.Kind.{Kind}
use Rattle.vet_entries.specs.declared.kind.Kind.TheVariants as kind
use Rattle.vet_entries.specs.declared.kind.Window.{Window}
use Rattle.vet_item_rows.specs.EntryRows.{with_kind}
use Rattle.vet_item_rows.specs.KindColumns.{KindColumns}
use Rattle.vet_item_rows.specs.ReadBack.{Reads}
use Rattle.vet_item_rows.specs.ReadFacts.{IsSaidIn}
use Rattle.vet_item_rows.specs.Values.{IsWindow}
use Rattle.vet_item_rows.specs.declared.read.read_error.ReadError.{ReadError}

-- ---- kinds by their numbers

abbrev pub kind_number : Kind → ℕ
kind_number (kind.Full v a) = 0
kind_number (kind.Delta d a) = 1
kind_number (kind.Violation r a) = 2
kind_number (kind.Wildcard w g) = 3
kind_number (kind.Trusted w) = 4
kind_number (kind.Exemption v s l) = 5

number_is : (k : Kind) (said : KindColumns) → (with_kind k said).kind ≡ pos (kind_number k)
number_is (kind.Full v a) said = refl
number_is (kind.Delta d a) said = refl
number_is (kind.Violation r a) said = refl
number_is (kind.Wildcard w g) said = refl
number_is (kind.Trusted w) said = refl
number_is (kind.Exemption v s l) said = refl

-- the number of the kind of what columns say
pub said_number : (said : KindColumns) (k : Kind) → IsSaidIn said k → said.kind ≡ pos (kind_number k)
said_number said k is = ap (λ (c : KindColumns). c.kind) is.1.1 ∙ number_is k is.1.0

pub no_other : (a b : ℕ) → T (not (a == b)) → a ≡ b → ⊥
no_other a b t e = differ (a == b) (eq-eqb a b e) t
  where
    differ : (c : Bool) → c ≡ true → T (not c) → ⊥
    differ true h t = t
    differ false h t = cc h

module _ (said : KindColumns) (result : Result Kind ReadError) (number : ℕ)
    (tells : (n : ℕ) → said.kind ≡ pos n → number ≡ n) where
  abbrev pub Finds : Kind → Type 0
  Finds k = IsSaidIn said k → Reads result k

  -- a kind without a last day is read back
  abbrev pub IsFound : Kind → Type 0
  IsFound k = last_day_of k ≡ None → Finds k

  another : (a : ℕ) → number ≡ a → (k : Kind) → T (not (a == kind_number k)) → IsFound k
  another a is k t plain says =
      absurd (no_other a (kind_number k) t (sym is ∙ tells (kind_number k) (said_number said k says)))

  pub found_full : number ≡ 0 → ((v : VersionValue) (a : Audit) → Finds (kind.Full v a))
      → (k : Kind) → IsFound k
  found_full is one (kind.Full v a) = λ plain. one v a
  found_full is one (kind.Delta d a) = another 0 is (kind.Delta d a) tt
  found_full is one (kind.Violation r a) = another 0 is (kind.Violation r a) tt
  found_full is one (kind.Wildcard w g) = another 0 is (kind.Wildcard w g) tt
  found_full is one (kind.Trusted w) = another 0 is (kind.Trusted w) tt
  found_full is one (kind.Exemption v s l) = another 0 is (kind.Exemption v s l) tt

  pub found_delta : number ≡ 1 → ((d : Delta) (a : Audit) → Finds (kind.Delta d a)) → (k : Kind) → IsFound k
  found_delta is one (kind.Full v a) = another 1 is (kind.Full v a) tt
  found_delta is one (kind.Delta d a) = λ plain. one d a
  found_delta is one (kind.Violation r a) = another 1 is (kind.Violation r a) tt
  found_delta is one (kind.Wildcard w g) = another 1 is (kind.Wildcard w g) tt
  found_delta is one (kind.Trusted w) = another 1 is (kind.Trusted w) tt
  found_delta is one (kind.Exemption v s l) = another 1 is (kind.Exemption v s l) tt

  pub found_violation : number ≡ 2 → ((r : Text) (a : Audit) → Finds (kind.Violation r a))
      → (k : Kind) → IsFound k
  found_violation is one (kind.Full v a) = another 2 is (kind.Full v a) tt
  found_violation is one (kind.Delta d a) = another 2 is (kind.Delta d a) tt
  found_violation is one (kind.Violation r a) = λ plain. one r a
  found_violation is one (kind.Wildcard w g) = another 2 is (kind.Wildcard w g) tt
  found_violation is one (kind.Trusted w) = another 2 is (kind.Trusted w) tt
  found_violation is one (kind.Exemption v s l) = another 2 is (kind.Exemption v s l) tt

  pub found_wildcard : number ≡ 3 → ((w : Window) (g : Grant) → Finds (kind.Wildcard w g))
      → (k : Kind) → IsFound k
  found_wildcard is one (kind.Full v a) = another 3 is (kind.Full v a) tt
  found_wildcard is one (kind.Delta d a) = another 3 is (kind.Delta d a) tt
  found_wildcard is one (kind.Violation r a) = another 3 is (kind.Violation r a) tt
  found_wildcard is one (kind.Wildcard w g) = λ plain. one w g
  found_wildcard is one (kind.Trusted w) = another 3 is (kind.Trusted w) tt
  found_wildcard is one (kind.Exemption v s l) = another 3 is (kind.Exemption v s l) tt

  pub found_trusted : number ≡ 4 → ((w : Window) → Finds (kind.Trusted w)) → (k : Kind) → IsFound k
  found_trusted is one (kind.Full v a) = another 4 is (kind.Full v a) tt
  found_trusted is one (kind.Delta d a) = another 4 is (kind.Delta d a) tt
  found_trusted is one (kind.Violation r a) = another 4 is (kind.Violation r a) tt
  found_trusted is one (kind.Wildcard w g) = another 4 is (kind.Wildcard w g) tt
  found_trusted is one (kind.Trusted w) = λ plain. one w
  found_trusted is one (kind.Exemption v s l) = another 4 is (kind.Exemption v s l) tt

  pub found_exemption : number ≡ 5 → ((v : VersionValue) (s : Option Bool) → Finds (kind.Exemption v s None))
      → (k : Kind) → IsFound k
  found_exemption is one (kind.Full v a) = another 5 is (kind.Full v a) tt
  found_exemption is one (kind.Delta d a) = another 5 is (kind.Delta d a) tt
  found_exemption is one (kind.Violation r a) = another 5 is (kind.Violation r a) tt
  found_exemption is one (kind.Wildcard w g) = another 5 is (kind.Wildcard w g) tt
  found_exemption is one (kind.Trusted w) = another 5 is (kind.Trusted w) tt
  found_exemption is one (kind.Exemption v s None) = λ plain. one v s
  found_exemption is one (kind.Exemption v s (Some day)) = λ plain. cc plain

module _ (said : KindColumns) (result : Result Kind ReadError) where
  -- a window is found column by column
  pub window_found : ((w : Window) → IsWindow w → said.user ≡ pos w.user → said.day1 ≡ day_number w.first
      → said.day2 ≡ day_number w.last → Reads result (kind.Trusted w))
      → (w : Window) → IsSaidIn said (kind.Trusted w) → Reads result (kind.Trusted w)
  window_found back w says =
      back w says.0 (ap (λ (c : KindColumns). c.user) says.1.1) (ap (λ (c : KindColumns). c.day1) says.1.1)
      (ap (λ (c : KindColumns). c.day2) says.1.1)
