-- The functions that compare entries decide whether they are the same (ours).
use Rattle.std.specs.Prelude.{◌≡◌}
use Rattle.std.specs.Bool.{Decides}
use Rattle.std.specs.Cmp.Lexicographic.{bytes_decides}
use Rattle.std.proofs.Common.{refl, ap}
use Rattle.std.proofs.lemmas.Bool.Decides.{Decides-and, Decides-like}
use Rattle.vet_base.specs.NamesLaws.{same_names-Decides}
use Rattle.vet_base.specs.OptionLaws.{options_decide}
use Rattle.vet_entries.specs.declared.entry.Entry.{Entry}
use Rattle.vet_entries.specs.declared.entry.Source.{Source}
use Rattle.vet_entries.specs.declared.entry.Source.TheVariants.{Own, Peer}
use Rattle.vet_entries.specs.KindLaws.{kind_eq-Decides}
use Rattle.vet_entries.specs.Entry.{source_eq, says_same, entry_eq}

-- ---- each of these functions decides whether two are the same

pub source_eq-Decides : (a b : Source) → Decides (source_eq a b) (a ≡ b)
source_eq-Decides Own Own = (λ _. refl, λ _. refl)
source_eq-Decides Own (Peer b) = (λ h. cc h, λ e. cc e)
source_eq-Decides (Peer a) Own = (λ h. cc h, λ e. cc e)
source_eq-Decides (Peer a) (Peer b) =
    (λ h. ap Peer ((bytes_decides a b).0 h), λ e. (let same : a ≡ b = cc e in (bytes_decides a b).1 same))

-- what two entries that say the same have in common
abbrev SaysSame : Entry → Entry → Type 0
SaysSame a b = (a.«package» ≡ b.«package») × ((a.kind ≡ b.kind) × ((a.criteria ≡ b.criteria) × (a.notes ≡ b.notes)))

says_same-Decides : (a b : Entry) → Decides (says_same a b) (SaysSame a b)
says_same-Decides a b =
    Decides-and _ _ (bytes_decides a.«package» b.«package»)
    (Decides-and _ _ (kind_eq-Decides a.kind b.kind)
    (Decides-and _ _ (same_names-Decides a.criteria b.criteria) (options_decide bytes_decides a.notes b.notes)))

entry_same : (a b : Entry) → (a.source ≡ b.source) × SaysSame a b → a ≡ b
entry_same a b h = λ i. record {
  source = h.0 i;
  «package» = h.1.0 i;
  kind = h.1.1.0 i;
  criteria = h.1.1.1.0 i;
  notes = h.1.1.1.1 i;
}

same_entry : (a b : Entry) → a ≡ b → (a.source ≡ b.source) × SaysSame a b
same_entry a b e = (
  ap (λ x. x.source) e,
  (ap (λ x. x.«package») e, (ap (λ x. x.kind) e, (ap (λ x. x.criteria) e, ap (λ x. x.notes) e))),
)

-- two entries are the same in every field exactly if they are the same
pub entry_eq-Decides : (a b : Entry) → Decides (entry_eq a b) (a ≡ b)
entry_eq-Decides a b =
    Decides-like _ (entry_same a b) (same_entry a b)
    (Decides-and _ _ (source_eq-Decides a.source b.source) (says_same-Decides a b))
