-- The steps of a package's entries: an exempt one starts from nothing.
use Rattle.std.proofs.Common.{Bool, true, false, cond, List, [], ◌∷◌, Option, filter, map, refl}
use Rattle.std.specs.List.{All, flat_map}
use Rattle.std.proofs.lemmas.Bool.{false≢true}
use Rattle.std.proofs.lemmas.List.Elements.{All-append, All-cons, All-nil}
use Rattle.vet_base.specs.CriteriaSet.{Places}
use Rattle.vet_base.specs.Day.{DayValue}
use Rattle.vet_base.specs.Words.{Name}
use Rattle.vet_entries.specs.declared.kind.Kind.{Kind}
use Rattle.vet_entries.specs.declared.kind.Kind.TheVariants as kind
use Rattle.vet_entries.specs.declared.kind.Kind.TheVariants.{Full, Violation, Wildcard, Trusted, Exemption}
use Rattle.vet_entries.specs.declared.publisher.Publisher.{Publisher}
use Rattle.vet_entries.specs.Facts.{Facts}
use Rattle.vet_entries.specs.Kind.{is_over}
use Rattle.vet_entries.specs.PeerWords.{local_criteria}
use Rattle.vet_entries.specs.PublisherRecords.{records_of}
use Rattle.vet_entries.specs.Step.{SourcedEntry, by_number, entries_of, entry_steps, first_step, kind_steps, steps_of}
use Rattle.vet_masks.specs.Classes.{StartsExempt}

all_flat : {X Y : Type 0} (P : Y → Type 0) (f : X → List Y) → ((x : X) → All P (f x)) → (xs : List X)
    → All P (flat_map f xs)
all_flat P f h [] = All-nil P
all_flat P f h (x ∷ xs) = All-append P (f x) (flat_map f xs) (h x) (all_flat P f h xs)

all_first : (criteria : Places) (records : List Publisher)
    → All StartsExempt (map (λ p. first_step criteria false p.version) records)
all_first criteria [] = All-nil StartsExempt
all_first criteria (p ∷ rest) =
    All-cons StartsExempt (first_step criteria false p.version) (map (λ q. first_step criteria false q.version) rest)
    (λ e. refl) (all_first criteria rest)

kind_starts : (today : Option DayValue) (criteria : Places) (records : List Publisher) (k : Kind)
    → All StartsExempt (kind_steps today criteria records k)
kind_starts today criteria records (Full version audit) =
    All-cons StartsExempt _ [] (λ e. refl) (All-nil StartsExempt)
kind_starts today criteria records (kind.Delta delta audit) =
    All-cons StartsExempt _ [] (λ e. absurd (false≢true e)) (All-nil StartsExempt)
kind_starts today criteria records (Violation requirement audit) = All-nil StartsExempt
kind_starts today criteria records (Wildcard window grant) = all_first criteria (filter _ records)
kind_starts today criteria records (Trusted window) = all_first criteria (filter _ records)
kind_starts today criteria records (Exemption version suggest last) = by (is_over last today)
  where
    by : (over : Bool) → All StartsExempt (cond over [] (first_step criteria true version ∷ []))
    by true = All-nil StartsExempt
    by false = All-cons StartsExempt _ [] (λ e. refl) (All-nil StartsExempt)

pub steps-start : (facts : Facts) (name : Name) → All StartsExempt (steps_of facts name)
steps-start facts name =
    let records = records_of facts.publishers name in
    all_flat StartsExempt (entry_steps facts.today facts.criteria records)
    (λ (e : SourcedEntry). kind_starts facts.today (local_criteria facts.criteria e.peer e.held.entry.criteria) records
    e.held.entry.kind) (by_number (λ (e : SourcedEntry). e.held.number) (entries_of facts name))
