-- What violations condemn.
use Rattle.std.proofs.Common.{◌≡◌, ◌||◌, ℕ, Bool, true, false, List, [], ◌∷◌, refl, ap, ◌∙◌}
use Rattle.std.specs.Prelude.{◌&&◌}
use Rattle.std.specs.List.{flat_map, list_any}
use Rattle.std.proofs.lemmas.List.Folds.{list_any-append}
use Rattle.vet_base.specs.Criteria.{Criteria, LedTo, leads_to}
use Rattle.vet_base.specs.CriteriaSet.{Places, has}
use Rattle.vet_base.specs.Req.{req_matches}
use Rattle.vet_base.specs.Version.{VersionValue}
use Rattle.vet_entries.specs.declared.kind.Kind.{Kind}
use Rattle.vet_entries.specs.declared.kind.Kind.TheVariants as kind
use Rattle.vet_entries.specs.Condemned.{condemned_by, condemns, is_condemned, violated, violates, violation_in}
use Rattle.vet_entries.specs.Condemned.{violation_of, violations_of}
use Rattle.vet_entries.specs.Facts.{Facts}
use Rattle.vet_entries.specs.Step.{SourcedEntry, entries_of}

pub or_nothing : (a b : Bool) → a ≡ (a || (false && b))
or_nothing true b = refl
or_nothing false b = refl

pub or_last : (b : Bool) → (b || false) ≡ b
or_last true = refl
or_last false = refl

pub or_in_turn : (a b c : Bool) → ((a || b) || c) ≡ (a || (b || c))
or_in_turn true b c = refl
or_in_turn false b c = refl

-- what one kind condemns, where it would violate these
one_kind : LedTo → (table : Criteria) (places : Places) (k : Kind) (c : ℕ) (v : VersionValue)
    → condemned_by (violation_of table places k) c v ≡ (violates v k && leads_to table places c)
one_kind law table places (kind.Full w a) c v = refl
one_kind law table places (kind.Delta d a) c v = refl
one_kind law table places (kind.Violation r a) c v = or_last _ ∙ ap (λ b. req_matches r v.parts && b)
    (law table places c)
one_kind law table places (kind.Wildcard w g) c v = refl
one_kind law table places (kind.Trusted w) c v = refl
one_kind law table places (kind.Exemption w s l) c v = refl

entries_condemn : LedTo → (table : Criteria) (entries : List SourcedEntry) (c : ℕ) (v : VersionValue)
    → condemned_by (flat_map (violation_in table) entries) c v ≡ list_any (condemns table v c) entries
entries_condemn law table [] c v = refl
entries_condemn law table (e ∷ entries) c v =
    list_any-append (λ w. req_matches w.requirement v.parts && has c w.criteria) (violation_in table e)
    (flat_map (violation_in table) entries)
    ∙ ap (λ b. b || condemned_by (flat_map (violation_in table) entries) c v)
    (one_kind law table (violated table e) e.held.entry.kind c v)
    ∙ ap (λ b. condemns table v c e || b) (entries_condemn law table entries c v)

-- the violations of a package condemn just what its entries do
pub violations_condemn : LedTo → (facts : Facts) (name : List ℕ) (c : ℕ) (v : VersionValue)
    → condemned_by (violations_of facts name) c v ≡ is_condemned facts name c v
violations_condemn law facts name c v = entries_condemn law facts.criteria (entries_of facts name) c v
