-- The steps of a package are the same on two days if each of its entries has lapsed on both or on neither.
use Rattle.std.proofs.Common.{◌≡◌, ℕ, Bool, true, cond, List, [], ◌∷◌, Option, map, refl, sym, ap, ◌∙◌}
use Rattle.std.specs.List.{All, flat_map}
use Rattle.std.proofs.lemmas.List.Elements.{All-head, All-tail, All-weaker}
use Rattle.std.proofs.lemmas.List.Folds.{flat_map-map}
use Rattle.vet_base.specs.CriteriaSet.{Places}
use Rattle.vet_base.specs.Day.{DayValue}
use Rattle.vet_entries.specs.declared.kind.Kind.{Kind}
use Rattle.vet_entries.specs.declared.kind.Kind.TheVariants as kind
use Rattle.vet_entries.specs.declared.publisher.Publisher.{Publisher}
use Rattle.vet_entries.specs.declared.step.Step.{Step}
use Rattle.vet_entries.specs.Kind.{has_lapsed}
use Rattle.vet_entries.specs.PeerWords.{local_criteria}
use Rattle.vet_entries.specs.PublisherRecords.{records_of}
use Rattle.vet_entries.specs.SameOfLaws.{DayCondemnsTheSame, DayKeepsSteps, LapsesAlike}
use Rattle.vet_entries.specs.Step.{SourcedEntry, by_number, entries_of, entry_steps, first_step, kind_steps}
use Rattle.vet_entries.proofs.ByNumber.{map-by_number}

-- a kind that has lapsed on both days, or on neither, gives the same steps
same_kind : (before after : Option DayValue) (criteria : Places) (records : List Publisher) (k : Kind)
    → has_lapsed k before ≡ has_lapsed k after
    → kind_steps before criteria records k ≡ kind_steps after criteria records k
same_kind before after criteria records (kind.Full v a) same = refl
same_kind before after criteria records (kind.Delta d a) same = refl
same_kind before after criteria records (kind.Violation r a) same = refl
same_kind before after criteria records (kind.Wildcard w g) same = refl
same_kind before after criteria records (kind.Trusted w) same = refl
same_kind before after criteria records (kind.Exemption v s l) same =
    ap (λ (over : Bool). let steps : List Step = cond over [] (first_step criteria true v ∷ []) in steps) same

-- items that give the same one by one also give the same in the order of their numbers
module _ {X Y : Type 0} (number : X → ℕ) where
  abbrev with_number : (X → List Y) → X → ℕ × List Y
  with_number give x = (number x, give x)

  abbrev all_given : List (ℕ × List Y) → List Y
  all_given ps = flat_map (λ (p : ℕ × List Y). p.1) (by_number (λ (p : ℕ × List Y). p.0) ps)

  given_with : (give : X → List Y) (xs : List X)
      → flat_map give (by_number number xs) ≡ all_given (map (with_number give) xs)
  given_with give xs =
      sym (flat_map-map (λ (p : ℕ × List Y). p.1) (with_number give) (by_number number xs))
      ∙ ap (flat_map (λ (p : ℕ × List Y). p.1))
      (map-by_number (with_number give) number (λ (p : ℕ × List Y). p.0) (λ x. refl) xs)

  one_by_one : (f g : X → List Y) (xs : List X) → All (λ x. f x ≡ g x) xs
      → map (with_number f) xs ≡ map (with_number g) xs
  one_by_one f g [] each = refl
  one_by_one f g (x ∷ xs) each = λ i.
      (number x, All-head (λ y. f y ≡ g y) x xs each i)
      ∷ one_by_one f g xs (All-tail (λ y. f y ≡ g y) x xs each) i

  same_given : (f g : X → List Y) (xs : List X) → All (λ x. f x ≡ g x) xs
      → flat_map f (by_number number xs) ≡ flat_map g (by_number number xs)
  same_given f g xs each = given_with f xs ∙ ap all_given (one_by_one f g xs each) ∙ sym (given_with g xs)

pub day_keeps_steps : DayKeepsSteps
day_keeps_steps facts day name each =
    let records = records_of facts.publishers name in
    let before = entry_steps facts.today facts.criteria records in
    let after = entry_steps day facts.criteria records in
    same_given (λ (e : SourcedEntry). e.held.number) before after (entries_of facts name)
    (All-weaker (LapsesAlike facts.today day) (λ e. before e ≡ after e)
    (λ e same. same_kind facts.today day (local_criteria facts.criteria e.peer e.held.entry.criteria) records
    e.held.entry.kind same) (entries_of facts name) each)

pub day_condemns_the_same : DayCondemnsTheSame
day_condemns_the_same facts day name c v = refl
