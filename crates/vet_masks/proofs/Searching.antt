-- What the searches of a package spend.
use Rattle.std.proofs.Common.{◌≡◌, ◌+◌, ◌↔◌, Bool, IfOk, IsSomeAnd, IsTrue, Ok, Err, Result, List, None, Some}
use Rattle.std.proofs.Common.{sym, ap, subst, ◌∙◌}
use Rattle.vet_base.specs.Words.{Name}
use Rattle.vet_base.specs.declared.refusal.Refusal.{Refusal}
use Rattle.vet_entries.specs.Facts.{Facts}
use Rattle.vet_entries.specs.Step.{steps_of}
use Rattle.vet_entries.specs.declared.step.Step.{Step}
use Rattle.vet_graph.specs.Chain.{Condemned}
use Rattle.vet_graph.specs.StandingOf.{condemned_of}
use Rattle.vet_masks.specs.declared.keeper.MaskKeeper.{MaskKeeper}
use Rattle.vet_masks.specs.declared.kept.KeptPackage.{KeptPackage}
use Rattle.vet_masks.specs.declared.kept.Searched.{Searched}
use Rattle.vet_masks.specs.Keeper.{HasGrown, IsSpent, looks_of}
use Rattle.vet_masks.specs.Kept.{GoesOn, IsGrown, IsKept}
use Rattle.vet_masks.specs.Packages.{IsKeptOf, kept_at}

-- of these steps and condemned versions, the package's own
pub kept-of : (facts : Facts) (name : Name) (steps : List Step) (condemned : Condemned) (r : Result Searched Refusal)
    → steps ≡ steps_of facts name → condemned ≡ condemned_of facts name
    → IfOk r (λ s. IsKept steps condemned s.kept) → IfOk r (λ s. IsKeptOf facts name s.kept)
kept-of facts name steps condemned (Ok s) e f h =
    subst (λ (x : List Step × Condemned). IsKept x.0 x.1 s.kept) (λ i. (e i, f i)) h
kept-of facts name steps condemned (Err x) e f h = tt

module _ (k : MaskKeeper) (facts : Facts) (name : Name) where
  abbrev IsSpentBy : Searched → Type 0
  IsSpentBy s = IsSpent k facts (record { «package» = name; kept = s.kept; looks = s.looks })

  -- where something is kept, by whether it goes on
  pub spent-after : (old : KeptPackage) (same : Bool) (steps : List Step) (condemned : Condemned)
      (r : Result Searched Refusal) → (IsTrue same ↔ (k.criteria ≡ Some facts.criteria))
      → kept_at k.packages name ≡ Some old → steps ≡ steps_of facts name → condemned ≡ condemned_of facts name
      → IfOk r (λ s. GoesOn same steps condemned old → old.classes.looks.count + s.looks ≡ s.kept.classes.looks.count)
      → IfOk r (λ s. ¬ GoesOn same steps condemned old → s.looks ≡ s.kept.classes.looks.count) → IfOk r IsSpentBy
  spent-after old same steps condemned (Ok s) table is e f grown anew = record {
    grown = λ g. ap (λ o. looks_of o + s.looks) is ∙ grown (there g);
    anew = λ n. anew (λ g. n (back g));
  }
    where
      there : HasGrown k facts name → GoesOn same steps condemned old
      there g = (
        table.1 g.0,
        subst (λ (x : List Step × Condemned). IsGrown x.0 x.1 old) (λ i. (sym e i, sym f i))
            (subst (λ o. IsSomeAnd o (IsGrown (steps_of facts name) (condemned_of facts name))) is g.1),
      )

      back : GoesOn same steps condemned old → HasGrown k facts name
      back g = (
        table.0 g.0,
        subst (λ o. IsSomeAnd o (IsGrown (steps_of facts name) (condemned_of facts name)))
            (sym is) (subst (λ (x : List Step × Condemned). IsGrown x.0 x.1 old) (λ i. (e i, f i)) g.1),
      )
  spent-after old same steps condemned (Err x) table is e f grown anew = tt

  -- where nothing is kept
  pub spent-anew : (r : Result Searched Refusal) → kept_at k.packages name ≡ None
      → IfOk r (λ s. s.looks ≡ s.kept.classes.looks.count) → IfOk r IsSpentBy
  spent-anew (Ok s) none h = record {
    grown = λ g. absurd (subst (λ o. IsSomeAnd o (IsGrown (steps_of facts name) (condemned_of facts name))) none g.1);
    anew = λ n. h;
  }
  spent-anew (Err x) none h = tt
