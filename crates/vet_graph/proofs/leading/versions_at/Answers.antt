use Rattle.std.proofs.Common.{◌≡◌, ◌∙◌, Bool, true, cond, inl, inr, get_or, map, take, ap, refl, sym, subst, rules}
use Rattle.std.specs.BTreeMap.{is_at}
use Rattle.std.specs.BTreeSet.{contains}
use Rattle.std.specs.Cmp.{tied_itself}
use Rattle.std.specs.List.{Contains}
use Rattle.std.proofs.lemmas.List.{get_or_default}
use Rattle.std.proofs.lemmas.List.Elements.{Contains-push_cases}
use Rattle.vet_base.specs.Version.{VersionValue}
use Rattle.vet_base.specs.VersionOrder.{version_cmp}
use Rattle.vet_base.specs.VersionOrderLaws.{version_total}
use Rattle.vet_demand.proofs.Lists.{one_more}
use Rattle.vet_graph.specs.Search.{no_step, version_at, versions_at}
use Rattle.vet_graph.specs.declared.guarded.GuardedStep.{GuardedStep}
use Rattle.vet_graph.proofs.Reach.{versions-push}
use Rattle.vet_graph.proofs.leading.versions_at.Goals as goal

-- a set with one version more has it, and those that it had
had : (k v : VersionValue) (old new : Bool) → new ≡ cond (is_at (version_cmp k) v) true old → old ≡ true → new ≡ true
had k v old new is held = is ∙ ap (cond (is_at (version_cmp k) v) true) held ∙ either (is_at (version_cmp k) v)
  where
    either : (b : Bool) → cond b true true ≡ true
    either b = search rules

itself : (v : VersionValue) → is_at (version_cmp v) v ≡ true
itself v = rw (tied_itself version_total v) refl

pub places-preserved : goal.places-preserved
places-preserved c v among =
    let steps = c.args.steps.now in
    let places = c.args.places.now in
    let i = c.places.place-index in
    let k = c.in_ok-clone.field-0 in
    let p = get_or places i 0 in
    let all = subst (λ l. Contains l v) (ap (versions_at steps) (one_more places i 0 c.places-test.true)
    ∙ versions-push steps (take i places) p) among in
    elim (Contains-push_cases (versions_at steps (take i places)) (version_at steps p) v all) [
      | inl old ↦ had k v _ _ (c.in_ok-insert.ensures.updates.0 v) (c.places.invariant v old)
      | inr last ↦ (let copied : k ≡ c.index-steps-place.result.step.target = search rules in
          let target : c.index-steps-place.result.step.target ≡ version_at steps p =
          ap (λ (g : GuardedStep). g.step.target) (c.index-steps-place.is
          ∙ get_or_default steps p c.index-steps-place.result no_step (c.requires i 0 c.places-test.true)) in
          let same : k ≡ v = copied ∙ target ∙ last in
          c.in_ok-insert.ensures.updates.0 v ∙ ap (λ w. cond (is_at (version_cmp w) v) true
          (contains version_cmp c.places.versions v)) same ∙ ap (λ b. cond b true
          (contains version_cmp c.places.versions v)) (itself v))
    ]
