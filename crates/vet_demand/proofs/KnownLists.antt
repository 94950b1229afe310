-- What is needed is in the table, where the table has what policies name.
use Rattle.std.proofs.Common.{◌≡◌, ℕ, Bool, true, false, cond, List, [], ◌∷◌, Option, Some, None, is_some, refl, sym}
use Rattle.std.proofs.Common.{ap, subst, ◌∙◌}
use Rattle.std.specs.FinMap as map
use Rattle.std.specs.FinSet as set
use Rattle.std.specs.List.{All}
use Rattle.std.specs.Option.{option_or}
use Rattle.std.specs.Ordering.{nat_cmp}
use Rattle.std.specs.Cmp.Lexicographic.{slice_cmp}
use Rattle.std.specs.Prelude.{find, unwrap_or}
use Rattle.std.proofs.lemmas.Bool.{false≢true}
use Rattle.std.proofs.lemmas.List.Elements.{All-head, All-tail}
use Rattle.std.proofs.lemmas.Option.{same_Some}
use Rattle.vet_base.specs.Criteria.{Criteria, IsTable, InClosure, safe_to_deploy, safe_to_run}
use Rattle.vet_base.specs.Criteria.InClosure.{named, implied}
use Rattle.vet_base.specs.Keyed.{is_of, item_of}
use Rattle.vet_base.specs.Names.{NameSet}
use Rattle.vet_base.proofs.Closing.{closure-law, only_alone}
use Rattle.vet_demand.proofs.Lists.{map_gives}
use Rattle.vet_demand.specs.DemandOf.{NamesAreKnown, PoliciesAreKnown, PolicyIsKnown}
use Rattle.vet_demand.specs.DependencyCriteria.{criteria_for, item_name}
use Rattle.vet_demand.specs.Needs.{IsNeeded, covers, node_at, own_at}
use Rattle.vet_demand.specs.Needs.IsNeeded.{own, passed, passed_on}
use Rattle.vet_demand.specs.Passed.{default_criteria, dev_criteria, dev_passed, listed_criteria, only, own_criteria}
use Rattle.vet_demand.specs.Passed.{passed_criteria, policy_for, settled_criteria}
use Rattle.vet_demand.specs.Policies.{key_of, policy_of}
use Rattle.vet_demand.specs.PolicyKey.{policy_key_cmp}
use Rattle.vet_demand.specs.Project.{ProjectValue}
use Rattle.vet_demand.specs.declared.dependency_criteria.DependencyItem.{DependencyItem}
use Rattle.vet_demand.specs.declared.policies.KeyedPolicy.{KeyedPolicy}
use Rattle.vet_demand.specs.declared.policy.Policy.{Policy}
use Rattle.vet_demand.specs.declared.policy_key.PolicyKey.{PolicyKey}
use Rattle.vet_demand.specs.declared.project.EdgeKind.{EdgeKind}
use Rattle.vet_demand.specs.declared.project.EdgeKind.TheVariants.{Normal, Build, Dev}
use Rattle.vet_demand.specs.declared.project.Node.{Node}
use Rattle.vet_demand.specs.declared.project.Party.{Party}
use Rattle.vet_demand.specs.declared.project.Party.TheVariants.{Root, First, Third}

-- what holds of all holds of the one that is found
pub All-found : {X : Type 0} (P : X → Type 0) (test : X → Bool) (xs : List X) → All P xs → (x : X)
    → find test xs ≡ Some x → P x
All-found P test [] all x e = cc e
All-found P test (y ∷ ys) all x e = step (test y) (All-found P test ys (All-tail P y ys all) x) e
  where
    step : (b : Bool) → (find test ys ≡ Some x → P x) → cond b (Some y) (find test ys) ≡ Some x → P x
    step true more at = subst P (same_Some y x at) (All-head P y ys all)
    step false more at = more at

module _ (criteria : Criteria) (table : IsTable criteria) where
  Known : NameSet → Type 0
  Known names = (c : List ℕ) → set.contains names c ≡ true → map.contains_key criteria c ≡ true

  IsKnown : Option Policy → Type 0
  IsKnown o = (p : Policy) → o ≡ Some p → PolicyIsKnown criteria p

  closed : (names : NameSet) → Known names → (c : List ℕ) → InClosure criteria names c
      → map.contains_key criteria c ≡ true
  unfolding Known
  closed names known c (named h) = known c h
  closed names known c (implied {m = m} inner h) = table.known m c h

  covered : (names : NameSet) → Known names → (c : List ℕ) → covers criteria c names ≡ true
      → map.contains_key criteria c ≡ true
  covered names known c h = closed names known c ((closure-law criteria names c).0 h)

  deploy_known : Known (only safe_to_deploy)
  unfolding Known
  deploy_known c h = ap (map.contains_key criteria) (only_alone safe_to_deploy c h) ∙ ap is_some table.deploy

  run_known : Known (only safe_to_run)
  unfolding Known
  run_known c h = ap (map.contains_key criteria) (only_alone safe_to_run c h) ∙ ap is_some table.run

  none_known : Known set.empty
  unfolding Known
  none_known c h = absurd (false≢true (sym (set.contains-empty (slice_cmp nat_cmp) c) ∙ h))

  or_known : (o : Option NameSet) (d : NameSet) → NamesAreKnown criteria o → Known d → Known (unwrap_or o d)
  unfolding Known
  or_known None d h k = k
  or_known (Some names) d h k = h names refl

  settled_known : (party : Party) (o : Option Policy) → IsKnown o → NamesAreKnown criteria (settled_criteria party o)
  unfolding IsKnown
  settled_known Root None h = λ names e. cc e
  settled_known Root (Some p) h = (h p refl).own
  settled_known First None h = λ names e. cc e
  settled_known First (Some p) h = (h p refl).own
  settled_known Third o h = λ names e. cc e

  default_known : (party : Party) → Known (default_criteria party)
  default_known Root = deploy_known
  default_known First = none_known
  default_known Third = none_known

  own_known : (party : Party) (o : Option Policy) → IsKnown o → Known (own_criteria party o)
  own_known party o h = or_known (settled_criteria party o) (default_criteria party) (settled_known party o h)
      (default_known party)

  item_known : (p : Policy) (name : List ℕ) → PolicyIsKnown criteria p
      → NamesAreKnown criteria (criteria_for p.dependency_criteria name)
  item_known p name h names e =
      let r = map_gives (λ (i : DependencyItem). i.criteria)
      (item_of (slice_cmp nat_cmp) item_name p.dependency_criteria name) names e in
      let known = All-found (λ (i : DependencyItem). NamesAreKnown criteria (Some i.criteria))
      (is_of (slice_cmp nat_cmp) item_name name) p.dependency_criteria h.dependencies r.0 r.1 in
      known names (ap (λ (n : NameSet). Some n) r.2)

  listed_known : (o : Option Policy) (name : List ℕ) → IsKnown o → NamesAreKnown criteria (listed_criteria o name)
  unfolding IsKnown
  listed_known None name h = λ names e. cc e
  listed_known (Some p) name h = item_known p name (h p refl)

  dev_known : (o : Option Policy) → IsKnown o → Known (dev_criteria o)
  unfolding IsKnown
  dev_known None h = run_known
  dev_known (Some p) h = or_known p.dev_criteria (only safe_to_run) (h p refl).dev run_known

  dev_passed_known : (party : Party) (o : Option Policy) (name : List ℕ) → IsKnown o → Known (dev_passed party o name)
  dev_passed_known Root o name h = or_known (listed_criteria o name) (dev_criteria o) (listed_known o name h)
      (dev_known o h)
  dev_passed_known First o name h = or_known (listed_criteria o name) (dev_criteria o) (listed_known o name h)
      (dev_known o h)
  dev_passed_known Third o name h = none_known

  passed_known : (kind : EdgeKind) (party : Party) (o : Option Policy) (name : List ℕ) → IsKnown o
      → NamesAreKnown criteria (passed_criteria kind party o name)
  unfolding Known
  passed_known Normal party o name h = listed_known o name h
  passed_known Build party o name h = listed_known o name h
  passed_known Dev party o name h =
      λ names e c held. dev_passed_known party o name h c
      (subst (λ n. set.contains n c ≡ true) (sym (same_Some _ names e)) held)

  module _ (policies : List KeyedPolicy) (known : PoliciesAreKnown criteria policies) where
    policy_known : (key : PolicyKey) → IsKnown (policy_of policies key)
    unfolding IsKnown
    policy_known key p e =
        let r = map_gives (λ (k : KeyedPolicy). k.policy) (item_of policy_key_cmp key_of policies key) p e in
        subst (PolicyIsKnown criteria) r.2
        (All-found (λ (k : KeyedPolicy). PolicyIsKnown criteria k.policy) (is_of policy_key_cmp key_of key)
        policies known r.0 r.1)

    either_known : (a b : Option Policy) → IsKnown a → IsKnown b → IsKnown (option_or a b)
    unfolding IsKnown
    either_known None b h k = k
    either_known (Some p) b h k = h

    for_known : (node : Node) → IsKnown (policy_for policies node)
    for_known node = either_known _ _
        (policy_known (record { «package» = node.«package»; version = Some node.version }))
        (policy_known (record { «package» = node.«package»; version = None }))

    -- what is needed somewhere is in the table
    pub needed_known : (project : ProjectValue) (c : List ℕ) (v : ℕ) → IsNeeded policies criteria project c v
        → map.contains_key criteria c ≡ true
    unfolding Known
    needed_known project c v (own low h) =
        covered (own_at policies project.nodes v)
        (own_known (node_at project.nodes v).party (policy_for policies (node_at project.nodes v))
        (for_known (node_at project.nodes v))) c h
    needed_known project c v (passed e held t names is h) =
        covered names
        (passed_known e.kind (node_at project.nodes e.from).party
        (policy_for policies (node_at project.nodes e.from)) (node_at project.nodes e.to).«package»
        (for_known (node_at project.nodes e.from)) names is)
        c h
    needed_known project c v (passed_on e held t is at) = needed_known project c e.from at
