-- Policies that are gathered in the order of a file, and then put in the order of their keys, are those that are put in
-- order one after another.
use Rattle.std.proofs.Common.{◌≡◌, ℕ, Bool, true, false, cond, List, [], ◌∷◌, ◌++◌, is_some, Option, Some, Ok, Err}
use Rattle.std.proofs.Common.{refl, sym, ap, ◌∙◌}
use Rattle.std.specs.BTreeSet.{BTreeSet, Updates}
use Rattle.toml.specs.Data.{Data, Members}
use Rattle.vet_base.specs.Gives.{Told, ◌>>=◌}
use Rattle.vet_base.specs.Keyed.{is_of, item_of}
use Rattle.vet_base.proofs.KeyedLemmas.{all_set-push, item_of-after}
use Rattle.vet_demand.specs.Policies.{has_policy, in_key_order, key_of, with_policy}
use Rattle.vet_demand.specs.PolicyKey.{policy_key_cmp}
use Rattle.vet_demand.specs.PolicyKeyLaws.{policy_key_cmp-IsAntisymmetric, policy_key_total}
use Rattle.vet_demand.specs.declared.policies.KeyedPolicy.{KeyedPolicy}
use Rattle.vet_demand.specs.declared.policy.Policy.{Policy}
use Rattle.vet_demand.specs.declared.policy_key.PolicyKey.{PolicyKey}
use Rattle.vet_files.specs.declared.found.Found.{Found}
use Rattle.vet_files.specs.Config.{all_policies_told, new_key_told, next_policy, policy_at, policy_onto}
use Rattle.vet_files.specs.GatheredPolicies.{AreTheKeys, next_gathered, policy_behind}
use Rattle.vet_files.specs.declared.notices.Notices.{Notices}
use Rattle.vet_files.specs.Notices.{no_notices}
use Rattle.vet_files.specs.Walk.{each_member}
use Rattle.vet_files.proofs.Walks.{each_member-seen, seen}

-- one more behind the others is put among those in order
in_key_order-push : (policies : List KeyedPolicy) (p : KeyedPolicy)
    → in_key_order (policies ++ p ∷ []) ≡ with_policy (in_key_order policies) p.key p.policy
in_key_order-push policies p = all_set-push policy_key_cmp policy_key_total policy_key_cmp-IsAntisymmetric key_of []
    policies p

-- ---- keys

some_or : (b : Bool) (p : KeyedPolicy) (o : Option KeyedPolicy)
    → is_some (let chosen : Option KeyedPolicy = cond b (Some p) o in chosen) ≡ cond b true (is_some o)
some_or true p o = refl
some_or false p o = refl

has_policy-push : (policies : List KeyedPolicy) (p : KeyedPolicy) (k : PolicyKey)
    → has_policy (in_key_order (policies ++ p ∷ [])) k ≡ cond (is_of policy_key_cmp key_of k p) true
    (has_policy (in_key_order policies) k)
has_policy-push policies p k =
    ap (λ ps. has_policy ps k) (in_key_order-push policies p)
    ∙ ap is_some (item_of-after policy_key_cmp policy_key_total policy_key_cmp-IsAntisymmetric key_of
    (in_key_order policies) p k (is_of policy_key_cmp key_of k p) refl)
    ∙ some_or (is_of policy_key_cmp key_of k p) p (item_of policy_key_cmp key_of (in_key_order policies) k)

-- the key of one more, put among the keys
pub AreTheKeys-push : (keys more : BTreeSet PolicyKey) (policies : List KeyedPolicy) (p : KeyedPolicy)
    → AreTheKeys keys policies
    → Updates policy_key_cmp keys more p.key true → AreTheKeys more (policies ++ p ∷ [])
AreTheKeys-push keys more policies p are updates k =
    updates.0 k ∙ ap (λ b. cond (is_of policy_key_cmp key_of k p) true b) (are k) ∙ sym (has_policy-push policies p k)

-- ---- a table

-- what was gathered, in the order of the keys
abbrev pub ordered : Found (List KeyedPolicy) → Found (List KeyedPolicy)
ordered found = record { content = in_key_order found.content; notices = found.notices }

behind-seen : (found : Found (List KeyedPolicy)) (key : PolicyKey) (more : Found Policy)
    → ordered (policy_behind found key more) ≡ policy_onto (ordered found) key more
behind-seen found key more = λ i. record {
  content = in_key_order-push found.content (record { key = key; policy = more.content }) i;
  notices = (policy_behind found key more).notices;
}

next-seen : (found : Found (List KeyedPolicy)) (text : List ℕ) (d : Data) → seen ordered (next_gathered found text d)
    ≡ next_policy (ordered found) text d
next-seen found text d = with_key (new_key_told text (in_key_order found.content))
  where
    with_table : (key : PolicyKey) (t : Told (Found Policy))
        → seen ordered (t >>= λ more. Ok (policy_behind found key more))
        ≡ (t >>= λ more. Ok (policy_onto (ordered found) key more))
    with_table key (Ok more) = ap Ok (behind-seen found key more)
    with_table key (Err refusal) = refl

    with_key : (k : Told PolicyKey)
        → seen ordered (k >>= λ key. policy_at text d >>= λ more. Ok (policy_behind found key more))
        ≡ (k >>= λ key. policy_at text d >>= λ more. Ok (policy_onto (ordered found) key more))
    with_key (Ok key) = with_table key (policy_at text d)
    with_key (Err refusal) = refl

-- what is gathered of a table in which nothing was read before
pub gathered-seen : (policies : List KeyedPolicy) (notices : Notices) (ms : Members) → policies ≡ []
    → notices ≡ no_notices
    → seen ordered (each_member next_gathered (record { content = policies; notices = notices }) ms)
    ≡ all_policies_told ms
gathered-seen policies notices ms none no_more =
    each_member-seen ordered next_gathered next_policy next-seen (record { content = policies; notices = notices }) ms
    ∙ λ i. each_member next_policy (record { content = in_key_order (none i); notices = no_more i }) ms
