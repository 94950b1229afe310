-- Policies that are read in any order are in the order of their keys.
use Rattle.std.proofs.Common.{◌≡◌, ℕ, suc, Bool, true, false, cond, List, [], ◌∷◌, is_some, map}
use Rattle.std.proofs.Common.{find, get_or, Option, Some, None, refl, sym, ap, ◌∙◌, inl, inr, Ordering, Less, Equal}
use Rattle.std.proofs.Common.{Greater, arith}
use Rattle.std.specs.Prelude.{Ok}
use Rattle.std.specs.Cmp.{IsTotalOrder, tied_itself}
use Rattle.std.specs.List.{All, AllPairs}
use Rattle.std.specs.Ordering.{is_eq}
use Rattle.std.proofs.lemmas.List.Elements.{All-head, All-tail}
use Rattle.toml.specs.Data.{Data, table}
use Rattle.vet_base.specs.Items.{IsIn, NamedOnce}
use Rattle.vet_base.specs.Keyed.{all_set, item_of, is_of, with_item}
use Rattle.vet_base.proofs.KeyedItems.{all_set_is, of_with_item}
use Rattle.vet_demand.specs.Policies.{IsInKeyOrder, has_policy, key_of}
use Rattle.vet_demand.specs.PolicyKey.{key_text, read_key, policy_key_cmp}
use Rattle.vet_demand.specs.PolicyKeyLaws.{policy_key_cmp-IsAntisymmetric, policy_key_total}
use Rattle.vet_demand.specs.declared.policies.KeyedPolicy.{KeyedPolicy}
use Rattle.vet_demand.specs.declared.policy_key.PolicyKey.{PolicyKey}
use Rattle.vet_files.specs.Config.{next_policy}
use Rattle.vet_files.specs.ConfigTable.{policies_table, policy_table}
use Rattle.vet_files.specs.ReadAgain.{ReadsPolicy}
use Rattle.vet_files.specs.Tables.{members_from}
use Rattle.vet_files.specs.Walk.{each_member}
use Rattle.vet_files.proofs.NamedOnce.{All-IsIn}
use Rattle.vet_files.proofs.NamedOnce.{by_name-sorted, sorted, sorted-All, sorted-NamedOnce, sorted-SameItems}
use Rattle.vet_files.proofs.PackagesRead.{all_of}

-- ---- entries by keys in a total order, in which only equals tie

module _ {K E : Type 0} (cmp : K → K → Ordering) (total : IsTotalOrder cmp) (only : (a b : K) → cmp a b ≡ Equal → a ≡ b)
    (key : E → K) where
  -- no entry has this one's key
  abbrev IsNew : List E → E → Type 0
  IsNew found e = (a : E) → IsIn a found → key a ≡ key e → ⊥

  -- ---- one after the other

  -- none of these has the key of one that was found, or of another of these
  abbrev AreNew : List E → List E → Type 0
  AreNew found [] = Unit {0}
  AreNew found (e ∷ rest) = IsNew found e × AreNew (with_item cmp key found e) rest

  abbrev KeyedOnce : List E → Type 0
  KeyedOnce es = AllPairs (λ a b. key a ≡ key b → ⊥) es

  others_once : (e : E) (rest : List E) → KeyedOnce (e ∷ rest) → KeyedOnce rest
  others_once e rest once i j d l m = once (suc i) (suc j) d (omega arith) (omega arith)

  are_new : (found es : List E) → ((e : E) → IsIn e es → IsNew found e) → KeyedOnce es → AreNew found es
  are_new found [] new once = tt
  are_new found (e ∷ rest) new once =
      (new e (inl refl), are_new (with_item cmp key found e) rest later (others_once e rest once))
    where
      later : (x : E) → IsIn x rest → IsNew (with_item cmp key found e) x
      later x among a held same = elim (of_with_item cmp total only key found e a held) [
        | inl here ↦ All-IsIn (λ y. key e ≡ key y → ⊥) x rest (λ k d l. once 0 (suc k) d (omega arith) (omega arith))
            among (ap key (sym here) ∙ same)
        | inr before ↦ new x (inr among) a before same
      ]

  once-AreNew : (es : List E) → KeyedOnce es → AreNew [] es
  once-AreNew es once = are_new [] es (λ e among a none. absurd none) once

  -- a key that none has is not found
  none_found : (found : List E) (e : E) → IsNew found e → is_some (item_of cmp key found (key e)) ≡ false
  none_found [] e new = refl
  none_found (a ∷ rest) e new = passed (is_of cmp key (key e) a) refl (none_found rest e (λ b among. new b (inr among)))
    where
      passed : (b : Bool) → is_of cmp key (key e) a ≡ b → is_some (find (is_of cmp key (key e)) rest) ≡ false
          → is_some (let o : Option E = cond b (Some a) (find (is_of cmp key (key e)) rest) in o) ≡ false
      passed true h more = absurd (new a (inl refl) (only (key a) (key e) (tied (cmp (key a) (key e)) h)))
        where
          tied : (r : Ordering) → is_eq r ≡ true → r ≡ Equal
          tied Less h = cc h
          tied Equal h = refl
          tied Greater h = cc h
      passed false h more = more

-- ---- policies

abbrev text_of : KeyedPolicy → List ℕ
text_of p = key_text p.key

abbrev table_of_policy : KeyedPolicy → Data
table_of_policy p = table (policy_table p.policy)

-- one more policy
abbrev put_in : List KeyedPolicy → KeyedPolicy → List KeyedPolicy
put_in found p = with_item policy_key_cmp key_of found p

abbrev put_all_in : List KeyedPolicy → List KeyedPolicy → List KeyedPolicy
put_all_in = all_set policy_key_cmp key_of

abbrev AreNewPolicies : List KeyedPolicy → List KeyedPolicy → Type 0
AreNewPolicies = AreNew policy_key_cmp policy_key_total policy_key_cmp-IsAntisymmetric key_of

policy_next : (found : List KeyedPolicy) (p : KeyedPolicy) → ReadsPolicy p → has_policy found p.key ≡ false
    → next_policy (all_of found) (text_of p) (table_of_policy p) ≡ Ok (all_of (put_in found p))
policy_next found p reads absent = rw (reads.keyed, absent, reads.read _) refl

policies_walked : (ps : List KeyedPolicy) → All ReadsPolicy ps → (found : List KeyedPolicy) → AreNewPolicies found ps
    → each_member next_policy (all_of found) (members_from (map (λ p. (text_of p, table_of_policy p)) ps))
    ≡ Ok (all_of (put_all_in found ps))
policies_walked [] reads found new = refl
policies_walked (p ∷ rest) reads found new =
    let absent = none_found policy_key_cmp policy_key_total policy_key_cmp-IsAntisymmetric key_of found p new.0 in
    let more = policies_walked rest (All-tail ReadsPolicy p rest reads) (put_in found p) new.1 in
    rw (policy_next found p (All-head ReadsPolicy p rest reads) absent) more

-- a text that reads as a key is that of no other key
texts_differ : (a b : KeyedPolicy) → ReadsPolicy a → ReadsPolicy b → policy_key_cmp a.key b.key ≡ Less
    → text_of a ≡ text_of b → ⊥
texts_differ a b reads_a reads_b up same =
    cc (sym up ∙ ap (λ k. policy_key_cmp k b.key) (same_key (sym reads_a.keyed ∙ ap read_key same ∙ reads_b.keyed))
    ∙ tied_itself policy_key_total b.key)
  where
    held : Option PolicyKey → PolicyKey
    held None = a.key
    held (Some k) = k

    same_key : Some a.key ≡ Some b.key → a.key ≡ b.key
    same_key e = ap held e

texts_once : (policies : List KeyedPolicy) → IsInKeyOrder policies → All ReadsPolicy policies
    → NamedOnce text_of policies
texts_once policies up reads i j d l m = texts_differ (get_or policies i d) (get_or policies j d)
    (reads i d (omega (arith, l, m))) (reads j d m) (up i j d l m)

keys_once : (ps : List KeyedPolicy) → NamedOnce text_of ps
    → KeyedOnce policy_key_cmp policy_key_total policy_key_cmp-IsAntisymmetric key_of ps
keys_once ps once i j d l m same = once i j d l m (ap key_text same)

-- policies that are written by their keys' texts are read as they are
pub policies_read : (policies : List KeyedPolicy) → IsInKeyOrder policies → All ReadsPolicy policies
    → each_member next_policy (all_of []) (policies_table policies) ≡ Ok (all_of policies)
policies_read policies up reads =
    let listed = sorted text_of policies in
    let once = keys_once listed (sorted-NamedOnce text_of policies) in
    let new : AreNewPolicies [] listed = once-AreNew policy_key_cmp policy_key_total policy_key_cmp-IsAntisymmetric
    key_of listed once in
    let same = sorted-SameItems text_of policies (texts_once policies up reads) in
    ap (each_member next_policy (all_of [])) (by_name-sorted text_of table_of_policy policies)
    ∙ policies_walked listed (sorted-All text_of ReadsPolicy policies reads) [] new
    ∙ ap (λ ps. Ok (all_of ps))
    (all_set_is policy_key_cmp policy_key_total policy_key_cmp-IsAntisymmetric key_of policies listed up
    (same.1, same.0))
