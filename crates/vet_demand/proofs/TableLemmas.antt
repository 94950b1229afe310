-- What records of a dependency table add to what is kept of those before.
use Rattle.std.proofs.Common.{◌≡◌, ◌≢◌, ◌<◌, ℕ, suc, Bool, true, false, cond, List, [], ◌∷◌, ◌++◌, length, Option, Some}
use Rattle.std.proofs.Common.{None, Ordering, Less, Equal, Greater, refl, sym, ap, arith, ◌∙◌}
use Rattle.std.specs.Bool.{beq}
use Rattle.std.specs.Prelude.{find, nat_le, not, ◌==◌, ◌||◌, Ok, Err}
use Rattle.std.specs.BTreeMap.{is_at}
use Rattle.std.specs.BTreeSet.{insert_key}
use Rattle.std.specs.List.{All, AllPairs, list_any}
use Rattle.std.specs.Ordering.{is_eq, match_ordering}
use Rattle.std.proofs.lemmas.Bool.Decides.{Decides-eqb, nat_tests}
use Rattle.std.proofs.lemmas.List.Elements.{All-head, All-tail}
use Rattle.std.proofs.lemmas.List.Folds.{list_any-append}
use Rattle.std.proofs.lemmas.List.Kept.{AllPairs-cons}
use Rattle.std.proofs.lemmas.Map.Views.{All-insert_key}
use Rattle.vet_base.specs.Gives.{Told, refuse_if, ◌>>=◌}
use Rattle.vet_base.specs.declared.limits.TheConstants.{MOST_NODES}
use Rattle.vet_base.specs.declared.refusal.Limit.TheVariants.{Nodes}
use Rattle.vet_base.specs.declared.refusal.Refusal.{Refusal}
use Rattle.vet_base.specs.declared.refusal.Refusal.TheVariants.{CsvRefused, TooLarge, TwoParties}
use Rattle.vet_demand.specs.DependencyIndex.{IsTable, Knows}
use Rattle.vet_demand.specs.DependencyRecord.{numbered_cmp}
use Rattle.vet_demand.specs.DependencyTable.{double_told, is_stated, is_third, node_told}
use Rattle.vet_demand.specs.Project.{edge_cmp, edge_eq}
use Rattle.vet_demand.specs.declared.dependency_record.NumberedNode.{NumberedNode}
use Rattle.vet_demand.specs.declared.dependency_record.StatedEdge.{StatedEdge}
use Rattle.vet_demand.specs.declared.project.Edge.{Edge}
use Rattle.vet_demand.specs.declared.project.Party.{Party}

-- ---- nodes

abbrev before : List NumberedNode → NumberedNode → Option NumberedNode
before nodes n = find (λ m. is_eq (numbered_cmp n m)) nodes

-- of a node with its number, whether it stood before and the limit are left to tell
numbered_told : (number : ℕ) (nodes : List NumberedNode) (n : NumberedNode) → n.number ≡ length nodes
    → node_told number nodes n ≡ (double_told number n.node.party (before nodes n)
    >>= (λ _. refuse_if (nat_le MOST_NODES (length nodes)) (TooLarge Nodes)))
numbered_told number nodes n e = rw ((Decides-eqb n.number (length nodes)).1 e) refl

-- its fault is the one of a node that stood before, where there is such
pub double_refused : (number : ℕ) (nodes : List NumberedNode) (n : NumberedNode) (e : Refusal) → n.number ≡ length nodes
    → double_told number n.node.party (before nodes n) ≡ Err e → node_told number nodes n ≡ Err e
double_refused number nodes n e own h = numbered_told number nodes n own
    ∙ ap (λ (t : Told (Unit {0})). t >>= (λ _. limit)) h
  where
    limit : Told (Unit {0})
    limit = refuse_if (nat_le MOST_NODES (length nodes)) (TooLarge Nodes)

-- else the limit decides
pub limit_decides : (number : ℕ) (nodes : List NumberedNode) (n : NumberedNode) → n.number ≡ length nodes
    → double_told number n.node.party (before nodes n) ≡ Ok (tt {0})
    → node_told number nodes n ≡ refuse_if (nat_le MOST_NODES (length nodes)) (TooLarge Nodes)
limit_decides number nodes n own h = numbered_told number nodes n own
    ∙ ap (λ (t : Told (Unit {0})). t >>= (λ _. limit)) h
  where
    limit : Told (Unit {0})
    limit = refuse_if (nat_le MOST_NODES (length nodes)) (TooLarge Nodes)

-- no fault: it didn't stand before
not_before : (number : ℕ) (party : Party) (o : Option NumberedNode) → double_told number party o ≡ Ok (tt {0})
    → o ≡ None
not_before number party None h = refl
not_before number party (Some m) h = elim (beq (is_third m.node.party) (is_third party)) as
    (λ b. cond b (Err (CsvRefused number)) (Err (TwoParties number)) ≡ Ok (tt {0}) → Some m ≡ None) [
      | true ↦
          λ e. cc e
      | false ↦ λ e. cc e
    ] h

no_fault : (a b : Bool) (d : Told (Unit {0})) (e f : Refusal)
    → (refuse_if a e >>= (λ _. d) >>= (λ _. refuse_if b f)) ≡ Ok (tt {0})
    → (a ≡ false) × (d ≡ Ok (tt {0})) × (b ≡ false)
no_fault true b d e f h = cc h
no_fault false b (Err x) e f h = cc h
no_fault false true (Ok x) e f h = cc h
no_fault false false (Ok x) e f h = (refl, refl, refl)

-- a node without a fault has its number, didn't stand before, and goes not past the limit
pub without_fault : (number : ℕ) (nodes : List NumberedNode) (n : NumberedNode) → node_told number nodes n ≡ Ok (tt {0})
    → (n.number ≡ length nodes) × (before nodes n ≡ None) × (length nodes < MOST_NODES)
without_fault number nodes n h =
    let parts = no_fault (not (n.number == length nodes)) (nat_le MOST_NODES (length nodes))
    (double_told number n.node.party (before nodes n)) (CsvRefused number) (TooLarge Nodes) h in (
      grind (arith, nat_tests, parts.0),
      not_before number n.node.party (before nodes n) parts.1,
      grind (arith, nat_tests, parts.2),
    )

-- ---- one node more

pub length_put : (n : NumberedNode) (nodes : List NumberedNode) → before nodes n ≡ None
    → length (insert_key numbered_cmp nodes n) ≡ suc (length nodes)
length_put n [] h = refl
length_put n (m ∷ rest) h = step (length_put n rest) (numbered_cmp n m) h
  where
    step : (before rest n ≡ None → length (insert_key numbered_cmp rest n) ≡ suc (length rest)) → (r : Ordering)
        → cond (is_eq r) (Some m) (before rest n) ≡ None
        → length (match_ordering r (n ∷ m ∷ rest) (m ∷ rest) (m ∷ insert_key numbered_cmp rest n)) ≡ suc
        (suc (length rest))
    step more Less e = refl
    step more Equal e = cc e
    step more Greater e = ap suc (more e)

abbrev Differ : NumberedNode → NumberedNode → Type 0
Differ a b = a.number ≢ b.number

differ_head : (m : NumberedNode) (rest : List NumberedNode) → AllPairs Differ (m ∷ rest) → All (Differ m) rest
differ_head m rest h k d l = h 0 (suc k) d (omega arith) (omega arith)

differ_tail : (m : NumberedNode) (rest : List NumberedNode) → AllPairs Differ (m ∷ rest) → AllPairs Differ rest
differ_tail m rest h i j d l u = h (suc i) (suc j) d (omega arith) (omega arith)

differ_put : (n : NumberedNode) (nodes : List NumberedNode) → AllPairs Differ nodes → All (Differ n) nodes
    → AllPairs Differ (insert_key numbered_cmp nodes n)
differ_put n [] h others = AllPairs-cons Differ n [] others h
differ_put n (m ∷ rest) h others =
    step (differ_put n rest (differ_tail m rest h) (All-tail (Differ n) m rest others)) (numbered_cmp n m)
  where
    step : AllPairs Differ (insert_key numbered_cmp rest n) → (r : Ordering)
        → AllPairs Differ (match_ordering r (n ∷ m ∷ rest) (m ∷ rest) (m ∷ insert_key numbered_cmp rest n))
    step more Less = AllPairs-cons Differ n (m ∷ rest) others h
    step more Equal = h
    step more Greater =
        AllPairs-cons Differ m (insert_key numbered_cmp rest n)
        (All-insert_key numbered_cmp n (Differ m) rest (differ_head m rest h)
        (λ e. All-head (Differ n) m rest others (sym e))) more

-- what was kept still is, with the next node
pub IsTable-node : (nodes : List NumberedNode) (edges : List StatedEdge) (n : NumberedNode) → IsTable nodes edges
    → n.number ≡ length nodes → before nodes n ≡ None → length nodes < MOST_NODES
    → IsTable (insert_key numbered_cmp nodes n) edges
IsTable-node nodes edges n table number new few =
    let more = length_put n nodes new in
    let all : All (λ (m : NumberedNode). m.number < suc (length nodes)) (insert_key numbered_cmp nodes n) =
    All-insert_key numbered_cmp n (λ (m : NumberedNode). m.number < suc (length nodes)) nodes
    (λ k d l. let below = table.numbers_below k d l in omega (arith, below)) (omega (arith, number)) in
    record {
      numbers_below = λ k d l. let below = all k d l in omega (arith, below, more);
      numbers_differ = differ_put n nodes table.numbers_differ (λ k d l e. let below = table.numbers_below k d l in
          omega (arith, below, number, e));
      few_nodes = omega (arith, more, few);
      few_edges = table.few_edges;
    }

-- ---- one edge more

with_last : (b x : Bool) → cond b true x ≡ (x || (b || false))
with_last true true = refl
with_last true false = refl
with_last false true = refl
with_last false false = refl

-- it is known with those before
pub Knows-edge : (edges : List StatedEdge) (known more : List Edge) (e : StatedEdge) → Knows edges known
    → ((q : Edge) → list_any (is_at (edge_cmp q)) more ≡ cond (is_at (edge_cmp e.edge) q) true
    (list_any (is_at (edge_cmp q)) known))
    → Knows (edges ++ (e ∷ [])) more
Knows-edge edges known more e was now q =
    now q ∙ ap (cond (is_at (edge_cmp e.edge) q) true) (was q)
    ∙ with_last (is_at (edge_cmp e.edge) q) (is_stated edges q)
    ∙ sym (list_any-append (λ (s : StatedEdge). edge_eq s.edge q) edges (e ∷ []))
