-- The tables by their places.
use Rattle.std.proofs.Common.{◌≡◌, ◌⊎◌, inl, inr, ℕ, List, [], ◌∷◌, Bool, true, false, Some, Option, rules}
use Rattle.std.proofs.Common.{length, map, slice_get, slice_index_or, take, ◌==◌, ◌+◌, ◌++◌, ◌<◌, ◌≤◌, arith, ap, refl}
use Rattle.std.proofs.Common.{eq-or-lt_of_le, subst, sym, ◌∙◌}
use Rattle.std.proofs.lemmas.Bool.{eqb-true, eqb-false}
use Rattle.std.proofs.lemmas.List.{get_or-map, take_more}
use Rattle.std.proofs.lemmas.Option.{get_or_from_slice_get}
use Rattle.std.specs.List.{AllByRecursion}
use Rattle.vet_base.specs.Items.{IsIn}
use Rattle.vet_tables.specs.Forms.{code, form_of, tables}
use Rattle.vet_tables.specs.declared.table_name.DaysTable.TheVariants.{Today, Lasts}
use Rattle.vet_tables.specs.declared.table_name.DemandTable.TheVariants.{Policies, Nodes, Edges}
use Rattle.vet_tables.specs.declared.table_name.DeskTable.TheVariants.{Members, Reviews}
use Rattle.vet_tables.specs.declared.table_name.FactsTable.TheVariants.{Criteria, Entries, Publishers, Peers}
use Rattle.vet_tables.specs.declared.table_name.TableName.{TableName}
use Rattle.vet_tables.specs.declared.table_name.TableName.TheVariants.{Meta, Facts, Demand, Standing, Moves, Desk, Days}
use Rattle.vet_tables.specs.declared.table_name.TheConstants.{TABLE_COUNT}

-- each is one of all
pub among_tables : (n : TableName) → IsIn n tables
among_tables Meta = inl refl
among_tables (Facts Criteria) = inr (inl refl)
among_tables (Facts Entries) = inr (inr (inl refl))
among_tables (Facts Publishers) = inr (inr (inr (inl refl)))
among_tables (Demand Policies) = inr (inr (inr (inr (inl refl))))
among_tables (Facts Peers) = inr (inr (inr (inr (inr (inl refl)))))
among_tables (Demand Nodes) = inr (inr (inr (inr (inr (inr (inl refl))))))
among_tables (Demand Edges) = inr (inr (inr (inr (inr (inr (inr (inl refl)))))))
among_tables Standing = inr (inr (inr (inr (inr (inr (inr (inr (inl refl))))))))
among_tables Moves = inr (inr (inr (inr (inr (inr (inr (inr (inr (inl refl)))))))))
among_tables (Desk Members) = inr (inr (inr (inr (inr (inr (inr (inr (inr (inr (inl refl))))))))))
among_tables (Desk Reviews) = inr (inr (inr (inr (inr (inr (inr (inr (inr (inr (inr (inl refl)))))))))))
among_tables (Days Today) = inr (inr (inr (inr (inr (inr (inr (inr (inr (inr (inr (inr (inl refl))))))))))))
among_tables (Days Lasts) = inr (inr (inr (inr (inr (inr (inr (inr (inr (inr (inr (inr (inr (inl refl)))))))))))))

-- what holds of each of them, one after the other, holds of every table
pub each : (P : TableName → Type 0) → AllByRecursion P tables → (n : TableName) → P n
each P all n = all_by P tables n all (among_tables n)
  where
    all_by : (P : TableName → Type 0) (names : List TableName) (n : TableName) → AllByRecursion P names → IsIn n names
        → P n
    all_by P [] n all none = absurd none
    all_by P (name ∷ more) n all (inl is) = subst P (sym is) all.0
    all_by P (name ∷ more) n all (inr i) = all_by P more n all.1 i

pub decoded : (n : TableName) → slice_get tables (code n) ≡ Some n
decoded n = each (λ n. slice_get tables (code n) ≡ Some n) (assumption refl) n

pub same_code : (m n : TableName) → code m ≡ code n → m ≡ n
same_code m n e = let both : ◌≡◌ {A = Option TableName} (Some m) (Some n) = sym (decoded m)
    ∙ ap (slice_get tables) e ∙ decoded n in cc

-- the same table, or another
pub same_or_other : (m n : TableName) → (m ≡ n) ⊎ (code m ≡ code n → ⊥)
same_or_other m n = go (code m == code n) refl
  where
    go : (b : Bool) → (code m == code n) ≡ b → (m ≡ n) ⊎ (code m ≡ code n → ⊥)
    go true e = inl (same_code m n (eqb-true (code m) (code n) e))
    go false e = inr (eqb-false (code m) (code n) e)

-- what holds of the tables before a place, and of the table at it
pub up_to : (P : TableName → Type 0) (k : ℕ) (n : TableName) → code n ≡ k → ((m : TableName) → code m < k → P m) → P n
    → (m : TableName) → code m < k + 1 → P m
up_to P k n place before here m low = elim (eq-or-lt_of_le {n = code m} {m = k} (omega (arith, low))) [
  | inl same ↦ subst P (sym (same_code m n (same ∙ sym place))) here
  | inr less ↦ before m less
]

pub few : (n : TableName) → code n < TABLE_COUNT
few n = each (λ n. code n < TABLE_COUNT) (search rules) n

-- the key is among the columns
pub key_within : (n : TableName) → (form_of n).key ≤ length (form_of n).columns
key_within n = each (λ n. (form_of n).key ≤ length (form_of n).columns) (search rules) n

-- ---- what each table has, in a list in their order

found_at : (n : TableName) → slice_index_or tables (code n) n ≡ n
found_at n = get_or_from_slice_get tables (code n) n n (decoded n)

pub found_of : {X : Type 0} (f : TableName → X) (none : X) (n : TableName)
    → slice_index_or (map f tables) (code n) none ≡ f n
found_of f none n = get_or-map f tables (code n) n none (few n) ∙ ap f (found_at n)

pub one_more_table : (at : ℕ) (n : TableName) → code n ≡ at → take at tables ++ n ∷ [] ≡ take (at + 1) tables
one_more_table at n is =
    subst (λ k. take k tables ++ n ∷ [] ≡ take (k + 1) tables) is
    (ap (λ m. take (code n) tables ++ m ∷ []) (sym (found_at n)) ∙ sym (take_more tables (code n) n (few n)))
