-- Some exchanges, no two of which are of one table: the one of a table, and what holds of all their changes.
use Rattle.std.proofs.Common.{◌≡◌, ◌==◌, ℕ, ◌+◌, ◌<◌, ◌≤◌, inl, inr, Bool, true, false, cond, List, [], ◌∷◌, ◌++◌}
use Rattle.std.proofs.Common.{map, not, arith, refl, sym, ap, subst, ◌∙◌}
use Rattle.std.specs.List.{AllByRecursion, flat_map, list_any}
use Rattle.vet_base.specs.Items.{IsIn}
use Rattle.vet_base.proofs.ItemLemmas.{in_append, in_filter, in_map}
use Rattle.vet_rows.proofs.Exchanges.{IsExchange}
use Rattle.vet_rows.specs.RowExchanges.{differing, exchange_of, is_compared, less, row_changes_of, same_row}
use Rattle.vet_rows.specs.declared.row_change.RowChange.{RowChange}
use Rattle.vet_rows.specs.declared.row_change.RowChange.TheVariants.{Put, Drop}
use Rattle.vet_rows.specs.declared.row_changes.exchange.Exchange.{Exchange}
use Rattle.vet_tables.proofs.Effects.{apart_is}
use Rattle.vet_tables.specs.Cells.{Row, same_key}
use Rattle.vet_tables.specs.Forms.{code, form_of}
use Rattle.vet_tables.specs.declared.table_name.TableName.{TableName}

-- ---- the exchange of a table

-- the first that is of it; where there is none, one of no rows
abbrev pub of_table : List Exchange → TableName → Exchange
of_table [] name = exchange_of name [] []
of_table (e ∷ more) name = cond (code e.table == code name) e (of_table more name)

-- its rows that are removed, and those that are added
abbrev pub removed_by : List Exchange → TableName → List Row
removed_by exchanges name = (of_table exchanges name).removed

abbrev pub added_by : List Exchange → TableName → List Row
added_by exchanges name = (of_table exchanges name).added

-- with them the old rows of the table become the new ones
abbrev pub Leads : TableName → List Exchange → List Row → List Row → Type 0
Leads name exchanges old new =
    IsExchange (same_key (form_of name)) (removed_by exchanges name) (added_by exchanges name) old new

-- so they do with those of them that differ
abbrev pub LeadsByDifference : TableName → Exchange → List Row → List Row → Type 0
LeadsByDifference name e old new =
    IsExchange (same_key (form_of name)) (differing name e.removed e.added) (differing name e.added e.removed) old new

-- ---- tables one behind the other

-- the codes of the tables rise: none is below the first number, and each is below the second
abbrev pub Rise : ℕ → ℕ → List Exchange → Type 0
Rise low high [] = low ≤ high
Rise low high (e ∷ more) = (low ≤ code e.table) × Rise (code e.table + 1) high more

pub rise_within : (exchanges : List Exchange) (low high : ℕ) → Rise low high exchanges → low ≤ high
rise_within [] low high up = up
rise_within (e ∷ more) low high up =
    let first = up.0 in
    let later = rise_within more (code e.table + 1) high up.1 in
    omega (arith, first, later)

rise_from : (exchanges : List Exchange) (low mid high : ℕ) → low ≤ mid → Rise mid high exchanges
    → Rise low high exchanges
rise_from [] low mid high le up = omega (arith, le, up)
rise_from (e ∷ more) low mid high le up =
    let first = up.0 in (omega (arith, le, first), up.1)

pub rises : (front back : List Exchange) (low mid high : ℕ) → Rise low mid front → Rise mid high back
    → Rise low high (front ++ back)
rises [] back low mid high up later = rise_from back low mid high up later
rises (e ∷ front) back low mid high up later = (up.0, rises front back (code e.table + 1) mid high up.1 later)

none_below : (exchanges : List Exchange) (low high : ℕ) (name : TableName) → Rise low high exchanges → code name < low
    → of_table exchanges name ≡ exchange_of name [] []
none_below [] low high name up below = refl
none_below (e ∷ more) low high name up below =
    let first = up.0 in
    ap (λ b. cond b e (of_table more name)) (apart_is e.table name (λ same. omega (arith, first, below, same)))
    ∙ none_below more (code e.table + 1) high name up.1 (omega (arith, first, below))

-- of two lists the exchange of a table is in the one or in the other
pub of_front : (front back : List Exchange) (mid high : ℕ) (name : TableName) → Rise mid high back → code name < mid
    → of_table (front ++ back) name ≡ of_table front name
of_front [] back mid high name up below = none_below back mid high name up below
of_front (e ∷ front) back mid high name up below =
    ap (λ found. cond (code e.table == code name) e found) (of_front front back mid high name up below)

pub of_back : (front back : List Exchange) (low mid : ℕ) (name : TableName) → Rise low mid front → mid ≤ code name
    → of_table (front ++ back) name ≡ of_table back name
of_back [] back low mid name up above = refl
of_back (e ∷ front) back low mid name up above =
    let rest = rise_within front (code e.table + 1) mid up.1 in
    ap (λ b. cond b e (of_table (front ++ back) name))
    (apart_is e.table name (λ same. omega (arith, rest, above, same)))
    ∙ of_back front back (code e.table + 1) mid name up.1 above

-- ---- what holds of each change

-- it holds of the change by each row of an exchange
abbrev pub Makes : (RowChange → Type 0) → Exchange → Type 0
Makes P e = ((r : Row) → IsIn r e.removed → P (Drop e.table r)) × ((r : Row) → IsIn r e.added → P (Put e.table r))

pub both : (Q : Exchange → Type 0) (front back : List Exchange) → AllByRecursion Q front → AllByRecursion Q back
    → AllByRecursion Q (front ++ back)
both Q [] back first rest = rest
both Q (e ∷ front) back first rest = (first.0, both Q front back first.1 rest)

-- the rows that differ are among all
in_differing : (name : TableName) (rows others : List Row) (r : Row) → IsIn r (differing name rows others)
    → IsIn r rows
in_differing name rows others r i = by (is_compared name) i
  where
    by : (b : Bool) → IsIn r (cond b (less rows others) rows) → IsIn r rows
    by true j = (in_filter (λ x. not (list_any (same_row x) others)) rows r j).0
    by false j = j

made_by_one : (P : RowChange → Type 0) (e : Exchange) → Makes P e → (c : RowChange) → IsIn c (row_changes_of e) → P c
made_by_one P e makes c i =
    elim (in_append (map (λ r. Drop e.table r) (differing e.table e.removed e.added))
    (map (λ r. Put e.table r) (differing e.table e.added e.removed)) c i) [
      | inl drops ↦ (let r = in_map (λ r. Drop e.table r) (differing e.table e.removed e.added) c drops in
          subst P (sym r.1.1) (makes.0 r.0 (in_differing e.table e.removed e.added r.0 r.1.0)))
      | inr puts ↦ (let r = in_map (λ r. Put e.table r) (differing e.table e.added e.removed) c puts in
          subst P (sym r.1.1) (makes.1 r.0 (in_differing e.table e.added e.removed r.0 r.1.0)))
    ]

pub made_by : (P : RowChange → Type 0) (exchanges : List Exchange) → AllByRecursion (Makes P) exchanges
    → (c : RowChange) → IsIn c (flat_map row_changes_of exchanges) → P c
made_by P [] all c none = absurd none
made_by P (e ∷ more) all c i = elim (in_append (row_changes_of e) (flat_map row_changes_of more) c i) [
  | inl here ↦ made_by_one P e all.0 c here
  | inr later ↦ made_by P more all.1 c later
]
