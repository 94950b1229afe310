-- Exchanges of tables other than the standing change no row of it.
use Rattle.std.proofs.Common.{◌≡◌, ◌⊎◌, inl, inr, ℕ, ◌+◌, ◌<◌, ◌≤◌, List, [], ◌∷◌, arith, refl}
use Rattle.std.specs.List.{AllByRecursion}
use Rattle.vet_graph.specs.declared.moves.Move.{Move}
use Rattle.vet_rows.proofs.ExchangeParts.{Makes, Rise, rise_within}
use Rattle.vet_rows.specs.StandingChanges.{IsOfMoves, RowIsOfMoves}
use Rattle.vet_rows.specs.declared.row_changes.exchange.Exchange.{Exchange}
use Rattle.vet_tables.specs.Cells.{Row}
use Rattle.vet_tables.specs.Forms.{code}
use Rattle.vet_tables.specs.declared.table_name.TableName.{TableName}
use Rattle.vet_tables.specs.declared.table_name.TableName.TheVariants.{Standing}

-- the tables are before the standing, or behind it
abbrev pub AreBeside : ℕ → ℕ → Type 0
AreBeside low high = (high ≤ code Standing) ⊎ (code Standing < low)

later : (low high at : ℕ) → low ≤ at → AreBeside low high → AreBeside (at + 1) high
later low high at le (inl before) = inl before
later low high at le (inr behind) = inr (omega (arith, le, behind))

differs : (e : Exchange) (more : List Exchange) (low high : ℕ) → Rise low high (e ∷ more) → AreBeside low high
    → code e.table ≡ code Standing → ⊥
differs e more low high up (inl before) same =
    let rest = rise_within more (code e.table + 1) high up.1 in omega (arith, rest, before, same)
differs e more low high up (inr behind) same =
    let first = up.0 in omega (arith, first, behind, same)

module _ (moves : List Move) where
  -- of a row of another table nothing is asked
  other_row : (name : TableName) (r : Row) → (code name ≡ code Standing → ⊥) → RowIsOfMoves moves name r
  other_row Standing r apart = absurd (apart refl)
  other_row _ r apart = tt

  pub others_named : (exchanges : List Exchange) (low high : ℕ) → Rise low high exchanges → AreBeside low high
      → AllByRecursion (Makes (IsOfMoves moves)) exchanges
  others_named [] low high up beside = tt
  others_named (e ∷ more) low high up beside =
      let apart = differs e more low high up beside in (
        (λ r i. other_row e.table r apart, λ r i. other_row e.table r apart),
        others_named more (code e.table + 1) high up.1 (later low high (code e.table) up.0 beside),
      )
