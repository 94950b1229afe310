-- The rows of a sound state that can be held have a text in each column of texts.
use Rattle.std.proofs.Common.{◌≡◌, IsUtf8, List, [], ◌∷◌, Option, Some, None, is_some, map as mapped}
use Rattle.std.proofs.Common.{refl, sym, ap, subst, ◌∙◌, true, false, inl, inr, nat_eq, not}
use Rattle.std.specs.Cmp.Lexicographic.{bytes_decides, pointwise}
use Rattle.std.specs.FinMap as map
use Rattle.std.specs.List.{Contains}
use Rattle.std.proofs.lemmas.Bool.{cases_Bool}
use Rattle.vet_base.proofs.FurtherLaws.{find_in, in_values}
use Rattle.vet_base.proofs.ItemLemmas.{filter_in, in_all, in_map}
use Rattle.vet_base.proofs.ListLemmas.{Contains-here, Contains-later}
use Rattle.vet_base.specs.Criteria.{Criteria, IsTable, safe_to_deploy, safe_to_run}
use Rattle.vet_base.specs.CriteriaChanges.{is_built_in}
use Rattle.vet_base.specs.FurtherCriteria.{further, is_further}
use Rattle.vet_base.specs.Items.{IsIn}
use Rattle.vet_base.specs.Version.{version_text}
use Rattle.vet_base.specs.Words.{Name}
use Rattle.vet_base.specs.declared.criterion.Criterion.{Criterion}
use Rattle.vet_demand.proofs.DemandLaws.{demand_is_least, demanded_known}
use Rattle.vet_demand.specs.Needs.{no_node, node_at}
use Rattle.vet_demand.specs.declared.pair.Pair.{Pair}
use Rattle.vet_demand.specs.declared.project.Node.{Node}
use Rattle.vet_graph.specs.StandingOf.{class_of_pair}
use Rattle.vet_graph.specs.declared.class.Class.{Class}
use Rattle.vet_graph.specs.declared.standing.Stand.{Stand}
use Rattle.vet_item_rows.specs.HeldValues.{IsNamedProject, IsNode}
use Rattle.vet_item_rows.specs.ReadHeld.{AreCriteria}
use Rattle.vet_item_rows.specs.StandingRows.{standing_row}
use Rattle.vet_item_rows.specs.Values.{IsCriterion}
use Rattle.vet_register.specs.Sound.{IsSound}
use Rattle.vet_register.specs.State.{State, demanded, standing}
use Rattle.vet_register.specs.declared.moves.RecordedMove.{RecordedMove}
use Rattle.vet_rows.proofs.FitRows.{rows_fit}
use Rattle.vet_rows.specs.HeldState.{IsHeldState}
use Rattle.vet_rows.specs.HeldValues.{IsRecordedMove}
use Rattle.vet_rows.specs.RowsOf.{rows_by}
use Rattle.vet_rows.specs.StandingRows.{move_row}
use Rattle.vet_store.proofs.DaysTexts.{days_told}
use Rattle.vet_store.proofs.DemandTexts.{demand_told}
use Rattle.vet_store.proofs.DeskTexts.{desk_told}
use Rattle.vet_store.proofs.FactsTexts.{facts_told}
use Rattle.vet_store.proofs.HeldTexts.{name_text, package_text, plain_text, version_is_text}
use Rattle.vet_store.proofs.RowTexts.{AreTold, each_row, told_at}
use Rattle.vet_store.specs.Readable.{AreReadable}
use Rattle.vet_tables.specs.Cells.{Row}
use Rattle.vet_tables.specs.declared.table_name.TableName.{TableName}
use Rattle.vet_tables.specs.declared.table_name.TableName.TheVariants as table
use Rattle.vet_tables.specs.declared.version.TablesVersion.{TablesVersion}

-- ---- rows of moves

move_told : (m : RecordedMove) → IsRecordedMove m → AreTold (move_row m)
move_told m h =
    let pair = m.change.pair in (
      tt,
      (
        package_text pair.«package» h.pair.of_package,
        (
          version_is_text pair.version h.pair.version,
          (name_text pair.criterion h.pair.criterion, (tt, (tt, (tt, tt)))),
        ),
      ),
    )

-- ---- rows of the standing

built_in_text : (c : Name) → is_built_in c ≡ true → IsUtf8 c
built_in_text c h = elim (cases_Bool (pointwise nat_eq c safe_to_run)) [
  | inl run ↦ subst IsUtf8 (sym (same_bytes c safe_to_run run)) (plain_text safe_to_run refl)
  | inr other ↦ subst IsUtf8 (sym (same_bytes c safe_to_deploy (rw other at h))) (plain_text safe_to_deploy refl)
]
  where
    same_bytes : (x y : Name) → pointwise nat_eq x y ≡ true → x ≡ y
    same_bytes x y e = (bytes_decides x y).0 e

criterion_text : (table : Criteria) → IsTable table → AreCriteria table → (c : Name)
    → map.contains_key table c ≡ true → IsUtf8 c
criterion_text table sound held c h = elim (cases_Bool (is_built_in c)) [
  | inl built ↦ built_in_text c built
  | inr other ↦ by (map.get table c) refl h other
]
  where
    by : (o : Option Criterion) → map.get table c ≡ o → is_some o ≡ true → is_built_in c ≡ false → IsUtf8 c
    by None is some other = cc some
    by (Some x) is some other =
        let name = sound.named c x is in
        let there = in_values c x (map.entries table)
        (find_in c (map.entries table) x (sym (map.get-entries table c) ∙ is)) in
        let more : is_further x ≡ true = ap (λ n. not (is_built_in n)) name ∙ ap not other in
        subst IsUtf8 name
        (name_text x.name
        (in_all IsCriterion (further table) held x (filter_in is_further (map.values table) x there more)).name)

contained : {X : Type 0} (x : X) (xs : List X) → IsIn x xs → Contains xs x
contained x [] i = absurd i
contained x (y ∷ xs) (inl e) = subst (λ z. Contains (y ∷ xs) z) (sym e) (Contains-here y xs)
contained x (y ∷ xs) (inr i) = Contains-later y x xs (contained x xs i)

module _ (s : State) (sound : IsSound s) (held : IsHeldState s) where
  of_node : (p : Pair) → IsIn p (demanded s) → (node : Node) × (IsNode node × ((node.«package» ≡ p.«package»)
      × (node.version ≡ p.version)))
  of_node p i =
      let facts = s.held.facts in
      let least = demand_is_least s.held.projects s.held.policies facts.criteria sound.held.facts.criteria
      sound.held.policies.known in
      let it = (least.same p).0 (contained p (demanded s) i) in
      let named = subst IsNamedProject it.1.2 (held.projects it.1.0 it.0 it.1.1) in
      let of = it.2.1 in
      let node = node_at it.0.project.nodes it.2.0 in (
        node,
        (
          named.nodes it.2.0 no_node of.within,
          (
            ap (λ (q : Pair). q.«package») of.is,
            ap (λ (q : Pair). q.version) of.is,
          ),
        ),
      )

  stand_told : (p : Pair) (class : Class) → IsIn p (demanded s)
      → AreTold (standing_row (record { pair = p; class = class }))
  stand_told p class i =
      let node = of_node p i in
      let facts = s.held.facts in
      let known = in_all (λ (q : Pair). map.contains_key facts.criteria q.criterion ≡ true) (demanded s)
      (demanded_known s.held.projects s.held.policies facts.criteria) p i in (
        subst IsUtf8 node.1.1.0 (package_text node.0.«package» node.1.0.of_package),
        (
          subst (λ v. IsUtf8 (version_text v)) node.1.1.1 (version_is_text node.0.version node.1.0.version),
          (
            criterion_text facts.criteria sound.held.facts.criteria held.facts.criteria p.criterion known,
            (tt, tt),
          ),
        ),
      )

  standing_told : (r : Row) → IsIn r (mapped standing_row (standing s)) → AreTold r
  standing_told r i =
      let stand = in_map standing_row (standing s) r i in
      let pair = in_map (λ p. let t : Stand = record { pair = p; class = class_of_pair s.held.facts p } in t)
      (demanded s) stand.0 stand.1.0 in
      subst AreTold (sym (stand.1.1 ∙ ap standing_row pair.1.1))
      (stand_told pair.0 (class_of_pair s.held.facts pair.0) pair.1.0)

  -- ---- all rows

  rows_told : (version : TablesVersion) (n : TableName) (r : Row) → IsIn r (rows_by version s n) → AreTold r
  rows_told version table.Meta r (inl is) =
      subst AreTold (sym is) (tt, (tt, (tt, (tt, (tt, (tt, (tt, (tt, (tt, (tt, (tt, (tt, (tt, tt)))))))))))))
  rows_told version table.Meta r (inr none) = absurd none
  rows_told version (table.Facts t) r i = facts_told s.held.facts held.facts t r i
  rows_told version (table.Demand t) r i = demand_told s.held held.policies held.projects t r i
  rows_told version table.Standing r i = standing_told r i
  rows_told version table.Moves r i = each_row IsRecordedMove move_row move_told s.moves held.moves r i
  rows_told version (table.Desk t) r i = desk_told s.desk held.members held.reviews t r i
  rows_told version (table.Days t) r i = days_told s.held.facts t r i

  pub rows_readable : (version : TablesVersion) → AreReadable (rows_by version s)
  rows_readable version n r i =
      record { fits = rows_fit version s n r i; texts = told_at r (rows_told version n r i) }
