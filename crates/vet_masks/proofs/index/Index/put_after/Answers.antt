use Rattle.std.proofs.Common.{◌≡◌, ◌++◌, ◌∷◌, [], ℕ, List, ◌==◌, ◌<◌, cond, length, get_or, set, sym, ap, ◌∙◌, refl}
use Rattle.std.proofs.Common.{arith, inl, inr}
use Rattle.std.proofs.Common.{eq-eqb}
use Rattle.std.proofs.lemmas.Bool.{cases_eq, ne_eqb}
use Rattle.std.proofs.lemmas.List.{append-nil, get_or-set_same, get_or-set_other, length-map, length-set}
use Rattle.vet_demand.specs.Spread.{lists_in}
use Rattle.vet_masks.specs.declared.index.Index.{Index}
use Rattle.vet_masks.specs.Index.{is_from}
use Rattle.vet_masks.proofs.index.Index.put_after.Goals as goal
use Rattle.vet_masks.proofs.index.Index.put_after.Goals.{in-Some+in_ok-push_at, in_default}

put : (ls : List (List ℕ)) (from place n : ℕ) → from < length ls
    → get_or (set ls from (get_or ls from [] ++ place ∷ [])) n [] ≡ get_or ls n [] ++ cond (from == n) (place ∷ []) []
put ls from place n l = elim (cases_eq n from) [
  | inl same ↦ rw (same, eq-eqb from from refl) (get_or-set_same ls from (get_or ls from [] ++ place ∷ []) [] l)
  | inr other ↦ rw (ne_eqb from n (λ e. other (sym e)))
      (get_or-set_other ls from n (get_or ls from [] ++ place ∷ []) [] other ∙ sym (append-nil (get_or ls n [])))
]

pub returns-clause-after : goal.returns-clause-after
returns-clause-after c n =
    let ls = lists_in c.args.self.now.after.items in
    let place = c.args.place in
    elim c.match-origin.branch [
      | in-Some+in_ok-push_at w ↦ (let low : w.in-Some.from < length ls =
          rw length-map (c.requires w.in-Some.from w.in-Some.is) in
          ap (λ (x : Index). get_or (lists_in x.after.items) n []) w.self-is
          ∙ ap (λ xs. get_or xs n []) w.in_ok-push_at.ensures.ok ∙ put ls w.in-Some.from place n low
          ∙ ap (λ o. get_or ls n [] ++ cond (is_from n o) (place ∷ []) []) (sym w.in-Some.is))
      | in_default w ↦ ap (λ (x : Index). get_or (lists_in x.after.items) n []) w.self-is
          ∙ sym (append-nil (get_or ls n []))
          ∙ ap (λ o. get_or ls n [] ++ cond (is_from n o) (place ∷ []) []) (sym w.in_default.is)
    ]

pub returns-clause-count : goal.returns-clause-count
returns-clause-count c =
    let ls = lists_in c.args.self.now.after.items in
    elim c.match-origin.branch [
      | in-Some+in_ok-push_at w ↦ ap (λ (x : Index). length x.after.items) w.self-is
          ∙ (omega (
            arith,
            ap length w.in_ok-push_at.ensures.ok,
            length-map w.push_at.new.lists.items (λ l. l.items),
            length-map c.args.self.now.after.items (λ l. l.items),
            length-set ls w.in-Some.from (get_or ls w.in-Some.from [] ++ c.args.place ∷ []),
          ))
      | in_default w ↦ ap (λ (x : Index). length x.after.items) w.self-is
    ]
