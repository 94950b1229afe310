use Rattle.std.proofs.Common.{◌≡◌, ℕ, ◌<◌, List, [], ◌∷◌, ◌++◌, Vec, Global, length, get_or, set, ap, sym, ◌∙◌}
use Rattle.std.proofs.lemmas.List.{get_or-map, map-set}
use Rattle.vet_demand.specs.Spread.{lists_in}
use Rattle.vet_demand.proofs.place_lists.push_at.Goals as goal

lists_put : (lists : List (Vec ℕ Global)) (at place : ℕ) (old new : Vec ℕ Global) → at < length lists
    → old ≡ get_or lists at old → new.items ≡ old.items ++ place ∷ []
    → lists_in (set lists at new) ≡ set (lists_in lists) at (get_or (lists_in lists) at [] ++ place ∷ [])
lists_put lists at place old new l is e =
    let same : get_or (lists_in lists) at [] ≡ old.items = get_or-map (λ (x : Vec ℕ Global). x.items) lists at old
    [] l ∙ ap (λ (x : Vec ℕ Global). x.items) (sym is) in
    map-set (λ (x : Vec ℕ Global). x.items) lists at new
    ∙ ap (set (lists_in lists) at) (e ∙ ap (λ k. k ++ place ∷ []) (sym same))

pub returns-clause-ok : goal.returns-clause-ok
returns-clause-ok c =
    lists_put c.args.lists.now.items c.args.at c.args.place c.index_mut-list.result.now c.push.new.self c.requires
    c.index_mut-list.ensures.value c.in_ok-push.ensures.items
