use Rattle.std.proofs.Common.{◌≡◌, ◌<◌, ◌≤◌, ◌∙◌, [], ◌∷◌, Bool, List, ap, arith, get_or, length, sym}
use Rattle.std.proofs.lemmas.Bool.Decides.{Decides-eqb}
use Rattle.std.proofs.lemmas.Slice.Eq.{slice_eq-Decides}
use Rattle.std.specs.Bool.{Decides}
use Rattle.vet_tables.proofs.has_form.has_uniques.Goals as goal

-- one list is all there is
alone : {X : Type 0} (all xs : List X) (x y : X) (same : Bool) → xs ≡ all → 1 ≤ length xs → length xs < 2
    → x ≡ get_or xs 0 x → Decides same (x ≡ y) → Decides same (all ≡ y ∷ [])
alone all [] x y same are some few is tells = absurd (omega (arith, some))
alone all (z ∷ []) x y same are some few is tells = (
  λ yes. sym are ∙ ap (λ v. v ∷ []) (sym is ∙ tells.0 yes),
  λ one. let e : z ∷ [] ≡ y ∷ [] = are ∙ one in tells.1 (is ∙ cc),
)
alone all (z ∷ w ∷ more) x y same are some few is tells = absurd (omega (arith, few))

pub returns-in-None-len1 : goal.returns-in-None-len1
returns-in-None-len1 c =
    let same = slice_eq-Decides Decides-eqb c.as_slice-in-None-len1.result.now c.args.places.now c.eq.result
    c.eq.ensures in
    let own : Decides c.eq.result (c.one-item.result ≡ c.args.places.now) =
    (λ yes. sym c.as_slice-in-None-len1.ensures ∙ same.0 yes, λ is. same.1 (c.as_slice-in-None-len1.ensures ∙ is)) in
    rw c.in-None-len1.is-0 (alone c.args.uniques.now c.as_slice.result.now c.one-item.result c.args.places.now
    c.eq.result c.as_slice.ensures c.in-None-len1.len_at_least c.in-None-len1.len_below c.one-item.is own)
