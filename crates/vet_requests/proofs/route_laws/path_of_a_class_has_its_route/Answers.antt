-- Such a path is cut into its word and its three parameters.
use Rattle.std.proofs.Common.{◌∙◌, ◌∷◌, ◌++◌, List, ℕ, ap, codes}
use Rattle.vet_requests.specs.Path.{paths, route_among}
use Rattle.vet_requests.proofs.PartsFit.{cut_first, cut_one}
use Rattle.vet_requests.proofs.route_laws.path_of_a_class_has_its_route.Goals as goal

pub returns : goal.returns
returns c a name b version d criterion _ _ _ first second third =
    let last = d ∷ criterion in
    let later = (b ∷ version) ++ 47 ∷ last in
    ap (λ (ts : List (List ℕ)). route_among paths (codes "class" ∷ ts)) (cut_first (a ∷ name) later first)
    ∙ ap (λ (ts : List (List ℕ)). route_among paths (codes "class" ∷ (a ∷ name) ∷ ts))
    (cut_first (b ∷ version) last second)
    ∙ ap (λ (ts : List (List ℕ)). route_among paths (codes "class" ∷ (a ∷ name) ∷ (b ∷ version) ∷ ts))
    (cut_one last third)
