-- Such a path is cut into its word and its parameter.
use Rattle.std.proofs.Common.{◌∷◌, List, ℕ, ap, codes}
use Rattle.vet_requests.specs.Path.{paths, route_among}
use Rattle.vet_requests.proofs.PartsFit.{cut_one}
use Rattle.vet_requests.proofs.route_laws.paths_with_a_parameter_have_routes.Goals as goal

pub returns : goal.returns
returns c = record {
  standing = λ b rest _ plain.
      ap (λ (ts : List (List ℕ)). route_among paths (codes "standing" ∷ ts)) (cut_one (b ∷ rest) plain);
  files = λ b rest _ plain.
      ap (λ (ts : List (List ℕ)). route_among paths (codes "files" ∷ ts)) (cut_one (b ∷ rest) plain);
  projects = λ b rest _ plain.
      ap (λ (ts : List (List ℕ)). route_among paths (codes "projects" ∷ ts)) (cut_one (b ∷ rest) plain);
  peers = λ b rest _ plain.
      ap (λ (ts : List (List ℕ)). route_among paths (codes "peers" ∷ ts)) (cut_one (b ∷ rest) plain);
}
