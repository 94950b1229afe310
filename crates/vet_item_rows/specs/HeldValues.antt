-- Which policies, projects, pairs and reviews can be held (ours): each name, version, day and text in them can be.
use Rattle.std.specs.Prelude.{◌≡◌, List, Some}
use Rattle.std.specs.List.{All}
use Rattle.vet_base.specs.Version.{IsVersion}
use Rattle.vet_demand.specs.DependencyCriteria.{IsByPackage}
use Rattle.vet_demand.specs.PolicyKey.{key_text, read_key}
use Rattle.vet_demand.specs.Project.{IsProject}
use Rattle.vet_demand.specs.declared.dependency_criteria.DependencyItem.{DependencyItem}
use Rattle.vet_demand.specs.declared.pair.Pair.{Pair}
use Rattle.vet_demand.specs.declared.policies.KeyedPolicy.{KeyedPolicy}
use Rattle.vet_demand.specs.declared.policy.Policy.{Policy}
use Rattle.vet_demand.specs.declared.project.NamedProject.{NamedProject}
use Rattle.vet_demand.specs.declared.project.Node.{Node}
use Rattle.vet_desk.specs.declared.review.Review.{Review}
use Rattle.vet_desk.specs.declared.review.ReviewState.{ReviewState}
use Rattle.vet_desk.specs.declared.review.ReviewState.TheVariants.{Assigned}
use Rattle.vet_item_rows.specs.Values.{AreNames, IsDay, IsName, IsPackage, IsText, MayBe}

-- ---- policies

pub record IsDependency (item : DependencyItem) : Type 0 where
  pub of_package : IsPackage item.«package»
  pub criteria : AreNames item.criteria

pub record AreDependencies (items : List DependencyItem) : Type 0 where
  pub by_package : IsByPackage items
  pub each : All IsDependency items

pub record IsPolicy (p : Policy) : Type 0 where
  pub criteria : MayBe AreNames p.criteria
  pub dev : MayBe AreNames p.dev_criteria
  pub dependencies : AreDependencies p.dependency_criteria
  pub notes : MayBe IsText p.notes

pub record IsKeyedPolicy (p : KeyedPolicy) : Type 0 where
  pub key : read_key (key_text p.key) ≡ Some p.key
  pub policy : IsPolicy p.policy

-- ---- projects

pub record IsNode (node : Node) : Type 0 where
  pub of_package : IsPackage node.«package»
  pub version : IsVersion node.version

pub record IsNamedProject (p : NamedProject) : Type 0 where
  pub name : IsPackage p.name
  pub project : IsProject p.project
  pub nodes : All IsNode p.project.nodes

-- ---- pairs

pub record IsPair (pair : Pair) : Type 0 where
  pub of_package : IsPackage pair.«package»
  pub version : IsVersion pair.version
  pub criterion : IsName pair.criterion

-- ---- reviews

abbrev pub IsReviewState : ReviewState → Type 0
IsReviewState (Assigned member) = IsName member
IsReviewState _ = Unit {0}

pub record IsReview (r : Review) : Type 0 where
  pub of_package : IsPackage r.«package»
  pub version : IsVersion r.version
  pub criteria : AreNames r.criteria
  pub day : IsDay r.day
  pub state : IsReviewState r.state
