-- Projects, nodes and edges are equal only to themselves, and the orders of nodes and edges are total (ours).
use Rattle.std.specs.Prelude.{◌≡◌, refl}
use Rattle.std.specs.Bool.{Decides}
use Rattle.std.specs.Ordering.{nat_cmp, is_eq}
use Rattle.std.specs.Cmp.{IsTotalOrder, then_total, on_total, nat_cmp_total, tied_itself, Equal-is}
use Rattle.std.specs.Cmp.Lexicographic.{nat_list_cmp_total, pointwise_decides, bytes_decides}
use Rattle.std.specs.FinMap.{nat_cmp-IsAntisymmetric}
use Rattle.std.specs.declared.cmp.Ordering.TheVariants.{Equal}
use Rattle.std.proofs.Common.{ap, ◌∙◌}
use Rattle.std.proofs.lemmas.Bool.Decides.{Decides-and, Decides-eqb, Decides-like}
use Rattle.vet_base.specs.VersionOrderLaws.{version_eq-Decides, version_total}
use Rattle.vet_demand.specs.declared.project.Party.{Party}
use Rattle.vet_demand.specs.declared.project.Party.TheVariants.{Root, First, Third}
use Rattle.vet_demand.specs.declared.project.EdgeKind.{EdgeKind}
use Rattle.vet_demand.specs.declared.project.EdgeKind.TheVariants.{Normal, Build, Dev}
use Rattle.vet_demand.specs.declared.project.Node.{Node}
use Rattle.vet_demand.specs.declared.project.Edge.{Edge}
use Rattle.vet_demand.specs.Project.{ProjectValue, party_place, kind_place, party_eq, kind_eq, node_cmp, node_eq}
use Rattle.vet_demand.specs.Project.{edge_cmp, edge_eq, project_eq}
use Rattle.vet_base.specs.OrderLaws.{then_first, then_second}

same_party : (a b : Party) → party_place a ≡ party_place b → a ≡ b
same_party Root Root e = refl
same_party Root First e = cc e
same_party Root Third e = cc e
same_party First Root e = cc e
same_party First First e = refl
same_party First Third e = cc e
same_party Third Root e = cc e
same_party Third First e = cc e
same_party Third Third e = refl

same_kind : (a b : EdgeKind) → kind_place a ≡ kind_place b → a ≡ b
same_kind Normal Normal e = refl
same_kind Normal Build e = cc e
same_kind Normal Dev e = cc e
same_kind Build Normal e = cc e
same_kind Build Build e = refl
same_kind Build Dev e = cc e
same_kind Dev Normal e = cc e
same_kind Dev Build e = cc e
same_kind Dev Dev e = refl

pub party_eq-Decides : (a b : Party) → Decides (party_eq a b) (a ≡ b)
party_eq-Decides a b = Decides-like _ (same_party a b) (ap party_place) (Decides-eqb (party_place a) (party_place b))

pub kind_eq-Decides : (a b : EdgeKind) → Decides (kind_eq a b) (a ≡ b)
kind_eq-Decides a b = Decides-like _ (same_kind a b) (ap kind_place) (Decides-eqb (kind_place a) (kind_place b))

pub node_total : IsTotalOrder node_cmp
node_total = then_total (on_total (λ (n : Node). n.«package») nat_list_cmp_total)
    (on_total (λ (n : Node). n.version) version_total)

same_node : (a b : Node) → ((a.«package» ≡ b.«package») × (a.version ≡ b.version)) × (a.party ≡ b.party) → a ≡ b
same_node a b h = λ i. record { «package» = h.0.0 i; version = h.0.1 i; party = h.1 i }

-- a node is equal only to itself
pub node_eq-Decides : (a b : Node) → Decides (node_eq a b) (a ≡ b)
node_eq-Decides a b =
    Decides-like _ (same_node a b)
    (λ e. ((ap (λ (n : Node). n.«package») e, ap (λ (n : Node). n.version) e), ap (λ (n : Node). n.party) e))
    (Decides-and _ _ (Decides-and _ _ (bytes_decides a.«package» b.«package») (version_eq-Decides a.version b.version))
    (party_eq-Decides a.party b.party))

pub edge_total : IsTotalOrder edge_cmp
edge_total = then_total (on_total (λ (e : Edge). e.from) nat_cmp_total)
    (then_total (on_total (λ (e : Edge). e.to) nat_cmp_total)
    (on_total (λ (e : Edge). kind_place e.kind) nat_cmp_total))

same_edge : (a b : Edge) → a.from ≡ b.from → a.to ≡ b.to → a.kind ≡ b.kind → a ≡ b
same_edge a b f t k = λ i. record { from = f i; to = t i; kind = k i }

-- an edge ties only with itself
pub edge_cmp-IsAntisymmetric : (a b : Edge) → edge_cmp a b ≡ Equal → a ≡ b
edge_cmp-IsAntisymmetric a b e =
    let more = then_second (nat_cmp a.from b.from) _ e in
    same_edge a b (nat_cmp-IsAntisymmetric _ _ (then_first _ _ e)) (nat_cmp-IsAntisymmetric _ _ (then_first _ _ more))
    (same_kind a.kind b.kind (nat_cmp-IsAntisymmetric _ _ (then_second (nat_cmp a.to b.to) _ more)))

pub edge_eq-Decides : (a b : Edge) → Decides (edge_eq a b) (a ≡ b)
edge_eq-Decides a b = (
  λ tied. edge_cmp-IsAntisymmetric a b ((Equal-is (edge_cmp a b)).0 tied),
  λ same. ap (λ e. is_eq (edge_cmp e b)) same ∙ ap is_eq (tied_itself edge_total b),
)

same_project : (a b : ProjectValue) → (a.nodes ≡ b.nodes) × (a.edges ≡ b.edges) → a ≡ b
same_project a b h = λ i. record { nodes = h.0 i; edges = h.1 i }

-- a project is equal only to itself
pub project_eq-Decides : (a b : ProjectValue) → Decides (project_eq a b) (a ≡ b)
project_eq-Decides a b =
    Decides-like _ (same_project a b)
    (λ e. (ap (λ (p : ProjectValue). p.nodes) e, ap (λ (p : ProjectValue). p.edges) e))
    (Decides-and _ _ (pointwise_decides node_eq-Decides a.nodes b.nodes)
    (pointwise_decides edge_eq-Decides a.edges b.edges))
