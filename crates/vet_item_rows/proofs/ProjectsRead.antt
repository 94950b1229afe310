-- Projects whose nodes and edges are filed under their names.
use Rattle.std.proofs.Common.{◌≡◌, ◌↔◌, ℕ, ◌<◌, ◌++◌, List, [], ◌∷◌, Option, Some, None, get_or, length}
use Rattle.std.proofs.Common.{map, refl, sym, ap}
use Rattle.std.proofs.Common.{subst, ◌∙◌, inl, inr, Ordering, Less, Equal, arith}
use Rattle.std.proofs.lemmas.Bool.{false≢true}
use Rattle.std.specs.Option.{IfSome, IsSome}
use Rattle.std.specs.Cmp.{Equal-is, IsTotalOrder, tied_itself}
use Rattle.std.specs.Cmp.Lexicographic.{nat_list_cmp_total}
use Rattle.std.specs.List.{All, filter, flat_map}
use Rattle.std.specs.Ordering.{is_eq}
use Rattle.std.proofs.lemmas.List.{map-append}
use Rattle.std.proofs.lemmas.List.Elements.{All-append, All-head, All-nil, All-tail}
use Rattle.vet_base.specs.Items.{IsIn, SameItems}
use Rattle.vet_base.specs.Keyed.{IsByKey, all_set}
use Rattle.vet_base.proofs.ItemLemmas.{all_in, filter_in, in_all, in_append, in_back, in_filter, in_front, in_map}
use Rattle.vet_base.proofs.ItemLemmas.{map_in}
use Rattle.vet_base.proofs.KeyedItems.{all_set_is, of_one_key}
use Rattle.vet_base.proofs.Rising.{R, only_equal}
use Rattle.vet_demand.specs.NamedProject.{project_name}
use Rattle.vet_demand.specs.Needs.{no_node}
use Rattle.vet_demand.specs.Project.{AreInNodeOrder, IsProject, IsWithin, ProjectValue}
use Rattle.vet_demand.specs.declared.project.Edge.{Edge}
use Rattle.vet_demand.specs.declared.project.NamedProject.{NamedProject}
use Rattle.vet_demand.specs.declared.project.Node.{Node}
use Rattle.vet_item_rows.specs.Gathered.{Gathered, gathered, head_key, is_filed_at, items_at}
use Rattle.vet_item_rows.specs.HeldValues.{IsNamedProject, IsNode}
use Rattle.vet_item_rows.specs.ProjectRows.{edge_rows, node_rows}
use Rattle.vet_item_rows.specs.ReadBack.{EachStandsFor, IsWritten}
use Rattle.vet_item_rows.specs.ReadProjects.{AreNodesAndEdgesOf, IsEdgeOf, IsFiledEnds, IsFiledNode, TellsGathered}
use Rattle.vet_item_rows.specs.ReadProjects.{ends_of}
use Rattle.vet_item_rows.specs.ReadProjects.{filed_ends, filed_ends_row, filed_node_row, filed_nodes}
use Rattle.vet_item_rows.specs.declared.read.gathered.WithKey.{WithKey}
use Rattle.vet_item_rows.specs.declared.read.projects.EdgeEnds.{EdgeEnds}
use Rattle.vet_item_rows.proofs.Gathering.{pairs_mapped}
use Rattle.vet_item_rows.proofs.Reading.{AreThose}
use Rattle.vet_item_rows.proofs.SetsRead.{items_read, they_stand}
use Rattle.vet_tables.specs.Cells.{Row}

-- ---- items of lists of lists

module _ {X Y : Type 0} (f : X → List Y) where
  pub in_flat : (xs : List X) (y : Y) → IsIn y (flat_map f xs) → (x : X) × (IsIn x xs × IsIn y (f x))
  in_flat [] y none = absurd none
  in_flat (x ∷ xs) y among = elim (in_append (f x) (flat_map f xs) y among) [
    | inl first ↦ (x, (inl refl, first))
    | inr rest ↦ let found = in_flat xs y rest in (found.0, (inr found.1.0, found.1.1))
  ]

  pub flat_in : (xs : List X) (x : X) (y : Y) → IsIn x xs → IsIn y (f x) → IsIn y (flat_map f xs)
  flat_in [] x y none there = absurd none
  flat_in (z ∷ zs) x y (inl here) there =
      in_front (f z) (flat_map f zs) y (subst (λ w. IsIn y (f w)) here there)
  flat_in (z ∷ zs) x y (inr later) there = in_back (f z) (flat_map f zs) y (flat_in zs x y later there)

pub map_flat : {X Y Z : Type 0} (g : Y → Z) (f : X → List Y) (h : X → List Z) → ((x : X) → map g (f x) ≡ h x)
    → (xs : List X) → map g (flat_map f xs) ≡ flat_map h xs
map_flat g f h each [] = refl
map_flat g f h each (x ∷ xs) =
    let first = each x in let rest = map_flat g f h each xs in
    map-append g (f x) (flat_map f xs) ∙ (λ i. first i ++ rest i)

pub map_again : {X Y Z : Type 0} (g : Y → Z) (f : X → Y) (xs : List X) → map g (map f xs) ≡ map (λ x. g (f x)) xs
map_again g f [] = refl
map_again g f (x ∷ xs) = ap (λ zs. g (f x) ∷ zs) (map_again g f xs)

pub all_flat : {X Y : Type 0} (P : Y → Type 0) (f : X → List Y) (xs : List X) → All (λ x. All P (f x)) xs
    → All P (flat_map f xs)
all_flat P f [] each = All-nil P
all_flat P f (x ∷ xs) each = All-append P (f x) (flat_map f xs) (All-head (λ y. All P (f y)) x xs each)
    (all_flat P f xs (All-tail (λ y. All P (f y)) x xs each))

pub same_itself : {X : Type 0} (xs : List X) → SameItems xs xs
same_itself xs = (λ x i. i, λ x i. i)

-- ---- what is filed under a key

module _ {K H T : Type 0} (cmp : K → K → Ordering) (total : IsTotalOrder cmp)
    (only : (a b : K) → cmp a b ≡ Equal → a ≡ b) (name : H → K) (of : H → List T) where
  abbrev pub filed_one : K → T → WithKey K T
  filed_one k x = record { key = k; item = x }

  abbrev pub filed_under : H → List (WithKey K T)
  filed_under h = map (filed_one (name h)) (of h)

  filed_is : (f : WithKey K T) (k : K) (x : T) → f.key ≡ k → f.item ≡ x → f ≡ filed_one k x
  filed_is f k x key item = λ i. record { key = key i; item = item i }

  at_in : (k : K) (filed : List (WithKey K T)) (x : T) → IsIn x (items_at cmp k filed) → IsIn (filed_one k x) filed
  at_in k filed x among =
      let found = in_map (λ (f : WithKey K T). f.item) (filter (is_filed_at cmp k) filed) x among in
      let kept = in_filter (is_filed_at cmp k) filed found.0 found.1.0 in
      let key = sym (only k found.0.key ((Equal-is (cmp k found.0.key)).0 kept.1)) in
      subst (λ f. IsIn f filed) (filed_is found.0 k x key (sym found.1.1)) kept.0

  in_at : (k : K) (filed : List (WithKey K T)) (x : T) → IsIn (filed_one k x) filed → IsIn x (items_at cmp k filed)
  in_at k filed x among =
      map_in (λ (f : WithKey K T). f.item) (filter (is_filed_at cmp k) filed) (filed_one k x)
      (filter_in (is_filed_at cmp k) filed (filed_one k x) among (ap is_eq (tied_itself total k)))

  module _ (hs : List H) (up : IsByKey cmp name hs) (filed : List (WithKey K T))
      (same : SameItems filed (flat_map filed_under hs)) where
    -- whose it is
    whose : (f : WithKey K T) → IsIn f filed → (h : H) × (IsIn h hs × ((name h ≡ f.key) × IsIn f.item (of h)))
    whose f among =
        let under = in_flat filed_under hs f (same.0 f among) in
        let one = in_map (filed_one (name under.0)) (of under.0) f under.1.1 in (
          under.0,
          (
            under.1.0,
            (
              sym (ap (λ (g : WithKey K T). g.key) one.1.1),
              subst (λ x. IsIn x (of under.0)) (sym (ap (λ (g : WithKey K T). g.item) one.1.1)) one.1.0,
            ),
          ),
        )

    is_filed : (h : H) → IsIn h hs → (x : T) → IsIn x (of h) → IsIn (filed_one (name h) x) filed
    is_filed h among x there =
        same.1 (filed_one (name h) x)
        (flat_in filed_under hs h (filed_one (name h) x) among (map_in (filed_one (name h)) (of h) x there))

    pub same_at : (h : H) → IsIn h hs → SameItems (items_at cmp (name h) filed) (of h)
    same_at h among = (
      λ x there.
          let owner = whose (filed_one (name h) x) (at_in (name h) filed x there) in
          let one = of_one_key cmp total only name hs up owner.0 h owner.1.0 among owner.1.1.0 in
          subst (λ g. IsIn x (of g)) one owner.1.1.1,
      λ x there. in_at (name h) filed x (is_filed h among x there),
    )

    -- the keys are the names of those of which something is filed
    pub keys_are : ((h : H) → IsIn h hs → 0 < length (of h))
        → all_set cmp (λ k. k) [] (map (λ f. f.key) filed) ≡ map name hs
    keys_are some = all_set_is cmp total only (λ k. k) (map name hs) (map (λ f. f.key) filed)
        (pairs_mapped name (λ a b. cmp a b ≡ Less) hs up) (
          λ k among.
              let f = in_map (λ (g : WithKey K T). g.key) filed k among in
              let owner = whose f.0 f.1.0 in
              subst (λ n. IsIn n (map name hs)) (owner.1.1.0 ∙ sym f.1.1) (map_in name hs owner.0 owner.1.0),
          λ k among.
              let h = in_map name hs k among in
              let x = first_of (of h.0) (some h.0 h.1.0) in
              subst (λ n. IsIn n (map (λ f. f.key) filed)) (sym h.1.1)
              (map_in (λ (g : WithKey K T). g.key) filed (filed_one (name h.0) x.0) (is_filed h.0 h.1.0 x.0 x.1)),
        )
      where
        first_of : (xs : List T) → 0 < length xs → (x : T) × IsIn x xs
        first_of [] none = absurd (omega (arith, none))
        first_of (x ∷ xs) there = (x, inl refl)

-- ---- projects

flat_same : {X Y : Type 0} (f g : X → List Y) → ((x : X) → f x ≡ g x) → (xs : List X) → flat_map f xs ≡ flat_map g xs
flat_same f g each [] = refl
flat_same f g each (x ∷ xs) = (let first = each x in let rest = flat_same f g each xs in λ i. first i ++ rest i)

abbrev pub own : List ℕ → List ℕ
own name = name

abbrev nodes_of : NamedProject → List Node
nodes_of p = p.project.nodes

abbrev ends_in : NamedProject → List EdgeEnds
ends_in p = map (ends_of p.project.nodes) p.project.edges

module _ (nodes : List (WithKey (List ℕ) Node)) (edges : List (WithKey (List ℕ) EdgeEnds)) (ps : List NamedProject)
    (of : AreNodesAndEdgesOf nodes edges ps) where
  under : (p : NamedProject) → filed_ends p ≡ filed_under R nat_list_cmp_total only_equal project_name ends_in p
  under p = sym (map_again (filed_one R nat_list_cmp_total only_equal project_name ends_in p.name)
      (ends_of p.project.nodes) p.project.edges)

  ends_under : SameItems edges (flat_map (filed_under R nat_list_cmp_total only_equal project_name ends_in) ps)
  ends_under = subst (SameItems edges)
      (flat_same filed_ends (filed_under R nat_list_cmp_total only_equal project_name ends_in) under ps) of.same_edges

  -- what is gathered under a project's name is that of the project
  tells : (p : NamedProject) → IsIn p ps
      → TellsGathered (gathered R (head_key own) edges (gathered R own nodes p.name)) p
  tells p among = record {
    can_be_held = in_all IsNamedProject ps of.each p among;
    named = refl;
    same_nodes = same_at R nat_list_cmp_total only_equal project_name nodes_of ps of.by_name nodes of.same_nodes p
        among;
    same_edges = same_at R nat_list_cmp_total only_equal project_name ends_in ps of.by_name edges ends_under p among;
  }

  each_tells : (qs : List NamedProject) → ((p : NamedProject) → IsIn p qs → IsIn p ps)
      → EachStandsFor TellsGathered
      (map (gathered R (head_key own) edges) (map (gathered R own nodes) (map project_name qs))) qs
  each_tells [] within = tt
  each_tells (q ∷ qs) within = (tells q (within q (inl refl)), each_tells qs (λ p i. within p (inr i)))

  some_node : (p : NamedProject) → IsIn p ps → 0 < length p.project.nodes
  some_node p among = (in_all IsNamedProject ps of.each p among).project.some_nodes

  names_are : all_set R own [] (map (λ f. f.key) nodes) ≡ map project_name ps
  names_are = keys_are R nat_list_cmp_total only_equal project_name nodes_of ps of.by_name nodes of.same_nodes some_node

  groups_tell : (names : List (List ℕ)) → names ≡ all_set R own [] (map (λ f. f.key) nodes)
      → EachStandsFor TellsGathered (map (gathered R (head_key own) edges) (map (gathered R own nodes) names)) ps
  groups_tell names is = subst (λ ns. EachStandsFor TellsGathered
      (map (gathered R (head_key own) edges) (map (gathered R own nodes) ns)) ps)
      (sym (is ∙ names_are)) (each_tells ps (λ p i. i))

  pub projects_are : all_set R project_name [] ps ≡ ps
  projects_are = all_set_is R nat_list_cmp_total only_equal project_name ps ps of.by_name (same_itself ps)

-- ---- rows of projects

filed_nodes_held : (p : NamedProject) → IsNamedProject p → All IsFiledNode (filed_nodes p)
filed_nodes_held p is = all_in IsFiledNode (filed_nodes p) (λ f among.
    (let one = in_map (λ (n : Node). record { key = p.name; item = n }) p.project.nodes f among in
    subst IsFiledNode (sym one.1.1) (is.name, in_all IsNode p.project.nodes is.nodes one.0 one.1.0)))

filed_ends_held : (p : NamedProject) → IsNamedProject p → All IsFiledEnds (filed_ends p)
filed_ends_held p is = all_in IsFiledEnds (filed_ends p) (λ f among.
    (let one = in_map (λ (e : Edge). record { key = p.name; item = ends_of p.project.nodes e }) p.project.edges f
    among in
    let within = in_all (IsWithin (length p.project.nodes)) p.project.edges is.project.within one.0 one.1.0 in
    let from = is.nodes one.0.from no_node within.0 in
    let to = is.nodes one.0.to no_node within.1 in
    subst IsFiledEnds (sym one.1.1) (is.name, ((from.of_package, from.version), (to.of_package, to.version)))))

all_held : {X : Type 0} (P Q : X → Type 0) → ((x : X) → P x → Q x) → (xs : List X) → All P xs → All Q xs
all_held P Q each xs h = λ k d l. each (get_or xs k d) (h k d l)

module _ (ps : List NamedProject) (each : All IsNamedProject ps) where
  nodes_held : All IsFiledNode (flat_map filed_nodes ps)
  nodes_held = all_flat IsFiledNode filed_nodes ps
      (all_held IsNamedProject (λ p. All IsFiledNode (filed_nodes p)) filed_nodes_held ps each)

  nodes_written : map filed_node_row (flat_map filed_nodes ps) ≡ flat_map node_rows ps
  nodes_written = map_flat filed_node_row filed_nodes node_rows
      (λ p. map_again filed_node_row (λ (n : Node). record { key = p.name; item = n }) p.project.nodes) ps

  ends_held : All IsFiledEnds (flat_map filed_ends ps)
  ends_held = all_flat IsFiledEnds filed_ends ps
      (all_held IsNamedProject (λ p. All IsFiledEnds (filed_ends p)) filed_ends_held ps each)

  ends_written : map filed_ends_row (flat_map filed_ends ps) ≡ flat_map edge_rows ps
  ends_written = map_flat filed_ends_row filed_ends edge_rows
      (λ p. map_again filed_ends_row (λ (e : Edge). record { key = p.name; item = ends_of p.project.nodes e })
      p.project.edges) ps

  module _ (rows : List Row) (same : SameItems rows (flat_map node_rows ps)) where
    of_nodes : SameItems rows (map filed_node_row (flat_map filed_nodes ps))
    of_nodes = subst (SameItems rows) (sym nodes_written) same

    pub nodes_read : (found : List (WithKey (List ℕ) Node))
        → AreThose (IsWritten IsFiledNode filed_node_row) rows found → SameItems found (flat_map filed_nodes ps)
    nodes_read = items_read IsFiledNode filed_node_row rows (flat_map filed_nodes ps) nodes_held of_nodes

    pub nodes_stand : (ys : List (WithKey (List ℕ) Node))
        × EachStandsFor (IsWritten IsFiledNode filed_node_row) rows ys
    nodes_stand = they_stand IsFiledNode filed_node_row rows (flat_map filed_nodes ps) nodes_held of_nodes

  module _ (rows : List Row) (same : SameItems rows (flat_map edge_rows ps)) where
    of_ends : SameItems rows (map filed_ends_row (flat_map filed_ends ps))
    of_ends = subst (SameItems rows) (sym ends_written) same

    pub ends_read : (found : List (WithKey (List ℕ) EdgeEnds))
        → AreThose (IsWritten IsFiledEnds filed_ends_row) rows found
        → SameItems found (flat_map filed_ends ps)
    ends_read = items_read IsFiledEnds filed_ends_row rows (flat_map filed_ends ps) ends_held of_ends

    pub ends_stand : (ys : List (WithKey (List ℕ) EdgeEnds))
        × EachStandsFor (IsWritten IsFiledEnds filed_ends_row) rows ys
    ends_stand = they_stand IsFiledEnds filed_ends_row rows (flat_map filed_ends ps) ends_held of_ends

-- ---- a project of its parts

parts_are : (p : NamedProject) (nodes : List Node) (edges : List Edge) → nodes ≡ p.project.nodes
    → edges ≡ p.project.edges → (let v : ProjectValue = record { nodes = nodes; edges = edges } in v) ≡ p.project
parts_are p nodes edges n e = λ i. record { nodes = n i; edges = e i }

pub restored : (p : NamedProject) (nodes : List Node) (edges : List Edge) → IsProject p.project
    → nodes ≡ p.project.nodes → edges ≡ p.project.edges → (found : Option ProjectValue)
    → (IsSome found ↔ IsProject (record { nodes = nodes; edges = edges }))
    → IfSome found (λ q. q ≡ record { nodes = nodes; edges = edges }) → found ≡ Some p.project
restored p nodes edges is n e None sound value =
    absurd (false≢true (sound.1 (subst IsProject (sym (parts_are p nodes edges n e)) is)))
restored p nodes edges is n e (Some q) sound value = ap Some (value ∙ parts_are p nodes edges n e)

-- ---- the edges of a project

module _ (p : NamedProject) (is : IsProject p.project) (ends : List EdgeEnds)
    (same : SameItems ends (map (ends_of p.project.nodes) p.project.edges)) where
  abbrev pub Back : List Node → List Edge → Type 0
  Back nodes found =
      (edges : List Edge) → AreInNodeOrder nodes → EachStandsFor (IsEdgeOf nodes) ends edges → found ≡ edges

  pub edges_read : (nodes : List Node) → nodes ≡ p.project.nodes → (found : List Edge) → Back nodes found
      → SameItems found p.project.edges
  edges_read nodes e found back = items_read (IsWithin (length p.project.nodes)) (ends_of p.project.nodes) ends
      p.project.edges is.within same found
      (λ edges. subst (λ ns. Back ns found) e back edges is.nodes_in_order)

  pub edges_stand : (nodes : List Node) → nodes ≡ p.project.nodes
      → (edges : List Edge) × (AreInNodeOrder nodes × EachStandsFor (IsEdgeOf nodes) ends edges)
  edges_stand nodes e =
      let all = they_stand (IsWithin (length p.project.nodes)) (ends_of p.project.nodes) ends p.project.edges is.within
      same in
      subst (λ ns. (edges : List Edge) × (AreInNodeOrder ns × EachStandsFor (IsEdgeOf ns) ends edges)) (sym e)
      (all.0, (is.nodes_in_order, all.1))

-- ---- what is gathered

pub projects_stand : (nodes : List (WithKey (List ℕ) Node)) (edges : List (WithKey (List ℕ) EdgeEnds))
    (names : List (List ℕ)) (with_nodes : List (Gathered (List ℕ) Node))
    (groups : List (Gathered (Gathered (List ℕ) Node) EdgeEnds))
    → names ≡ all_set R own [] (map (λ f. f.key) nodes) → with_nodes ≡ map (gathered R own nodes) names
    → groups ≡ map (gathered R (head_key own) edges) with_nodes
    → (ps : List NamedProject) → AreNodesAndEdgesOf nodes edges ps → EachStandsFor TellsGathered groups ps
projects_stand nodes edges names with_nodes groups is first second ps of =
    subst (λ gs. EachStandsFor TellsGathered gs ps)
    (sym (second ∙ ap (map (gathered R (head_key own) edges)) first)) (groups_tell nodes edges ps of names is)
