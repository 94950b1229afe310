-- While a text is read, the keys of its tables rise.
use Rattle.std.proofs.Common.{◌≡◌, ℕ, List, [], ◌∷◌, ◌∙◌, ap, refl, Ordering, Less, Equal, Greater, Option, Some, None}
use Rattle.std.proofs.Common.{option_map}
use Rattle.std.specs.Prelude.{IfSome}
use Rattle.std.specs.Cmp.Lexicographic.{slice_cmp, nat_list_cmp_total}
use Rattle.std.specs.Ordering.{match_ordering, nat_cmp, ordering_reverse}
use Rattle.std.proofs.lemmas.Bool.{cond_both}
use Rattle.toml_parser.specs.Strings.{Key}
use Rattle.toml.specs.Data.{Data, same_key, table}
use Rattle.toml.specs.Tables.{Definition, Document, Edit, Node, Nodes, Origin, along_dots, along_header, array_table}
use Rattle.toml.specs.Tables.{at_found, at_key, by_dot, by_header, close, close_node, define, define_as, dot_node}
use Rattle.toml.specs.Tables.{dotted, get_node, header, header_node, implicit, insert, key_value, new_node, no_nodes}
use Rattle.toml.specs.Tables.{node, open_array, open_table, put, redefine, replace, std_table, value}
use Rattle.vet_files.specs.Walk.{IsBelow, IsLess}
use Rattle.vet_files.proofs.Rising.{AllRise, Rises, Rising, map-if, push-rises}

-- a key comes before each key of the nodes
abbrev IsBelowNodes : List ℕ → Nodes → Type 0
IsBelowNodes k no_nodes = Unit {0}
IsBelowNodes k (node l x ns) = IsLess k l × IsBelowNodes k ns

abbrev mutual
  NodeRises : Node → Type 0
  NodeRises (value d) = Rises d
  NodeRises (open_table origin ns) = NodesRise ns
  NodeRises (open_array done ns) = AllRise done × NodesRise ns

  pub NodesRise : Nodes → Type 0
  NodesRise no_nodes = Unit {0}
  NodesRise (node k x ns) = IsBelowNodes k ns × (NodeRises x × NodesRise ns)

-- ---- the members that nodes stand for

below-close : (k : List ℕ) (ns : Nodes) → IsBelowNodes k ns → IsBelow k (close ns)
below-close k no_nodes h = tt
below-close k (node l x ns) h = (h.0, below-close k ns h.1)

mutual
  close_node-rises : (x : Node) → NodeRises x → Rises (close_node x)
  close_node-rises (value d) h = h
  close_node-rises (open_table origin ns) h = close-rises ns h
  close_node-rises (open_array done ns) h = push-rises done (table (close ns)) h.0 (close-rises ns h.1)

  pub close-rises : (ns : Nodes) → NodesRise ns → Rising (close ns)
  close-rises no_nodes h = tt
  close-rises (node k x ns) h = (below-close k ns h.0, (close_node-rises x h.1.0, close-rises ns h.1.1))

-- ---- one node more, and another in the place of one

below-earlier : (j k : List ℕ) (ns : Nodes) → IsLess j k → IsBelowNodes k ns → IsBelowNodes j ns
below-earlier j k no_nodes order h = tt
below-earlier j k (node l x ns) order h = (nat_list_cmp_total.trans j k l order h.0, below-earlier j k ns order h.1)

below-insert : (k l : List ℕ) (x : Node) (ns : Nodes) → IsLess k l → IsBelowNodes k ns → IsBelowNodes k (insert l x ns)
below-insert k l x no_nodes order h = (order, tt)
below-insert k l x (node j y ns) order h = step (slice_cmp nat_cmp l j) (below-insert k l x ns order h.1)
  where
    step : (o : Ordering) → IsBelowNodes k (insert l x ns)
        → IsBelowNodes k (match_ordering o (node l x (node j y ns)) (node j x ns) (node j y (insert l x ns)))
    step Less more = (order, h)
    step Equal more = h
    step Greater more = (h.0, more)

insert-rises : (k : List ℕ) (x : Node) (ns : Nodes) → NodeRises x → NodesRise ns → NodesRise (insert k x ns)
insert-rises k x no_nodes one h = (tt, (one, tt))
insert-rises k x (node l y ns) one h = step (slice_cmp nat_cmp k l) refl (insert-rises k x ns one h.1.1)
  where
    step : (o : Ordering) → slice_cmp nat_cmp k l ≡ o → NodesRise (insert k x ns)
        → NodesRise (match_ordering o (node k x (node l y ns)) (node l x ns) (node l y (insert k x ns)))
    step Less e more = ((e, below-earlier k l ns e h.0), (one, h))
    step Equal e more = (h.0, (one, h.1.1))
    step Greater e more = (
      below-insert l k x ns (nat_list_cmp_total.antisymm l k ∙ ap ordering_reverse e) h.0,
      (h.1.0, more),
    )

below-replace : (j k : List ℕ) (x : Node) (ns : Nodes) → IsBelowNodes j ns → IsBelowNodes j (replace k x ns)
below-replace j k x no_nodes h = tt
below-replace j k x (node l y ns) h =
    cond_both (same_key k l) (node l x ns) (node l y (replace k x ns)) (IsBelowNodes j) (λ _. h)
    (λ _. (h.0, below-replace j k x ns h.1))

replace-rises : (k : List ℕ) (x : Node) (ns : Nodes) → NodeRises x → NodesRise ns → NodesRise (replace k x ns)
replace-rises k x no_nodes one h = tt
replace-rises k x (node l y ns) one h =
    cond_both (same_key k l) (node l x ns) (node l y (replace k x ns)) NodesRise (λ _. (h.0, (one, h.1.1)))
    (λ _. (below-replace l k x ns h.0, (h.1.0, replace-rises k x ns one h.1.1)))

get-rises : (k : List ℕ) (ns : Nodes) → NodesRise ns → IfSome (get_node k ns) NodeRises
get-rises k no_nodes h = tt
get-rises k (node l x ns) h =
    cond_both (same_key k l) (Some x) (get_node k ns) (λ o. IfSome o NodeRises) (λ _. h.1.0) (λ _. get-rises k ns h.1.1)

-- ---- edits

abbrev KeepsRising : Edit → Type 0
KeepsRising edit = (ns : Nodes) → NodesRise ns → IfSome (edit ns) NodesRise

header_node-rises : (edit : Edit) → KeepsRising edit → (x : Node) → NodeRises x → IfSome (header_node edit x) NodeRises
header_node-rises edit keeps (value d) h = tt
header_node-rises edit keeps (open_table origin inner) h = map-if NodesRise NodeRises (open_table origin) (edit inner)
    (keeps inner h) (λ ns more. more)
header_node-rises edit keeps (open_array done last) h = map-if NodesRise NodeRises (open_array done) (edit last)
    (keeps last h.1) (λ ns more. (h.0, more))

dot_node-rises : (edit : Edit) → KeepsRising edit → (x : Node) → NodeRises x → IfSome (dot_node edit x) NodeRises
dot_node-rises edit keeps (value d) h = tt
dot_node-rises edit keeps (open_table header inner) h = tt
dot_node-rises edit keeps (open_table implicit inner) h = map-if NodesRise NodeRises (open_table dotted) (edit inner)
    (keeps inner h) (λ ns more. more)
dot_node-rises edit keeps (open_table dotted inner) h = map-if NodesRise NodeRises (open_table dotted) (edit inner)
    (keeps inner h) (λ ns more. more)
dot_node-rises edit keeps (open_array done last) h = tt

made-rises : (k : List ℕ) (origin : Origin) (ns : Nodes) (made : Option Nodes) → NodesRise ns → IfSome made NodesRise
    → IfSome (option_map (λ new. insert k (open_table origin new) ns) made) NodesRise
made-rises k origin ns made h one =
    map-if NodesRise NodesRise (λ new. insert k (open_table origin new) ns) made one
    (λ new more. insert-rises k (open_table origin new) ns more h)

changed-rises : (k : List ℕ) (ns : Nodes) (changed : Option Node) → NodesRise ns → IfSome changed NodeRises
    → IfSome (option_map (λ new. replace k new ns) changed) NodesRise
changed-rises k ns changed h one = map-if NodeRises NodesRise (λ new. replace k new ns) changed one
    (λ new more. replace-rises k new ns more h)

by_header-rises : (k : List ℕ) (edit : Edit) → KeepsRising edit → (ns : Nodes) → NodesRise ns → (o : Option Node)
    → IfSome o NodeRises → IfSome (by_header k edit ns o) NodesRise
by_header-rises k edit keeps ns h None one = made-rises k implicit ns (edit no_nodes) h (keeps no_nodes tt)
by_header-rises k edit keeps ns h (Some x) one = changed-rises k ns (header_node edit x) h
    (header_node-rises edit keeps x one)

by_dot-rises : (k : List ℕ) (edit : Edit) → KeepsRising edit → (ns : Nodes) → NodesRise ns → (o : Option Node)
    → IfSome o NodeRises → IfSome (by_dot k edit ns o) NodesRise
by_dot-rises k edit keeps ns h None one = made-rises k dotted ns (edit no_nodes) h (keeps no_nodes tt)
by_dot-rises k edit keeps ns h (Some x) one = changed-rises k ns (dot_node edit x) h (dot_node-rises edit keeps x one)

along_header-rises : (path : List (List ℕ)) (edit : Edit) → KeepsRising edit → (ns : Nodes) → NodesRise ns
    → IfSome (along_header path edit ns) NodesRise
unfolding along_header
along_header-rises [] edit keeps ns h = keeps ns h
along_header-rises (k ∷ path) edit keeps ns h =
    by_header-rises k (along_header path edit) (along_header-rises path edit keeps) ns h (get_node k ns)
    (get-rises k ns h)

along_dots-rises : (path : List (List ℕ)) (edit : Edit) → KeepsRising edit → (ns : Nodes) → NodesRise ns
    → IfSome (along_dots path edit ns) NodesRise
unfolding along_dots
along_dots-rises [] edit keeps ns h = keeps ns h
along_dots-rises (k ∷ path) edit keeps ns h =
    by_dot-rises k (along_dots path edit) (along_dots-rises path edit keeps) ns h (get_node k ns) (get-rises k ns h)

-- ---- definitions

abbrev pub DefinitionRises : Definition → Type 0
DefinitionRises (key_value d) = Rises d
DefinitionRises std_table = Unit {0}
DefinitionRises array_table = Unit {0}

new_node-rises : (what : Definition) → DefinitionRises what → NodeRises (new_node what)
new_node-rises (key_value d) h = h
new_node-rises std_table h = tt
new_node-rises array_table h = (tt, tt)

redefine-rises : (what : Definition) (x : Node) → NodeRises x → IfSome (redefine what x) NodeRises
redefine-rises (key_value d) x h = tt
redefine-rises std_table (value d) h = tt
redefine-rises std_table (open_table implicit inner) h = h
redefine-rises std_table (open_table dotted inner) h = tt
redefine-rises std_table (open_table header inner) h = tt
redefine-rises std_table (open_array done last) h = tt
redefine-rises array_table (value d) h = tt
redefine-rises array_table (open_table origin inner) h = tt
redefine-rises array_table (open_array done last) h =
    (push-rises done (table (close last)) h.0 (close-rises last h.1), tt)

at_found-rises : (k : List ℕ) (what : Definition) → DefinitionRises what → (ns : Nodes) → NodesRise ns
    → (o : Option Node) → IfSome o NodeRises → IfSome (at_found k what ns o) NodesRise
at_found-rises k what is ns h None one = insert-rises k (new_node what) ns (new_node-rises what is) h
at_found-rises k what is ns h (Some x) one = changed-rises k ns (redefine what x) h (redefine-rises what x one)

at_key-rises : (k : List ℕ) (what : Definition) → DefinitionRises what → KeepsRising (at_key k what)
unfolding at_key
at_key-rises k what is ns h = at_found-rises k what is ns h (get_node k ns) (get-rises k ns h)

pub put-rises : (key : Key) (d : Data) → Rises d → (ns : Nodes) → NodesRise ns → IfSome (put key d ns) NodesRise
put-rises key d h ns rise = along_dots-rises key.0 (at_key key.1 (key_value d)) (at_key-rises key.1 (key_value d) h) ns
    rise

abbrev pub DocumentRises : Document → Type 0
DocumentRises doc = NodesRise doc.0

define_as-rises : (doc : Document) (key : Key) (what : Definition) → DocumentRises doc → DefinitionRises what
    → IfSome (define_as doc key what) DocumentRises
define_as-rises doc key (key_value d) rise h =
    map-if NodesRise DocumentRises (λ root. (root, doc.1)) (along_header doc.1 (put key d) doc.0)
    (along_header-rises doc.1 (put key d) (put-rises key d h) doc.0 rise) (λ root more. more)
define_as-rises doc key std_table rise h =
    map-if NodesRise DocumentRises (λ root. (root, _)) (along_header key.0 (at_key key.1 std_table) doc.0)
    (along_header-rises key.0 (at_key key.1 std_table) (at_key-rises key.1 std_table tt) doc.0 rise) (λ root more. more)
define_as-rises doc key array_table rise h =
    map-if NodesRise DocumentRises (λ root. (root, _)) (along_header key.0 (at_key key.1 array_table) doc.0)
    (along_header-rises key.0 (at_key key.1 array_table) (at_key-rises key.1 array_table tt) doc.0 rise)
    (λ root more. more)

pub define-rises : (doc : Document) (e : Key × Definition) → DocumentRises doc → DefinitionRises e.1
    → IfSome (define doc e) DocumentRises
unfolding define
define-rises doc e rise h = define_as-rises doc e.0 e.1 rise h
