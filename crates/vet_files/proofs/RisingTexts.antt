-- The keys of a table that a text is rise, at every level.
use Rattle.std.proofs.Common.{◌==◌, ◌&&◌, ℕ, zero, suc, List, [], length, drop, Some, None}
use Rattle.std.specs.Prelude.{IfSome, slice_index}
use Rattle.std.proofs.lemmas.Bool.{cond_both}
use Rattle.toml_parser.specs.Lexical.{Read, first, left_brace, left_bracket, right_brace, right_bracket, skip_blank}
use Rattle.toml_parser.specs.Lexical.{skip_ws}
use Rattle.toml_parser.specs.Numbers.{unquoted}
use Rattle.toml_parser.specs.Strings.{Key, quoted, recursion_limit, starts_string}
use Rattle.toml_parser.specs.declared.scalar.Scalar.{Scalar}
use Rattle.toml_parser.specs.declared.scalar.Scalar.TheVariants.{Boolean, Integer, Float, Datetime}
use Rattle.toml.specs.Data.{Data, Items, array, no_items, push_item, string, table}
use Rattle.toml.specs.Parse.{after_byte, after_element, atom, ends_line, expression, header_key, items, key_equals}
use Rattle.toml.specs.Parse.{keyval, line, lines, members, parse_document, read_map, scalar_data, skip_bom, val}
use Rattle.toml.specs.Tables.{Document, Expression, Nodes, array_table, close, define, key_value, no_nodes, put}
use Rattle.toml.specs.Tables.{std_table}
use Rattle.vet_files.proofs.Rising.{AllRise, Rises, Rising, map-any, map-if, push-rises, then-any, then-if}
use Rattle.vet_files.proofs.RisingNodes.{DefinitionRises, DocumentRises, NodesRise, close-rises, define-rises}
use Rattle.vet_files.proofs.RisingNodes.{put-rises}

-- what is read with the text behind it
abbrev IfRead : {A : Type 0} → (A → Type 0) → Read A → Type 0
IfRead P r = IfSome r (λ p. P p.0)

abbrev GivesRising : (List ℕ → Read Data) → Type 0
GivesRising read = (text : List ℕ) → IfRead Rises (read text)

abbrev PairRises : Key × Data → Type 0
PairRises p = Rises p.1

keyval-rises : (read : List ℕ → Read Data) → GivesRising read → (text : List ℕ) → IfRead PairRises (keyval read text)
keyval-rises read gives text =
    then-any (λ p. PairRises p.0) (key_equals text) (λ k. read_map (λ d. (k.0, d)) (read k.1))
    (λ k. map-if (λ p. Rises p.0) (λ p. PairRises p.0) (λ p. ((k.0, p.0), p.1)) (read k.1) (gives k.1) (λ p h. h))

items-rise : (read : List ℕ → Read Data) → GivesRising read → (n : ℕ) (found : Items) (text : List ℕ) → AllRise found
    → IfRead AllRise (items read n found text)
unfolding items
items-rise read gives zero found text h = tt
items-rise read gives (suc n) found text h =
    let start = skip_blank text in
    cond_both (first start == right_bracket) (Some (found, drop 1 start)) _ (IfRead AllRise) (λ _. h) (λ _.
    then-if (λ p. Rises p.0) (λ p. AllRise p.0) (read start) _ (gives start) (λ v one.
    then-any (λ p. AllRise p.0) (after_element right_bracket v.1) (items read n (push_item found v.0))
    (λ rest. items-rise read gives n (push_item found v.0) rest (push-rises found v.0 h one))))

members-rise : (read : List ℕ → Read Data) → GivesRising read → (n : ℕ) (found : Nodes) (text : List ℕ)
    → NodesRise found → IfRead Rising (members read n found text)
unfolding members
members-rise read gives zero found text h = tt
members-rise read gives (suc n) found text h =
    let start = skip_blank text in
    cond_both (first start == right_brace) (Some (close found, drop 1 start)) _ (IfRead Rising)
    (λ _. close-rises found h) (λ _.
    then-if (λ p. PairRises p.0) (λ p. Rising p.0) (keyval read start) _ (keyval-rises read gives start) (λ e one.
    then-if NodesRise (λ p. Rising p.0) (put e.0.0 e.0.1 found) _ (put-rises e.0.0 e.0.1 one found h) (λ more held.
    then-any (λ p. Rising p.0) (after_element right_brace e.1) (members read n more)
    (λ rest. members-rise read gives n more rest held))))

scalar-rises : (s : Scalar) → Rises (scalar_data s)
scalar-rises (Boolean b) = tt
scalar-rises (Integer z) = tt
scalar-rises (Float x) = tt
scalar-rises (Datetime dt) = tt

atom-rises : (text : List ℕ) → IfRead Rises (atom text)
unfolding atom
atom-rises text =
    cond_both (starts_string text) (read_map string (quoted text)) (read_map scalar_data (unquoted text)) (IfRead Rises)
    (λ _. map-any (λ p. Rises p.0) (λ p. (string p.0, p.1)) (quoted text) (λ p. tt))
    (λ _. map-any (λ p. Rises p.0) (λ p. (scalar_data p.0, p.1)) (unquoted text) (λ p. scalar-rises p.0))

val-rises : (depth : ℕ) → GivesRising (val depth)
unfolding val
val-rises zero text = atom-rises text
val-rises (suc depth) text =
    cond_both (first text == left_bracket) (read_map array (items (val depth) (length text) no_items (drop 1 text))) _
    (IfRead Rises)
    (λ _. map-if (λ p. AllRise p.0) (λ p. Rises p.0) (λ p. (array p.0, p.1))
    (items (val depth) (length text) no_items (drop 1 text))
    (items-rise (val depth) (val-rises depth) (length text) no_items (drop 1 text) tt) (λ p h. h))
    (λ _. cond_both (first text == left_brace)
    (read_map table (members (val depth) (length text) no_nodes (drop 1 text))) (atom text) (IfRead Rises)
    (λ _. map-if (λ p. Rising p.0) (λ p. Rises p.0) (λ p. (table p.0, p.1))
    (members (val depth) (length text) no_nodes (drop 1 text))
    (members-rise (val depth) (val-rises depth) (length text) no_nodes (drop 1 text) tt) (λ p h. h))
    (λ _. atom-rises text))

abbrev ExpressionRises : Expression → Type 0
ExpressionRises e = DefinitionRises e.1

expression-rises : (text : List ℕ) → IfRead ExpressionRises (expression text)
unfolding expression
expression-rises text =
    cond_both (first text == left_bracket && slice_index text 1 == left_bracket) _ _ (IfRead ExpressionRises)
    (λ _. then-any (λ p. ExpressionRises p.0) (header_key (drop 2 text)) _
    (λ k. map-any (λ p. ExpressionRises p.0) (λ rest. ((k.0, array_table), rest)) (after_byte right_bracket k.1)
    (λ rest. tt)))
    (λ _. cond_both (first text == left_bracket) _ _ (IfRead ExpressionRises)
    (λ _. map-any (λ p. ExpressionRises p.0) (λ p. ((p.0, std_table), p.1)) (header_key (drop 1 text)) (λ p. tt))
    (λ _. map-if (λ p. PairRises p.0) (λ p. ExpressionRises p.0) (λ p. ((p.0.0, key_value p.0.1), p.1))
    (keyval (val recursion_limit) text)
    (keyval-rises (val recursion_limit) (val-rises recursion_limit) text) (λ p h. h)))

line-rises : (text : List ℕ) → IfRead ExpressionRises (line text)
unfolding line
line-rises text =
    then-if (λ p. ExpressionRises p.0) (λ p. ExpressionRises p.0) (expression text) _ (expression-rises text)
    (λ e h. cond_both (ends_line (skip_ws e.1)) (Some e) None (IfRead ExpressionRises) (λ _. h) (λ _. tt))

lines-rise : (n : ℕ) (doc : Document) (text : List ℕ) → DocumentRises doc → IfSome (lines n doc text) DocumentRises
unfolding lines
lines-rise zero doc text h = tt
lines-rise (suc n) doc text h =
    let start = skip_blank text in
    cond_both (length start == 0) (Some doc) _ (λ o. IfSome o DocumentRises) (λ _. h) (λ _.
    then-if (λ p. ExpressionRises p.0) DocumentRises (line start) _ (line-rises start) (λ e one.
    then-if DocumentRises DocumentRises (define doc e.0) _ (define-rises doc e.0 h one)
    (λ next more. lines-rise n next e.1 more)))

pub document-rises : (text : List ℕ) → IfSome (parse_document text) Rising
unfolding parse_document
document-rises text =
    map-if DocumentRises Rising (λ doc. close doc.0) (lines (suc (length text)) (no_nodes, []) (skip_bom text))
    (lines-rise (suc (length text)) (no_nodes, []) (skip_bom text) tt) (λ doc h. close-rises doc.0 h)
