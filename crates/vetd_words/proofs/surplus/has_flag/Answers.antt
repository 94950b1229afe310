-- One word settles it.
use Rattle.std.proofs.Common.{◌≡◌, ◌∙◌, Bool, ap, sym, true}
use Rattle.std.proofs.lemmas.List.Folds.{list_any_at}
use Rattle.std.proofs.lemmas.List.{take_all}
use Rattle.std.specs.List.{list_any}
use Rattle.vetd_words.specs.Surplus.{is_flag}
use Rattle.vetd_words.proofs.SurplusLemmas.{any_of_map}
use Rattle.vetd_words.proofs.surplus.has_flag.Goals as goal

pub returns-then-is_flag : goal.returns-then-is_flag
returns-then-is_flag g c =
    let test : g.row.S.Denot → Bool = λ word. is_flag (g.S.AsStr.text word) in
    let item : test c.word-item.result ≡ true =
    ap is_flag (sym c.as_str.ensures) ∙ sym c.is_flag.ensures ∙ c.if-is_flag.true in
    sym (any_of_map is_flag g.S.AsStr.text c.args.words.now
    ∙ list_any_at test c.args.words.now c.words.word-index c.word-item.result c.words-test.true
    (ap test (sym c.word-item.is) ∙ item))

pub returns : goal.returns
returns g c =
    let test : g.row.S.Denot → Bool = λ word. is_flag (g.S.AsStr.text word) in
    sym (any_of_map is_flag g.S.AsStr.text c.args.words.now
    ∙ ap (list_any test) (sym (take_all c.words.word-index c.args.words.now c.words-test.false)) ∙ c.words.invariant)
