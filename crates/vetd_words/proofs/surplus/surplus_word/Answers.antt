-- The word at that place.
use Rattle.std.proofs.Common.{◌≡◌, ◌∙◌, Some, ap, map, option_map, slice_get, sym}
use Rattle.vetd_words.specs.Surplus.{words_taken}
use Rattle.vetd_words.proofs.SurplusLemmas.{none_past, surplus_at, text_at}
use Rattle.vetd_words.proofs.surplus.surplus_word.Goals as goal

pub returns-in_err-word : goal.returns-in_err-word
returns-in_err-word g c =
    let past = c.in_err-word.ensures.lookup.3 in
    let texts = map g.S.AsStr.text c.args.words.now in
    let name = c.as_str-name.result.now in
    let item = c.in_ok-first.ensures.item in
    let first : slice_get texts 0 ≡ Some name =
    text_at g.S.AsStr.text c.args.words.now 0 c.in_ok-first.field-0.now item.3.0 item.1
    ∙ ap Some (sym c.as_str-name.ensures) in
    let takes : words_taken name ≡ Some c.in_ok-taken.taken = sym c.words_taken.ensures ∙ c.in_ok-taken.was in
    ap (option_map (λ s. s.now)) c.from_residual-in_err-word.ensures
    ∙ sym (surplus_at g.S.AsStr.text c.args.words.now name c.in_ok-taken.taken
    (sym c.has_flag.ensures ∙ c.if-has_flag.false) first takes
    ∙ none_past g.S.AsStr.text c.args.words.now c.in_ok-taken.taken past)

pub returns : goal.returns
returns g c =
    let at = c.in_ok-word.ensures.lookup in
    let texts = map g.S.AsStr.text c.args.words.now in
    let name = c.as_str-name.result.now in
    let item = c.in_ok-first.ensures.item in
    let first : slice_get texts 0 ≡ Some name =
    text_at g.S.AsStr.text c.args.words.now 0 c.in_ok-first.field-0.now item.3.0 item.1
    ∙ ap Some (sym c.as_str-name.ensures) in
    let takes : words_taken name ≡ Some c.in_ok-taken.taken = sym c.words_taken.ensures ∙ c.in_ok-taken.was in
    sym (surplus_at g.S.AsStr.text c.args.words.now name c.in_ok-taken.taken
    (sym c.has_flag.ensures ∙ c.if-has_flag.false) first takes
    ∙ text_at g.S.AsStr.text c.args.words.now c.in_ok-taken.taken c.in_ok-word.word.now at.3.0 at.1
    ∙ ap Some (sym c.as_str.ensures))
