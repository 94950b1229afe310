use Rattle.std.proofs.Common.{◌≡◌, ◌∙◌, ℕ, ◌+◌, ◌<◌, length, slice_index_or, ap, arith, below_more, refl, subst, sym}
use Rattle.std.proofs.lemmas.Bool.{true≢false}
use Rattle.std.proofs.lemmas.List.{ext_get_or}
use Rattle.std.proofs.lemmas.List.FromFn.{length-range_with_len, get_or-range_with_len}
use Rattle.vet_tables.specs.Form.{first_place, key_places, rowid_of}
use Rattle.vet_tables.proofs.has_form.are_key_places.Goals as goal

pub returns-then-places-key : goal.returns-then-places-key
returns-then-places-key c = (
  λ never. absurd (true≢false (sym never)),
  λ same. absurd (c.if-places-key.true (ap length same
      ∙ length-range_with_len (first_place (rowid_of c.args.form.now)) c.args.form.now.key ∙ sym c.key-2.ensures)),
)

pub key-init : goal.key-init
key-init c k low = absurd (omega (arith, low))

pub returns-then-places-at : goal.returns-then-places-at
returns-then-places-at c =
    let first : ℕ = first_place (rowid_of c.args.form.now) in
    let within : c.key.at < c.args.form.now.key =
    subst (λ n. c.key.at < n) (c.if-places-key.false ∙ c.key-2.ensures) c.key-test.true in (
      λ never. absurd (true≢false (sym never)),
      λ same. absurd (c.if-places-at.true (ap (λ l. slice_index_or l c.key.at 0) same
          ∙ get_or-range_with_len first c.args.form.now.key c.key.at 0 within
          ∙ ap (λ n. n + c.key.at) (sym c.first_place-first.ensures))),
    )

pub key-preserved : goal.key-preserved
key-preserved c k low =
    below_more (λ j. slice_index_or c.args.places.now j 0 ≡ c.first_place-first.result + j) c.key.at c.key.invariant
    c.if-places-at.false k low

pub returns : goal.returns
returns c =
    let first : ℕ = first_place (rowid_of c.args.form.now) in
    let many : length c.args.places.now ≡ c.args.form.now.key = c.if-places-key.false ∙ c.key-2.ensures in (
      λ _. ext_get_or 0 c.args.places.now (key_places c.args.form.now)
          (many ∙ sym (length-range_with_len first c.args.form.now.key))
          (λ at low. c.key.invariant at (omega (arith, low, c.key-test.false))
          ∙ ap (λ n. n + at) c.first_place-first.ensures
          ∙ sym (get_or-range_with_len first c.args.form.now.key at 0 (subst (λ n. at < n) many low))),
      λ _. refl,
    )
