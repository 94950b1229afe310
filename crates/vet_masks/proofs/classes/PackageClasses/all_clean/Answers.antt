use Rattle.std.proofs.Common.{◌≡◌, ◌≤◌, ◌<◌, ◌+◌, ◌*◌, ◌++◌, ◌∷◌, ℕ, [], length, take, refl, sym, ap, subst, ◌∙◌}
use Rattle.std.proofs.Common.{arith, inl, inr}
use Rattle.std.proofs.Math.Nat.{le-max_left, max-le, mul-le-mul}
use Rattle.std.proofs.lemmas.Bool.{cases_lt}
use Rattle.std.proofs.lemmas.List.{length-map, length_push, take_all}
use Rattle.vet_base.specs.declared.limits.TheConstants.{MOST_CRITERIA as most}
use Rattle.vet_masks.specs.Classes.{AreReached, held_by, held_by_all, spent_by}
use Rattle.vet_masks.specs.Exempt.{exempt_versions}
use Rattle.vet_masks.specs.Growing.{is_taken_now}
use Rattle.vet_masks.specs.Index.{ends_of}
use Rattle.vet_masks.specs.Masks.{size}
use Rattle.vet_masks.specs.Rules.{rule_of}
use Rattle.vet_masks.proofs.Growing.{clean-more, counts-begin, counts-on, enough-more, exempt-more, front-ends}
use Rattle.vet_masks.proofs.Growing.{le-next, spent-last, spent-next, spent_by-none, times-next}
use Rattle.vet_masks.proofs.Indexing.{numbers_in}
use Rattle.vet_masks.proofs.classes.PackageClasses.all_clean.Goals as goal

pub searches-init : goal.searches-init
searches-init c =
    let index = c.args.shared.now.index.now in
    let u = size most index.used in
    record {
      long = ap length c.new-all.ensures.items;
      clean = λ condemned h i l. absurd (omega (arith, l, ap length c.new-all.ensures.items));
      steps = refl;
      least = omega arith;
      count = omega (arith, spent_by-none u (take c.args.shared.now.first index.ends.items));
      bound = omega arith;
    }

pub clean_at-requires-clause-count : goal.clean_at-requires-clause-count
clean_at-requires-clause-count c =
    let h = c.requires.shared.1 in
    let steps = c.args.looks.now.steps in
    let index = c.args.shared.now.index.now in
    let most_searches : c.max-count.result ≤ 129 = subst (λ n. n ≤ 129) (sym c.max-count.ensures)
    (max-le (omega (arith, c.searches_for.ensures.most))
    (omega (arith, c.len.ensures, c.args.self.now.clean.ok, h.found.1.below))) in
    let times : c.searches.place * ((most + 1) * length steps) ≤ 129 * ((most + 1) * length steps) =
    mul-le-mul (omega (arith, most_searches, c.searches-test.true)) (omega arith) in
    omega (
      arith,
      times,
      c.searches.invariant.bound,
      c.requires.count,
      ap length h.index.ends,
      length-map steps (ends_of (numbers_in index)),
      index.ends.ok,
      index.ends.small,
    )

pub searches-preserved : goal.searches-preserved
searches-preserved c =
    let inv = c.searches.invariant in
    let steps = c.args.looks.now.steps in
    let clean = c.args.self.now.clean.items in
    let shared = c.args.shared.now in
    let place = c.searches.place in
    let all = c.searches.all.items in
    let one = c.in_ok-clean_at.field-0 in
    let told = rw inv.steps at c.in_ok-clean_at.ensures in
    let more : c.push.new.self.items ≡ all ++ one ∷ [] = c.in_ok-push.ensures.items in
    let u = size most shared.index.now.used in
    let ends = shared.index.now.ends.items in
    let front = take shared.first ends in
    let spent_now : spent_by u (held_by_all c.push.new.self.items) ends
    ≡ spent_by u (held_by_all all) ends + spent_by u (one.items ∷ []) ends =
    ap (λ xs. spent_by u (held_by_all xs) ends) more ∙ spent-last u all one ends in
    record {
      long = omega (arith, ap length more, length_push all one, inv.long);
      clean = λ condemned h. subst
          (λ xs. (i : ℕ) → i < length xs → AreReached steps shared.index.now condemned
          (is_taken_now shared (rule_of i)) (held_by xs i)) (sym more)
          (clean-more (λ i held. AreReached steps shared.index.now condemned (is_taken_now shared (rule_of i)) held)
          all one (inv.clean condemned h)
          (subst (λ k. AreReached steps shared.index.now condemned (is_taken_now shared (rule_of k)) one.items)
          (sym inv.long) (told.clean condemned h)));
      steps = c.in_ok-clean_at.ensures.steps ∙ inv.steps;
      least = omega (arith, inv.least, told.least);
      count = elim (cases_lt place (length clean)) [
        | inl low ↦ counts-on c.args.looks.now.count c.searches.looks.count c.clean_at.new.looks.count
            (spent_by u (held_by_all (take place clean)) front) _ (spent_by u (held_by clean place ∷ []) front)
            (spent_by u (held_by_all all) ends) _ (spent_by u (one.items ∷ []) ends) inv.count (told.goes_on low)
            (spent-next u clean one place front low) spent_now
        | inr high ↦ counts-begin c.args.looks.now.count c.searches.looks.count c.clean_at.new.looks.count
            (spent_by u (held_by_all (take place clean)) front) _ (spent_by u (held_by_all all) ends) _
            (spent_by u (one.items ∷ []) ends) inv.count (told.begins high)
            (ap (λ xs. spent_by u (held_by_all xs) front)
            (take_all (place + 1) clean (le-next (length clean) place high) ∙ sym (take_all place clean high)))
            spent_now
      ];
      bound = omega (arith, inv.bound, told.bound, times-next place ((most + 1) * length steps));
    }

pub returns-clause-enough : goal.returns-clause-enough
returns-clause-enough c =
    let more : c.searches_for.result ≤ length c.searches.all.items = omega (
      arith,
      le-max_left c.searches_for.result c.len.result,
      c.max-count.ensures,
      c.searches.invariant.long,
      c.searches-test.false,
    ) in
    enough-more c.args.shared.now.exempt.now.count c.searches_for.result (length c.searches.all.items) more
    c.searches_for.ensures.enough

pub returns-clause-few : goal.returns-clause-few
returns-clause-few c =
    let h = c.requires.shared.1 in
    let p = c.args.self.now in
    let shared = c.args.shared.now in
    let ends = shared.index.now.ends.items in
    let held : p.exempt.count ≤ shared.exempt.now.count = omega (
      arith,
      h.found.1.exempt.count,
      ap (λ es. length (exempt_versions es))
          (front-ends c.args.looks.now.steps c.requires.shared.0 p shared h),
      exempt-more shared.first ends,
      h.exempt.count,
    ) in
    omega (
      arith,
      held,
      h.found.1.few,
      c.len.ensures,
      p.clean.ok,
      c.searches_for.ensures.few,
      c.max-count.ensures,
      c.searches.invariant.long,
      c.searches.auto.place-end,
    )
