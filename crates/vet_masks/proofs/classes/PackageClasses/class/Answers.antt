use Rattle.std.proofs.Common.{◌≡◌, Some, false, length, sym, ap, ◌∙◌, arith}
use Rattle.std.proofs.lemmas.Bool.{false≢true, iff_false}
use Rattle.vet_base.specs.CriteriaSet.{has}
use Rattle.vet_graph.specs.ClassAtLaws.{class_at-unique}
use Rattle.vet_graph.specs.declared.class.Class.TheVariants.{Conflicting}
use Rattle.vet_masks.specs.Classes.{held_at}
use Rattle.vet_masks.proofs.Classing.{class-exempted, class-full, class-partial, class-unvetted, first-at, held-is}
use Rattle.vet_masks.proofs.Classing.{unnamed-unvetted}
use Rattle.vet_masks.proofs.Indexing.{numbers_in}
use Rattle.vet_masks.proofs.classes.PackageClasses.class.Goals as goal

pub index-requires-2 : goal.index-requires-2
index-requires-2 c =
    let h = c.requires.2 in
    let p = c.args.self.now in
    let n = c.in-Some.number in
    let known : numbers_in p.index c.args.version.now ≡ Some n =
    sym c.get.ensures.value ∙ sym c.copied.ensures ∙ c.in-Some.is in
    omega (
      arith,
      h.found.index.numbering.below c.args.version.now n known,
      (h.found.clean 0 h.enough.some).count,
      ap length (held-is p.clean.items 0 c.index.result.now h.enough.some c.index.ensures),
      c.index.result.now.ok,
    )

pub returns-in_default : goal.returns-in_default
returns-in_default c steps condemned h = unnamed-unvetted steps condemned c.args.self.now h c.args.version.now
    (sym c.get.ensures.value ∙ sym c.copied.ensures ∙ c.in_default.is) c.args.place

pub returns-then-is_conflicting : goal.returns-then-is_conflicting
returns-then-is_conflicting c steps condemned h =
    let v = c.args.version.now in
    let known : numbers_in c.args.self.now.index v ≡ Some c.in-Some.number =
    sym c.get.ensures.value ∙ sym c.copied.ensures ∙ c.in-Some.is in
    class_at-unique steps condemned c.args.place v Conflicting
    ((c.is_conflicting.ensures steps condemned h v known).0 c.if-is_conflicting.true)

pub returns-then-has : goal.returns-then-has
returns-then-has c steps condemned h =
    let p = c.args.self.now in
    let v = c.args.version.now in
    let n = c.in-Some.number in
    let place = c.args.place in
    let known : numbers_in p.index v ≡ Some n = sym c.get.ensures.value ∙ sym c.copied.ensures ∙ c.in-Some.is in
    let sound = iff_false (c.is_conflicting.ensures steps condemned h v known) c.if-is_conflicting.false in
    class-full steps condemned p h v n known place sound
    (first-at steps condemned p h v n known place c.index.result.now c.index.ensures c.index-2.result.now
    c.index-2.ensures ∙ sym c.has.ensures.value ∙ c.if-has.true)

pub returns-then-has-2 : goal.returns-then-has-2
returns-then-has-2 c steps condemned h =
    let p = c.args.self.now in
    let v = c.args.version.now in
    let n = c.in-Some.number in
    let place = c.args.place in
    let known : numbers_in p.index v ≡ Some n = sym c.get.ensures.value ∙ sym c.copied.ensures ∙ c.in-Some.is in
    let sound = iff_false (c.is_conflicting.ensures steps condemned h v known) c.if-is_conflicting.false in
    let first : has place (held_at p.clean.items 0 n) ≡ false =
    first-at steps condemned p h v n known place c.index.result.now c.index.ensures c.index-2.result.now
    c.index-2.ensures ∙ sym c.has.ensures.value ∙ c.if-has.false in
    class-partial steps condemned p h v n known place sound first
    ((c.reached.ensures place).0 (sym c.has-2.ensures.value ∙ c.if-has-2.true))

pub returns-then-has-3 : goal.returns-then-has-3
returns-then-has-3 c steps condemned h =
    let p = c.args.self.now in
    let v = c.args.version.now in
    let n = c.in-Some.number in
    let place = c.args.place in
    let known : numbers_in p.index v ≡ Some n = sym c.get.ensures.value ∙ sym c.copied.ensures ∙ c.in-Some.is in
    let sound = iff_false (c.is_conflicting.ensures steps condemned h v known) c.if-is_conflicting.false in
    let first : has place (held_at p.clean.items 0 n) ≡ false =
    first-at steps condemned p h v n known place c.index.result.now c.index.ensures c.index-2.result.now
    c.index-2.ensures ∙ sym c.has.ensures.value ∙ c.if-has.false in
    class-exempted steps condemned p h v n known place sound first
    (λ w. false≢true (sym (sym c.has-2.ensures.value ∙ c.if-has-2.false) ∙ (c.reached.ensures place).1 w))
    ((c.reached-2.ensures place).0 (sym c.has-3.ensures.value ∙ c.if-has-3.true))

pub returns : goal.returns
returns c steps condemned h =
    let p = c.args.self.now in
    let v = c.args.version.now in
    let n = c.in-Some.number in
    let place = c.args.place in
    let known : numbers_in p.index v ≡ Some n = sym c.get.ensures.value ∙ sym c.copied.ensures ∙ c.in-Some.is in
    let sound = iff_false (c.is_conflicting.ensures steps condemned h v known) c.if-is_conflicting.false in
    let first : has place (held_at p.clean.items 0 n) ≡ false =
    first-at steps condemned p h v n known place c.index.result.now c.index.ensures c.index-2.result.now
    c.index-2.ensures ∙ sym c.has.ensures.value ∙ c.if-has.false in
    class-unvetted steps condemned p h v n known place sound first
    (λ w. false≢true (sym (sym c.has-2.ensures.value ∙ c.if-has-2.false) ∙ (c.reached.ensures place).1 w))
    (λ w. false≢true (sym (sym c.has-3.ensures.value ∙ c.if-has-3.false) ∙ (c.reached-2.ensures place).1 w))
