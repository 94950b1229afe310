use Rattle.std.proofs.Common.{◌∙◌, length, take, refl, ap, arith}
use Rattle.std.proofs.lemmas.List.{length-map}
use Rattle.vet_masks.proofs.Indexing.{IsIndex-alike}
use Rattle.vet_masks.proofs.index.Index.extended.Goals as goal

pub steps-init : goal.steps-init
steps-init c =
    let told = c.in_ok-index.ensures in
    record {
      index = IsIndex-alike (take c.args.first c.args.looks.now.steps) c.args.self.now c.in_ok-index.index
          c.requires.index told.numbers told.ends told.after told.used;
      keeps = λ v k e. told.numbers v ∙ e;
      more = omega (
        arith,
        ap length told.after,
        length-map c.args.self.now.after.items (λ l. l.items),
        length-map c.in_ok-index.index.after.items (λ l. l.items),
      );
      steps = refl;
      count = omega arith;
    }
