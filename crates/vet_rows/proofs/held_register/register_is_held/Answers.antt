use Rattle.std.proofs.Common.{◌∙◌, ap, subst}
use Rattle.std.specs.List.{All}
use Rattle.vet_desk.specs.Desk.{DeskState}
use Rattle.vet_item_rows.specs.HeldValues.{IsKeyedPolicy, IsNamedProject, IsReview}
use Rattle.vet_item_rows.specs.ReadHeld.{AreFactsValues}
use Rattle.vet_item_rows.specs.Values.{IsName}
use Rattle.vet_rows.specs.HeldValues.{AreSettings, IsRecordedMove}
use Rattle.vet_rows.proofs.held_register.register_is_held.Goals as goal

pub returns : goal.returns
returns g c = record {
  facts = subst AreFactsValues c.facts.ensures.value c.facts_are_held.ensures;
  policies = subst (All IsKeyedPolicy) c.policies.ensures c.are_held.ensures;
  projects = subst (All IsNamedProject) c.projects.ensures c.are_held-2.ensures;
  settings = subst AreSettings c.settings.ensures c.is_held.ensures;
  members = subst (All IsName) (c.members.ensures.value ∙ ap (λ (d : DeskState). d.members) c.desk.ensures)
      c.are_held-3.ensures;
  reviews = subst (All IsReview) (c.reviews.ensures.value ∙ ap (λ (d : DeskState). d.reviews) c.desk-2.ensures)
      c.are_held-4.ensures;
  moves = subst (All IsRecordedMove) c.moves.ensures c.are_held-5.ensures;
}
