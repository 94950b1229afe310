use Rattle.std.proofs.Common.{ap, sym, ◌∙◌}
use Rattle.vet_base.specs.Criteria.{place_of, placed}
use Rattle.vet_base.proofs.Tables.{missing_place}
use Rattle.vet_entries.specs.Mapped.{mapped}
use Rattle.vet_entries.proofs.PeerWords.{closure_of_undefined, mapped_alone}
use Rattle.vet_entries.proofs.local_criteria.PeerWords.of_name.Goals as goal

pub returns-in-None : goal.returns-in-None
returns-in-None c =
    let defined = c.args.peer.now.content.table in
    let m = c.args.peer.now.settings.map in
    let n = c.args.name.now in
    let none = missing_place defined n (ap (λ t. place_of t n) (sym c.definitions.ensures) ∙ sym c.place.ensures.value
    ∙ c.in-None.is) in
    c.word.ensures ∙ ap (placed c.args.criteria.now)
    (sym (ap (mapped m) (closure_of_undefined defined n none) ∙ mapped_alone m n))
