use Rattle.std.proofs.Common.{◌≤◌, length, sym, ap, ◌∙◌, arith}
use Rattle.std.proofs.lemmas.Bool.{false≢true}
use Rattle.vet_base.specs.declared.limits.TheConstants.{MOST_PEER_CRITERIA}
use Rattle.vet_base.specs.Defined.{defined}
use Rattle.vet_base.specs.FurtherCriteria.{further}
use Rattle.vet_register.proofs.SoundPeers.{again_is, too_many}
use Rattle.vet_register.proofs.sound_peers.are_defined.Goals as goal

pub returns-then-len-gt-MOST_PEER_CRITERIA-clause-ok : goal.returns-then-len-gt-MOST_PEER_CRITERIA-clause-ok
returns-then-len-gt-MOST_PEER_CRITERIA-clause-ok c = (
  λ t. absurd (false≢true t),
  λ of_peer. absurd (too_many c.args.definitions.now
      (omega (
        arith,
        c.if-len-gt-MOST_PEER_CRITERIA.true,
        c.len.ensures,
        c.in_ok-criteria.criteria.ok.0,
        ap length c.in_ok-criteria.ensures,
      )) of_peer),
)

pub returns-clause-ok : goal.returns-clause-ok
returns-clause-ok c =
    let most : length (further c.args.definitions.now) ≤ MOST_PEER_CRITERIA = omega (
      arith,
      c.if-len-gt-MOST_PEER_CRITERIA.false,
      c.len.ensures,
      c.in_ok-criteria.criteria.ok.0,
      ap length c.in_ok-criteria.ensures,
    ) in
    let told = again_is c.args.definitions.now most in
    let again = c.in_ok-again.ensures.ok ∙ ap defined c.in_ok-criteria.ensures in (
      λ t. told.0 (sym again ∙ c.eq.ensures.same.0 t),
      λ of_peer. c.eq.ensures.same.1 (again ∙ told.1 of_peer),
    )
