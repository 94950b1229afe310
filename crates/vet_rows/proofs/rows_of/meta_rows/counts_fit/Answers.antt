use Rattle.std.proofs.Common.{◌+◌, ◌<◌, ◌^◌, length, ap, arith}
use Rattle.vet_graph.specs.declared.class.Class.TheVariants.{Conflicting, Full, Partial, Exempted, Unvetted}
use Rattle.vet_register.specs.State.{demanded}
use Rattle.vet_rows.proofs.NumbersFit.{count_fits}
use Rattle.vet_rows.proofs.rows_of.meta_rows.counts_fit.Goals as goal

pub returns : goal.returns
returns g c =
    let s = c.args.register.now.state in
    let few : length (demanded s) + length s.moves < 2 ^ 63 = omega
    (arith, c.demand.type_inv, c.moves.type_inv, ap length c.demand.ensures, ap length c.moves.ensures) in
    record {
      conflicting = count_fits s c.facts.ensures.sound Conflicting few;
      full = count_fits s c.facts.ensures.sound Full few;
      partial = count_fits s c.facts.ensures.sound Partial few;
      exempted = count_fits s c.facts.ensures.sound Exempted few;
      unvetted = count_fits s c.facts.ensures.sound Unvetted few;
    }
