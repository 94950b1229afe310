use Rattle.std.proofs.Common.{◌≡◌, sym, subst, refl, Ok}
use Rattle.vet_base.specs.Defined.{defined, table_told}
use Rattle.vet_graph.specs.StandingOf.{class_of_pair}
use Rattle.vet_register.specs.ClassOfFile.{class_in, facts_of}
use Rattle.vet_register.proofs.ClassOfFileLemmas.{answered, table_passed}
use Rattle.vet_register.proofs.class_of_file.class_in.Goals as goal

pub defined_table-requires : goal.defined_table-requires
defined_table-requires c =
    subst (λ cs. table_told cs ≡ Ok (defined cs)) (sym c.into_vec.ensures)
    (table_passed c.args.pair.now.criterion c.args.content c.in_ok-check_criteria.ensures c.requires)

pub returns-clause-is : goal.returns-clause-is
returns-clause-is c = rw
    (c.in_ok-facts.ensures.ok, c.in_ok-criteria.ensures.ok, c.into_vec.ensures, c.into_vec-2.ensures) at
    c.class_of_pair.ensures.is

pub returns-clause-told : goal.returns-clause-told
returns-clause-told c =
    let told : class_in c.args.content c.args.pair.now ≡ Ok (class_of_pair (facts_of c.args.content) c.args.pair.now)
    = rw c.in_ok-check_criteria.ensures refl in
    let found = rw (c.in_ok-facts.ensures.ok, c.in_ok-criteria.ensures.ok, c.into_vec.ensures, c.into_vec-2.ensures)
    at c.class_of_pair.ensures.ok in
    answered c.class_of_pair.result (class_of_pair (facts_of c.args.content) c.args.pair.now)
    (class_in c.args.content c.args.pair.now) told found c.class_of_pair.ensures.memory
