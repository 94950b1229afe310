use Rattle.std.proofs.Common.{◌∙◌, ap, sym, map as mapped}
use Rattle.std.specs.FinMap as map
use Rattle.vet_base.specs.Definitions.{by_name}
use Rattle.vet_base.proofs.Tables.{entries_kept, implied_is, keys_is, values_is}
use Rattle.vet_base.proofs.definitions.Definitions.criteria.Goals as goal

pub returns-clause-entries : goal.returns-clause-entries
returns-clause-entries c =
    ap by_name c.as_slice.ensures.value
    ∙ sym (entries_kept c.self.inside.names.items c.self.inside.criteria.items c.self.invariant)
    ∙ ap map.entries c.self.view_is

pub returns-clause-names : goal.returns-clause-names
returns-clause-names c =
    ap (mapped (λ x. x.name)) c.as_slice.ensures.value ∙ c.self.invariant.named
    ∙ sym (keys_is c.self.inside.names.items c.self.inside.criteria.items c.self.invariant c.args.self.now
    c.self.view_is)

pub returns-clause-values : goal.returns-clause-values
returns-clause-values c =
    c.as_slice.ensures.value
    ∙ sym (values_is c.self.inside.names.items c.self.inside.criteria.items c.self.invariant c.args.self.now
    c.self.view_is)

pub returns-clause-implied : goal.returns-clause-implied
returns-clause-implied c p d =
    let keys = keys_is c.self.inside.names.items c.self.inside.criteria.items c.self.invariant c.args.self.now
    c.self.view_is in
    rw (c.as_slice.ensures.value, keys)
    (λ l. implied_is c.self.inside.names.items c.self.inside.criteria.items c.self.invariant c.args.self.now
    c.self.view_is p d l)
