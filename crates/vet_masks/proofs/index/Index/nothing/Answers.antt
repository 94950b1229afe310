use Rattle.std.proofs.Common.{◌≡◌, [], None, sym, ap, ◌∙◌, get_or, length, arith}
use Rattle.std.specs.FinSet as set
use Rattle.std.specs.Ordering.{nat_cmp}
use Rattle.std.specs.BTreeMap.{get}
use Rattle.std.proofs.lemmas.List.Elements.{All-nil}
use Rattle.vet_base.specs.CriteriaSet.{has}
use Rattle.vet_base.specs.Version.{VersionValue}
use Rattle.vet_base.specs.VersionOrder.{version_cmp}
use Rattle.vet_demand.specs.Spread.{lists_in}
use Rattle.vet_masks.specs.Index.{IsNamed, places_from}
use Rattle.vet_masks.proofs.Indexing.{no-places}
use Rattle.vet_masks.proofs.index.Index.nothing.Goals as goal

pub returns-clause-index : goal.returns-clause-index
returns-clause-index c = record {
  numbering =
      record {
        below = λ v k e. absurd (let q = sym (none v) ∙ e in cc q);
        apart = λ v w k e. absurd (let q = sym (none v) ∙ e in cc q);
        each = λ k l. absurd (omega (arith, l, ap length c.new-3.ensures.items));
      };
  named = All-nil (IsNamed (get version_cmp c.new.result));
  ends = c.new-2.ensures.items;
  filed = λ n. ap (λ xs. get_or (lists_in xs) n []) c.new-3.ensures.items ∙ sym (ap (places_from 0 n)
      c.new-2.ensures.items ∙ no-places n);
  used = λ q. ap (has q) c.empty.ensures ∙ set.contains-empty nat_cmp q;
}
  where
    none : (v : VersionValue) → get version_cmp c.new.result v ≡ None
    none v = search
