use Rattle.std.proofs.Common.{◌≡◌, ◌++◌, false, map, sym, ap, ◌∙◌}
use Rattle.std.specs.BTreeMap.{keys}
use Rattle.std.specs.FinSet as set
use Rattle.vet_base.specs.Words.{Name}
use Rattle.vet_demand.specs.declared.pair.Pair.{Pair}
use Rattle.vet_masks.specs.Standings.{PackageStands}
use Rattle.vet_masks.specs.Packages.{is_among}
use Rattle.vet_masks.proofs.Naming.{in-none, kept-named, none-named, not-in}
use Rattle.vet_masks.proofs.Touching.{slot-named}
use Rattle.vet_masks.proofs.keeper.MaskKeeper.all_names.Goals as goal

-- the names are those of slots, of what is kept, and of pairs and entries that have no such slot
lacks : (c : goal.In_ok-of) (name : Name) → set.contains c.in_ok-of.field-0 name ≡ false
    → (is_among name (map (λ (p : PackageStands). p.«package») c.args.self.now.standing) ≡ false)
    × ((is_among name (keys c.args.self.now.packages.packages) ≡ false)
    × (is_among name c.add_other_packages.new.names.items ≡ false))
lacks c name none = in-none c.in_ok-of.field-0 (map (λ (p : PackageStands). p.«package») c.args.self.now.standing)
    (keys c.args.self.now.packages.packages) c.in_ok-add_other_packages.ensures.names.0
    c.in_ok-add_entries.ensures.names.0 _ _ _ c.add_entries.new.names.items name c.in_ok-of.ensures
    (c.in_ok-add_names.ensures.names ∙ ap (λ l. l ++ map (λ (p : PackageStands). p.«package») c.args.self.now.standing)
    c.new-names.ensures.items)
    c.in_ok-add_names-2.ensures.names c.in_ok-add_other_packages.ensures.names.1
    c.in_ok-add_entries.ensures.names.1 none

pub returns-clause-slots : goal.returns-clause-slots
returns-clause-slots c name none = slot-named c.args.self.now.standing name ∙ (lacks c name none).0

pub returns-clause-kept : goal.returns-clause-kept
returns-clause-kept c name none =
    kept-named c.args.self.now.packages.packages.entries name ∙ (lacks c name none).1.0

pub returns-clause-pairs : goal.returns-clause-pairs
returns-clause-pairs c name none = none-named (λ (p : Pair). p.«package») name c.args.demand.now
    (ap (λ l. is_among name (map (λ (p : Pair). p.«package») l)) (sym c.pairs.ensures.value)
    ∙ c.in_ok-add_other_packages.ensures.others name (lacks c name none).1.1 (returns-clause-kept c name none))

pub returns-clause-entries : goal.returns-clause-entries
returns-clause-entries c name none =
    c.in_ok-add_entries.ensures.entries name
    (not-in c.in_ok-of.field-0 c.add_entries.new.names.items name c.in_ok-of.ensures none)
    (returns-clause-kept c name none)
